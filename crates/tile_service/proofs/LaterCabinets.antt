-- Later cabinets: no number that was given is taken back.
use Rattle.std.proofs.Common.{◌≡◌, ℕ, ◌<◌, ◌≤◌, Bool, true, false, List, length, Option, Some, None, refl, sym, subst, ◌∙◌, arith, if◌then◌else◌}
use Rattle.std.specs.Prelude.{nat_lt}
use Rattle.cabinet.specs.Commands.{book_before}
use Rattle.cabinet.specs.Counted.{scope_exceeded, victim_in}
use Rattle.cabinet.specs.declared.entry.HistoryEntry.{HistoryEntry}
use Rattle.cabinet.specs.declared.entry.HistoryEntry.TheVariants as entry
use Rattle.cabinet.specs.declared.kept.KeptBlob.{KeptBlob}
use Rattle.cabinet.specs.History.{CabinetStanding, after, last_number, next}
use Rattle.cabinet.specs.State.{State, asked_at, grown, now}
use Rattle.cabinet.proofs.Rows.{now_more}
use Rattle.catalog.specs.declared.catalogue.Catalogue.{Catalogue}
use Rattle.catalog.specs.declared.catalogue.Scope.{Scope}
use Rattle.metatile_plan.specs.declared.metatile.MetaKey.{MetaKey}
use Rattle.tile_requests.specs.declared.outcome.Outcome.TheVariants as outcome
use Rattle.tile_requests.specs.declared.outcome.Plain.TheVariants as plain
use Rattle.tile_requests.specs.Requests.{cut_at, cut_by, cut, dropped, expired_in, expired}
use Rattle.tile_service.specs.Run.{HasNumbers}
use Rattle.truncation_list.specs.declared.cover.Cover.{Cover}

-- LATER CABINETS

-- the same opening, and no number that was given is taken back
pub record IsLater (s t : State) : Type 0 where
  pub opening : t.opening ≡ s.opening
  pub front : (now s).front ≤ (now t).front

pub same : (s : State) → IsLater s s
same s = record { opening = refl; front = omega arith }

pub later : (s t u : State) → IsLater s t → IsLater t u → IsLater s u
later s t u a b = record { opening = b.opening ∙ a.opening; front = let i = a.front in let j = b.front in omega arith }

-- so where numbers are left, they were before
pub before : (s t : State) → IsLater s t → HasNumbers t → HasNumbers s
before s t a left = let i = a.front in let j : (now t).front < last_number s.opening = subst (λ o. (now t).front < last_number o) a.opening left in omega arith

front_after : (c : Catalogue) (s : CabinetStanding) (e : HistoryEntry) → s.front ≤ (after c s e).front
front_after c s (entry.At n) = omega arith
front_after c s (entry.Started k m) = omega arith
front_after c s (entry.Cut t cover) = omega arith
front_after c s (entry.Missed t) = omega arith
front_after c s (entry.Stored k m place long n uses) = omega arith
front_after c s (entry.Counted m u) = omega arith
front_after c s (entry.Ended k) = omega arith
front_after c s (entry.Used m) = omega arith
front_after c s (entry.Dropped m) = omega arith

pub grows : (s : State) (e : HistoryEntry) (blobs : Option (List KeptBlob)) → IsLater s (grown s e blobs)
grows s e blobs = record { opening = refl; front = subst (λ (x : CabinetStanding). (now s).front ≤ x.front) (sym (now_more s e blobs)) (front_after s.catalogue (now s) e) }

pub asked_later : (s : State) (n : ℕ) → IsLater s (asked_at n s)
asked_later s n = let g = grows s (entry.At n) s.blobs in record { opening = refl; front = g.front }

-- COMMANDS

pub cut_later : (s : State) (cover : Cover) (left unwritten : Bool) → IsLater s (cut s cover left unwritten).0
cut_later s cover false unwritten = same s
cut_later s cover true unwritten = by_number (next s.opening (now s))
  where
    at : (t : ℕ) (unwritten : Bool) → IsLater s (cut_at s cover t unwritten).0
    at t true = grows s _ _
    at t false = grows s _ _

    chosen : (t : ℕ) (b : Bool) → IsLater s (if b then cut_at s cover t unwritten else (s, outcome.Plain plain.CutsFull)).0
    chosen t true = at t unwritten
    chosen t false = same s

    by_number : (n : Option ℕ) → IsLater s (cut_by s cover unwritten n).0
    by_number None = same s
    by_number (Some t) = chosen t (nat_lt (length (book_before s cover).cuts) s.catalogue.cut_limit)

pub expired_later : (s : State) (left unwritten : Bool) → IsLater s (expired s left unwritten).0
expired_later s left unwritten = of_scope (scope_exceeded s) unwritten
  where
    of_victim : (m : Option MetaKey) → IsLater s (dropped s left m).0
    of_victim None = same s
    of_victim (Some m) = grows s _ _

    of_scope : (o : Option Scope) (unwritten : Bool) → IsLater s (expired_in s left o unwritten).0
    of_scope None unwritten = same s
    of_scope (Some scope) true = same s
    of_scope (Some scope) false = of_victim (victim_in s scope)
