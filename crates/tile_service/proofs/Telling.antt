-- An immediate answer: what it leaves of the cabinet, and what holds of it.
use Rattle.std.proofs.Common.{◌≡◌, ℕ, ◌+◌, Bool, true, false, List, [], ◌∷◌, length, not, Option, Some, None, refl, sym, arith, append-nil, if◌then◌else◌}
use Rattle.std.specs.Prelude.{nat_lt}
use Rattle.std.specs.Option.{IfSome}
use Rattle.cabinet.specs.Commands.{book_before}
use Rattle.cabinet.specs.Counted.{scope_exceeded, victim_in}
use Rattle.cabinet.specs.declared.entry.HistoryEntry.TheVariants as entry
use Rattle.cabinet.specs.Hits.{hits_of}
use Rattle.cabinet.specs.History.{History, is_of, next}
use Rattle.cabinet.specs.State.{State, IsPictured, IsSound, blobs_spared, blobs_without, now, with_cut}
use Rattle.cabinet.proofs.Modelled.{some_and_made}
use Rattle.cache_core.specs.Fits.{ExtendsHistory}
use Rattle.catalog.specs.declared.catalogue.Catalogue.{Catalogue}
use Rattle.catalog.specs.declared.catalogue.Scope.{Scope}
use Rattle.http_wire.specs.declared.message.Message.{Message}
use Rattle.metatile_locks.proofs.Lists.{all_filter}
use Rattle.metatile_plan.specs.declared.metatile.MetaKey.{MetaKey}
use Rattle.tile_requests.specs.declared.outcome.Outcome.{Outcome}
use Rattle.tile_requests.specs.declared.outcome.Outcome.TheVariants as outcome
use Rattle.tile_requests.specs.declared.outcome.Plain.TheVariants as plain
use Rattle.tile_requests.specs.declared.request.Request.{Request}
use Rattle.tile_requests.specs.declared.spelling.Spelling.{Spelling}
use Rattle.tile_requests.specs.Routes.{spelling_of}
use Rattle.tile_service.specs.OneLine.{Keeps}
use Rattle.tile_requests.specs.Requests.{answered_at, is_made, told_at, told_usage, cut_at, cut_by, cut, dropped, expired_in, expired, tile_of}
use Rattle.tile_service.specs.Run.{PendingRequest, Answer, is_failed, failures, unanswered, IsTrueFor, IsFreshFor, run_state_of}
use Rattle.tile_requests.specs.Texts.{dropped_text, usage_text}
use Rattle.tile_requests.proofs.Moving.{stay_covered, within_longer}
use Rattle.tile_service.proofs.Seating.{seats_later}
use Rattle.truncation_list.specs.declared.cover.Cover.{Cover}

-- WHAT STAYS

-- the catalogue stays, the history goes on, what is kept stays true, and no failure is told
abbrev pub Stays : State → State × Outcome → Type 0
Stays s done = (done.0.catalogue ≡ s.catalogue) × ExtendsHistory s.history done.0.history × (IsSound s → IsSound done.0) × (is_failed done.1 ≡ false)

pub same_stays : (s : State) (o : Outcome) → is_failed o ≡ false → Stays s (s, o)
same_stays s o e = (refl, ([], sym (append-nil s.history)), λ is. is, e)

none_failed : (left : Bool) (o : Outcome) → is_failed o ≡ false → is_failed (told_at left o) ≡ false
none_failed true o e = e
none_failed false o e = refl

answer_succeeds : (spelling : Spelling) (left : Bool) (o : Outcome) → is_failed o ≡ false → is_failed (answered_at spelling left o) ≡ false
answer_succeeds spelling true o e = e
answer_succeeds spelling false o e = chosen (is_made spelling o)
  where
    chosen : (b : Bool) → is_failed (if b then outcome.Plain plain.NoMemory else o) ≡ false
    chosen true = refl
    chosen false = e

pub usage_stays : (s : State) (left : Bool) → Stays s (s, told_usage s left)
usage_stays s left = same_stays s (told_usage s left) (none_failed left (outcome.Usage (usage_text s)) refl)

cut_at_stays : (s : State) (cover : Cover) (t : ℕ) (unwritten : Bool) → Stays s (cut_at s cover t unwritten)
cut_at_stays s cover t true = (refl, (entry.Missed t ∷ [], refl), λ is. is, refl)
cut_at_stays s cover t false =
    let kept : IsSound s → IsSound (with_cut s t cover) = λ is. some_and_made _ _ (blobs_spared s.catalogue cover) (λ bs are. all_filter (IsPictured s.catalogue) (λ b. not (hits_of s.catalogue cover b.kept.meta)) bs are) s.blobs is in
    (refl, (entry.Cut t cover ∷ [], refl), kept, refl)

cover_stays : (s : State) (cover : Cover) (unwritten : Bool) (o : Option ℕ) → Stays s (cut_by s cover unwritten o)
cover_stays s cover unwritten None = same_stays s (outcome.Plain plain.CutSpent) refl
cover_stays s cover unwritten (Some t) = chosen (nat_lt (length (book_before s cover).cuts) s.catalogue.cut_limit)
  where
    chosen : (b : Bool) → Stays s (if b then cut_at s cover t unwritten else (s, outcome.Plain plain.CutsFull))
    chosen true = cut_at_stays s cover t unwritten
    chosen false = same_stays s (outcome.Plain plain.CutsFull) refl

pub cut_stays : (s : State) (cover : Cover) (left unwritten : Bool) → Stays s (cut s cover left unwritten)
cut_stays s cover true unwritten = cover_stays s cover unwritten (next s.opening (now s))
cut_stays s cover false unwritten = same_stays s (outcome.Plain plain.NoMemory) refl

dropped_stays : (s : State) (left : Bool) (o : Option MetaKey) → Stays s (dropped s left o)
dropped_stays s left None = same_stays s (outcome.Plain plain.Within) refl
dropped_stays s left (Some m) = (refl, (entry.Dropped m ∷ [], refl), λ is. some_and_made _ _ (blobs_without m) (λ bs are. all_filter (IsPictured s.catalogue) (λ b. not (is_of m b.kept)) bs are) s.blobs is, none_failed left (outcome.Dropped (dropped_text s.catalogue m)) refl)

scope_stays : (s : State) (left : Bool) (o : Option Scope) (unwritten : Bool) → Stays s (expired_in s left o unwritten)
scope_stays s left None unwritten = same_stays s (outcome.Plain plain.Within) refl
scope_stays s left (Some scope) true = same_stays s (outcome.Plain plain.DiskFault) refl
scope_stays s left (Some scope) false = dropped_stays s left (victim_in s scope)

pub expired_stays : (s : State) (left unwritten : Bool) → Stays s (expired s left unwritten)
expired_stays s left unwritten = scope_stays s left (scope_exceeded s) unwritten

-- WHAT HOLDS

abbrev pub AsksNoTile : Option Request → Type 0
AsksNoTile r = IfSome r (λ asked. tile_of asked ≡ None)

told_true : (c : Catalogue) (r : Option Request) (o : Outcome) → AsksNoTile r → IsTrueFor c r o
told_true c None o e = tt
told_true c (Some r) o e = rw e tt

told_fresh : (c : Catalogue) (h : History) (p : ℕ) (r : Option Request) (o : Outcome) → AsksNoTile r → IsFreshFor c h p r o
told_fresh c h p None o e = tt
told_fresh c h p (Some r) o e = rw e tt

one_failed : (a : Answer) → is_failed a.outcome ≡ false → failures (a ∷ []) ≡ 0
one_failed a e = rw e refl

-- an immediate answer in line n, by the actor i
abbrev pub told_answer : State → ℕ → ℕ → Message → Option Request → Outcome → Bool → Answer
told_answer s n i m r o left = record { line = n; actor = i; start = n; message = m; request = r; place = length s.history; outcome = answered_at (spelling_of m) left o }

pub told_keeps : (told : Option ℕ) (count : ℕ) (s t : State) (document : List ℕ) (busy : List (Option PendingRequest)) (n i : ℕ) (m : Message) (r : Option Request) (o : Outcome) (left : Bool) → Stays s (t, o) → AsksNoTile r
    → Keeps told count count (run_state_of s document busy) (run_state_of t document busy) (told_answer s n i m r o left ∷ [])
told_keeps told count s t document busy n i m r o left k other =
    let a = told_answer s n i m r o left in
    let none : failures (a ∷ []) ≡ 0 = one_failed a (answer_succeeds (spelling_of m) left o k.3) in
    record {
      later = omega arith;
      failed = stay_covered count count (unanswered busy) (failures (a ∷ []) + unanswered busy) (omega arith) (omega arith);
      world = λ all. rw k.0 (seats_later s.catalogue s.history t.history k.1 busy all);
      sound = λ e all is. (k.2 is.0, rw k.0 is.1);
      truth = λ e all is. (told_true s.catalogue r a.outcome other, tt);
      fresh = λ all. ((within_longer s.history t.history (length s.history) k.1 (omega arith), told_fresh s.catalogue t.history (length s.history) r a.outcome other), tt);
      grows = k.1;
      catalogue = k.0;
      capabilities = refl;
    }
