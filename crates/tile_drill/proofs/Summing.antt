-- The ends of a drill: its summary, and the actors that gave up.
use Rattle.std.proofs.Common.{◌≡◌, ℕ, zero, suc, ◌+◌, List, [], ◌∷◌, ◌++◌, cond, fold, length, replicate, Option, None, refl, sym, ap, subst, arith}
use Rattle.std.specs.Bool.{⊤}
use Rattle.std.specs.Io.KnownBytes.{Appends}
use Rattle.std.proofs.lemmas.List.Sums.{sum_by-cons}
use Rattle.cabinet.specs.State.{State}
use Rattle.base.specs.Causes.{Rose}
use Rattle.sha2.specs.Sha256.{sha256}
use Rattle.tile_drill.specs.declared.drill.DrillEnd.TheVariants.{Done, OutOfMemory, WriteFault}
use Rattle.tile_drill.specs.declared.drill_run.MadeEnd.TheVariants as made_end
use Rattle.tile_service.specs.declared.seats.ActorPlace.TheVariants as seat
use Rattle.tile_service.specs.declared.seats.TheConstants.{ACTORS}
use Rattle.tile_service.specs.declared.cache_tally.CacheResult.{CacheResult}
use Rattle.tile_service.specs.declared.cache_tally.CacheResult.TheVariants.{Hit, Miss, Other}
use Rattle.tile_service.specs.declared.cache_tally.CacheTally.{CacheTally}
use Rattle.tile_drill.specs.Drill.{Drills, counts_text, digest_text, drill_run, line_count, summary}
use Rattle.tile_drill.specs.Drilling.{HasMade}
use Rattle.sessions.specs.Outside.{FaultCounts, Outside, counts}
use Rattle.tile_service.specs.Run.{Answer, Run, RunState, closed, free_seats, left_by, output_of, run_state_of}
use Rattle.tile_requests.specs.Sent.{AppendsFront}
use Rattle.tile_service.specs.CacheTally.{is_hit, is_miss, is_other, result_of, tally_of, total}
use Rattle.tile_drill.proofs.Making.{Moment, all_drilled, drilled_start}

-- EVERY ANSWER IS COUNTED ONCE

one_each : (k : CacheResult) → cond (is_hit k) 1 0 + cond (is_miss k) 1 0 + cond (is_other k) 1 0 ≡ 1
one_each Hit = refl
one_each Miss = refl
one_each Other = refl

pub total_is : (answers : List Answer) → total (tally_of answers) ≡ length answers
total_is [] = refl
total_is (a ∷ answers) =
    let ih = total_is answers in
    let one = one_each (result_of a.outcome) in
    let hits = sum_by-cons (λ (b : Answer). cond (is_hit (result_of b.outcome)) 1 0) a answers in
    let misses = sum_by-cons (λ (b : Answer). cond (is_miss (result_of b.outcome)) 1 0) a answers in
    let others = sum_by-cons (λ (b : Answer). cond (is_other (result_of b.outcome)) 1 0) a answers in
    omega arith

summary_is : (document : List ℕ) (number : ℕ) (r : Run) (tally : CacheTally) (digest : List ℕ) → tally ≡ tally_of r.answers → digest ≡ sha256 (output_of document r) → counts_text number (total tally) tally ++ digest_text digest ≡ summary document number r
summary_is document number r tally digest e f = rw (e, f, total_is r.answers) refl

-- ENDS

abbrev outside : Option ℕ → FaultCounts → FaultCounts → Option (List ℕ) → Option (List ℕ) → Outside
outside told renders writes from to = record { told = told; renders = renders; disk = counts 0 0; writes = writes; from = from; to = to }

abbrev no_faults : FaultCounts
no_faults = record { before = 0; after = 0 }

module _ {told : Option ℕ} {renders : FaultCounts} {number : ℕ} {w last t : RunState} {tally : CacheTally} {digest : List ℕ}
    (h : HasMade told renders w number last (made_end.Done tally digest)) (closes : t ≡ closed last) where
  its_text : counts_text number (total tally) tally ++ digest_text digest ≡ summary w.capabilities number (drill_run line_count w number h.0)
  its_text = summary_is w.capabilities number (drill_run line_count w number h.0) tally digest h.3 h.4

  pub drills_done : (from to : Option (List ℕ)) → Appends from to (counts_text number (total tally) tally ++ digest_text digest) → Drills (outside told renders no_faults from to) ⊤ number w t Done
  drills_done from to sent = (h.0, last, h.1, closes, h.2, subst (Appends from to) its_text sent)

  pub drills_cut : (from to : Option (List ℕ)) (before after : ℕ) → AppendsFront from to (counts_text number (total tally) tally ++ digest_text digest) → Rose before after
      → Drills (outside told renders (record { before = before; after = after }) from to) ⊤ number w t WriteFault
  drills_cut from to before after sent rose = (h.0, last, h.1, closes, subst (AppendsFront from to) its_text sent, rose)

-- memory ran out for a line
pub drills_short : {Stays : Type 0} {told : Option ℕ} {renders : FaultCounts} {number : ℕ} {w last t : RunState} → HasMade told renders w number last made_end.OutOfMemory → t ≡ closed last → Stays
    → Drills (outside told renders no_faults None None) Stays number w t OutOfMemory
drills_short {last = last} h closes stays = (h.0, h.1, h.2, last, h.3, closes, stays)

none_left : (s : State) (n : ℕ) → fold left_by s (replicate n None) ≡ s
none_left s zero = refl
none_left s (suc n) = none_left s n

-- before the first line
pub drills_nothing : {Stays : Type 0} (told : Option ℕ) (renders number : ℕ) (s : State) (document : List ℕ) → Stays
    → Drills (outside told (record { before = renders; after = renders }) no_faults None None) Stays number (run_state_of s document free_seats) (run_state_of s document free_seats) OutOfMemory
drills_nothing told renders number s document stays =
    let start : Moment = record { told = told; renders = renders; cabinet = s; document = document; seats = replicate ACTORS seat.Free; x = number; text = [] } in
    let drilled = drilled_start {start = start} refl refl in
    (0, omega arith, [], run_state_of s document free_seats, all_drilled drilled, sym (ap (λ u. run_state_of u document free_seats) (none_left s ACTORS)), stays)
