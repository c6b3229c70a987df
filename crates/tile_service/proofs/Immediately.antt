-- A request that asks for no tile: the chance of its outcome, the line that answers it, and what it leaves.
use Rattle.std.proofs.Common.{◌≡◌, ℕ, Bool, true, List, [], ◌∷◌, Option, Some, None, refl, sym, ap, subst, ◌∙◌}
use Rattle.cabinet.specs.State.{State}
use Rattle.base.specs.Causes.{RoseBy}
use Rattle.http_wire.specs.declared.message.Message.{Message}
use Rattle.matrix_geometry.specs.declared.address.Address.{Address}
use Rattle.tile_requests.specs.declared.outcome.Outcome.{Outcome}
use Rattle.tile_requests.specs.declared.request.Mode.{Mode}
use Rattle.tile_requests.specs.declared.request.Mode.TheVariants.{Gets, Asks, Forces}
use Rattle.tile_requests.specs.declared.request.Request.{Request}
use Rattle.tile_requests.specs.declared.request.Request.TheVariants as request
use Rattle.tile_requests.specs.Immediate.{IsImmediate}
use Rattle.tile_requests.specs.Requests.{Chance, at_once, disk_faults_in, events, tile_of}
use Rattle.tile_requests.specs.Routes.{request_for}
use Rattle.sessions.specs.Outside.{FaultCounts}
use Rattle.tile_service.specs.Run.{PendingRequest, RunState, asked, run_state_of, sent, told_in}
use Rattle.tile_service.specs.Session.{IsAtRest}
use Rattle.tile_service.proofs.AtOnce.{asked_at_once, holds}
use Rattle.tile_service.proofs.AtRest.{RestsAfter}
use Rattle.tile_service.proofs.Telling.{Stays, told_answer}

-- CHANCES

-- a chance of which the reading and the answer are chosen
abbrev pub with_ends : Chance → Bool → Bool → Chance
with_ends c read left = record { read = read; ask = c.ask; moment = c.moment; unread = c.unread; work = c.work; bytes = c.bytes; unwritten = c.unwritten; left = left }

-- a request that asks for no tile comes to the same
same_at_once : (s : State) (c : Chance) (read left : Bool) (r : Request) → at_once s (with_ends c read left) r ≡ at_once s c r
same_at_once s c read left (request.Tile a) = refl
same_at_once s c read left other = refl

pub same_events : (mode : Mode) (s : State) (a : Address) (c : Chance) (read left : Bool) → events mode s a c ≡ events mode s a (with_ends c read left)
same_events Gets s a c read left = refl
same_events Asks s a c read left = refl
same_events Forces s a c read left = refl

-- a message that was read asks for this
pub read_asks : (w : RunState) (n : ℕ) (c : Chance) (mode : Mode) (i : ℕ) (m : Message) (r : Request) (left : Bool) → r ≡ request_for w.cabinet.catalogue m → sent w n (with_ends c true left) mode i m ≡ asked w n (with_ends c true left) mode i m r
read_asks w n c mode i m r left e = let P : Request → Type 0 = λ x. sent w n (with_ends c true left) mode i m ≡ asked w n (with_ends c true left) mode i m x in subst P (sym e) refl

-- ITS ANSWER

-- under this chance a line answers the request so, whoever is busy, whether memory is left to write it or not
pub record IsTold (disk : FaultCounts) (s : State) (r : Request) (done : State × Outcome) : Type 0 where
  pub chance : Chance
  pub made : (document : List ℕ) (busy : List (Option PendingRequest)) (n : ℕ) (mode : Mode) (i : ℕ) (m : Message) (left : Bool) → asked (run_state_of s document busy) n (with_ends chance true left) mode i m r ≡ (run_state_of done.0 document busy, told_answer s n i m (Some r) done.1 left ∷ [])
  pub faults : RoseBy (disk_faults_in chance) disk.before disk.after
  pub other : tile_of r ≡ None
  pub stays : Stays s done
  pub rests : IsAtRest s → IsAtRest done.0

pub immediate_told : (disk : FaultCounts) (s : State) (r : Request) (o : Outcome) (t : State) → IsImmediate disk.before disk.after s r o t → IsTold disk s r (t, o)
immediate_told disk s r o t k =
    let h = holds s k.chance r in
    record {
      chance = k.chance;
      made = λ document busy n mode i m left.
          let w : RunState = run_state_of s document busy in
          let c = with_ends k.chance true left in
          asked_at_once w n c mode i m r k.other ∙ ap (told_in w n c i m (Some r)) (same_at_once s k.chance true left r ∙ k.made);
      faults = k.faults;
      other = k.other;
      stays = subst (Stays s) k.made h.stays;
      rests = λ rest. subst RestsAfter k.made (h.rests rest);
    }
