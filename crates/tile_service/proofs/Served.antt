-- One message of a session, served to its end.
use Rattle.std.proofs.Common.{◌≡◌, ◌≤◌, ℕ, Bool, true, false, List, [], ◌∷◌, slice_set, Option, Some, None, refl, sym, ap, ◌∙◌, subst, arith}
use Rattle.std.specs.Prelude.{MatchOption}
use Rattle.cabinet.specs.State.{State}
use Rattle.cache_core.specs.declared.actor.Actor.TheVariants as actor
use Rattle.cache_core.specs.declared.actor.Step.{Step}
use Rattle.cache_core.specs.declared.outcome.TileOutcome as cached
use Rattle.cache_core.specs.Shown.{shown}
use Rattle.cache_core.specs.Steps.{Stepped}
use Rattle.http_wire.specs.declared.message.Message.{Message}
use Rattle.matrix_geometry.specs.declared.address.Address.{Address}
use Rattle.tile_requests.specs.declared.outcome.Outcome.{Outcome}
use Rattle.tile_requests.specs.declared.outcome.Outcome.TheVariants as outcome
use Rattle.tile_requests.specs.declared.outcome.Plain.TheVariants as plain
use Rattle.tile_requests.specs.declared.request.Mode.TheVariants.{Gets}
use Rattle.tile_requests.specs.declared.request.Request.{Request}
use Rattle.tile_requests.specs.declared.request.Request.TheVariants as request
use Rattle.tile_requests.specs.Immediate.{IsImmediate}
use Rattle.tile_service.specs.Performing.{IsAnswered, IsGot}
use Rattle.tile_requests.specs.Events.{BeginsByLine}
use Rattle.tile_service.specs.OneLine.{Keeps}
use Rattle.tile_requests.specs.Requests.{calm, events, outcome_of, tile_of}
use Rattle.tile_requests.specs.Routes.{request_for}
use Rattle.sessions.specs.Outside.{FaultCounts}
use Rattle.tile_service.specs.Run.{PendingRequest, RunState, seat_after, answers_after, settled, started, sent, run_state_of}
use Rattle.tile_service.specs.Serving.{Serves}
use Rattle.tile_service.specs.Session.{IsAtRest, lone}
use Rattle.tile_service.proofs.Answering.{is_tile}
use Rattle.tile_service.proofs.Immediately.{immediate_told, read_asks, same_events, with_ends}
use Rattle.tile_service.proofs.AtRest.{IsDone, get_done}
use Rattle.tile_service.proofs.Seating.{settled_keeps}
use Rattle.tile_service.proofs.Telling.{same_stays, told_keeps}

-- A MESSAGE IS SERVED

-- what the events of a GET came to, where no render ran
pub got_done : (told : Option ℕ) (before after : ℕ) (disk : FaultCounts) (s : State) (a : Address) (step : Step) (t : State) → IsAtRest s → BeginsByLine told before after disk.before disk.after s a Gets step t → IsDone (shown step t)
got_done told before after disk s a step t rest h = let P : Stepped → Type 0 = IsDone in subst P (sym h.made) (get_done a h.chance s rest)

module _ (told : Option ℕ) (disk : FaultCounts) (document : List ℕ) (s : State) (m : Message) (rest : IsAtRest s) where
  abbrev asks : Request
  asks = request_for s.catalogue m

  pub unread_serves : (count : ℕ) → disk.before ≤ disk.after → Serves told count count disk document s m (outcome.Plain plain.NoMemory) s
  unread_serves count later =
      record {
        request = None;
        chance = λ left. with_ends calm false left;
        made = λ i left. refl;
        faults = λ left. omega arith;
        keeps = λ i left. told_keeps told count s s document (None ∷ []) i 0 m None (outcome.Plain plain.NoMemory) left (same_stays s (outcome.Plain plain.NoMemory) refl) tt;
        rests = rest;
      }

  pub immediate_serves : (count : ℕ) (r : Request) (o : Outcome) (t : State) → r ≡ asks → IsImmediate disk.before disk.after s r o t → Serves told count count disk document s m o t
  immediate_serves count r o t e k =
      let d = immediate_told disk s r o t k in
      record {
        request = Some r;
        chance = λ left. with_ends d.chance true left;
        made = λ i left. read_asks (lone s document) i d.chance Gets 0 m r left e ∙ d.made document (None ∷ []) i Gets 0 m left;
        faults = λ left. d.faults;
        keeps = λ i left. told_keeps told count s t document (None ∷ []) i 0 m (Some r) o left d.stays d.other;
        rests = d.rests rest;
      }

  module _ (before after : ℕ) (a : Address) (e : request.Tile a ≡ asks) (step : Step) (t : State) (h : BeginsByLine told before after disk.before disk.after s a Gets step t) where
    abbrev busy : ℕ → PendingRequest
    busy i = started (lone s document) i m a

    abbrev there_after : PendingRequest → Option cached.TileOutcome → RunState
    there_after b x = run_state_of t document (slice_set (None ∷ []) 0 (seat_after b step.actor x))

    made_with : (i : ℕ) (left : Bool) (x : Option cached.TileOutcome) → step.outcome ≡ x → sent (lone s document) i (with_ends h.chance true left) Gets 0 m ≡ (there_after (busy i) x, answers_after i 0 left (busy i) x)
    made_with i left x is =
        let c = with_ends h.chance true left in
        let P : Option cached.TileOutcome → Type 0 = λ y. sent (lone s document) i c Gets 0 m ≡ (there_after (busy i) y, answers_after i 0 left (busy i) y) in
        let same : events Gets s a c ≡ shown step t = sym (same_events Gets s a h.chance true left) ∙ sym h.made in
        subst P is (read_asks (lone s document) i h.chance Gets 0 m (request.Tile a) left e ∙ ap (settled (lone s document) i c 0 (busy i)) same)

    kept_with : (i : ℕ) (left : Bool) (x : Option cached.TileOutcome) → (x ≡ None → ⊥) → step.outcome ≡ x → Keeps told before after (lone s document) (there_after (busy i) x) (answers_after i 0 left (busy i) x)
    kept_with i left x ends is =
        let P : Option cached.TileOutcome → Type 0 = λ y. Keeps told before after (lone s document) (there_after (busy i) y) (answers_after i 0 left (busy i) y) in
        subst P is (settled_keeps told before after s t actor.Idle (busy i) step h.moves (λ none. absurd (ends (sym is ∙ none))) document (None ∷ []) 0 None refl refl (λ x. tt) i left)

    pub tile_serves : (x : cached.TileOutcome) → step.outcome ≡ Some x → Serves told before after disk document s m (outcome_of x) t
    tile_serves x is =
        record {
          request = Some (request.Tile a);
          chance = λ left. with_ends h.chance true left;
          made = λ i left. made_with i left (Some x) is;
          faults = λ left. h.disk_cause;
          keeps = λ i left. kept_with i left (Some x) (λ none. cc) is;
          rests = (got_done told before after disk s a step t rest h).rests;
        }

  pub got_serves : (before after : ℕ) (a : Address) (o : Outcome) (t : State) → request.Tile a ≡ asks → IsGot told before after disk s a o t → Serves told before after disk document s m o t
  got_serves before after a o t e k = rw k.4 (tile_serves before after a e k.0 t k.2 k.1 k.3)

  pub answered_serves : (before after : ℕ) (r : Request) (o : Outcome) (t : State) → r ≡ asks → IsAnswered told before after disk s r o t → Serves told before after disk document s m o t
  answered_serves before after r o t e h = by_case (tile_of r) refl
    where
      by_case : (x : Option Address) → tile_of r ≡ x → Serves told before after disk document s m o t
      by_case None is =
          let k = subst (λ (x : Option Address). MatchOption x (IsImmediate disk.before disk.after s r o t × (after ≡ before) × (disk.before ≤ disk.after)) (λ a. IsGot told before after disk s a o t)) is h in
          subst (λ (n : ℕ). Serves told before n disk document s m o t) (sym k.1) (immediate_serves before r o t e k.0)
      by_case (Some a) is =
          let k = subst (λ (x : Option Address). MatchOption x (IsImmediate disk.before disk.after s r o t × (after ≡ before) × (disk.before ≤ disk.after)) (λ a. IsGot told before after disk s a o t)) is h in
          got_serves before after a o t (is_tile r a is ∙ e) k
