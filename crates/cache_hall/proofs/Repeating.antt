-- Asks and forces while another render of their metatile runs.
use Rattle.std.proofs.Common.{ℕ, ◌≡◌, true, List, [], ◌∷◌, ◌++◌, Result, Ok, Err, IfOk, subst, append-nil}
use Rattle.cabinet.specs.declared.replies.Asked.{Asked}
use Rattle.cabinet.specs.declared.replies.Asked.TheVariants as asked
use Rattle.cabinet.specs.declared.replies.Forced.{Forced}
use Rattle.cabinet.specs.declared.replies.Forced.TheVariants as forced
use Rattle.cabinet.specs.Commands.{IsTrueHit}
use Rattle.cabinet.proofs.Lists.{all_push}
use Rattle.cabinet_chest.specs.declared.command.Command.TheVariants as command
use Rattle.cabinet_chest.specs.declared.command.Reply.TheVariants as reply
use Rattle.cabinet_chest.specs.declared.shown.Note.{Note}
use Rattle.cache_access.specs.Waits.{HasWaited, HasWaitedForced, IsAsk, IsForce, IsForceSettled, IsSettled, IsWaiting, IsWaitingForced, Waits}
use Rattle.cache_access.proofs.Asked.{answered_by}
use Rattle.cache_access.proofs.Turning.{turn_among}
use Rattle.catalog.specs.declared.catalogue.Catalogue.{Catalogue}
use Rattle.matrix_geometry.specs.declared.address.Address.{Address}
use Rattle.metatile_plan.specs.declared.metatile.MetaKey.{MetaKey}
use Rattle.turnstile.specs.declared.view.Made.{Made}
use Rattle.cache_hall.specs.Gained.{gains_more, gains_none}
use Rattle.cache_hall.specs.Turned.{GainsOne, GainsTurns, HallPass}

module _ (c : Catalogue) where
  -- a call that made no turn
  after_none : (p q r : HallPass) (busy : List (Made Note)) → GainsTurns c p q busy → GainsTurns c q r [] → GainsTurns c p r busy
  after_none p q r busy so_far none = subst (λ (ms : List (Made Note)). GainsTurns c p r ms) (append-nil busy) (gains_more c p q r busy [] so_far none)

  -- ASKS
  module _ (a : Address) where
    pub waits_first : (p : HallPass) → IsWaiting (GainsTurns c) a p p
    waits_first p = record { busy = []; gains = gains_none c p; waited = tt }

    module _ (p q r : HallPass) (so_far : IsWaiting (GainsTurns c) a p q) where
      pub waits_more : (k : ℕ) → GainsOne c q r (command.Ask a) (reply.Asked (asked.Busy k)) → IsWaiting (GainsTurns c) a p r
      waits_more k one = record {
        busy = so_far.busy ++ one.turn ∷ [];
        gains = gains_more c p q r so_far.busy (one.turn ∷ []) so_far.gains one.gains;
        waited = all_push (λ (m : Made Note). (j : ℕ) × IsAsk a (asked.Busy j) m) so_far.busy one.turn so_far.waited (k, one.of);
      }

      pub waits_on : GainsTurns c q r [] → IsWaiting (GainsTurns c) a p r
      waits_on none = record { busy = so_far.busy; gains = after_none p q r so_far.busy so_far.gains none; waited = so_far.waited }

      pub waited : (answer : Asked) → GainsOne c q r (command.Ask a) (reply.Asked answer) → IsSettled answer → HasWaited (GainsTurns c) a p r answer
      waited answer one over = record {
        busy = so_far.busy;
        ask = one.turn;
        gains = gains_more c p q r so_far.busy (one.turn ∷ []) so_far.gains one.gains;
        waited = so_far.waited;
        answer = one.of;
        over = over;
      }

  -- FORCES
  module _ (m : MetaKey) where
    pub forces_first : (p : HallPass) → IsWaitingForced (GainsTurns c) m p p
    forces_first p = record { busy = []; gains = gains_none c p; waited = tt }

    module _ (p q r : HallPass) (so_far : IsWaitingForced (GainsTurns c) m p q) where
      pub forces_more : (k : ℕ) → GainsOne c q r (command.Force m) (reply.Forced (forced.Busy k)) → IsWaitingForced (GainsTurns c) m p r
      forces_more k one = record {
        busy = so_far.busy ++ one.turn ∷ [];
        gains = gains_more c p q r so_far.busy (one.turn ∷ []) so_far.gains one.gains;
        waited = all_push (λ (x : Made Note). (j : ℕ) × IsForce m (forced.Busy j) x) so_far.busy one.turn so_far.waited (k, one.of);
      }

      pub forces_on : GainsTurns c q r [] → IsWaitingForced (GainsTurns c) m p r
      forces_on none = record { busy = so_far.busy; gains = after_none p q r so_far.busy so_far.gains none; waited = so_far.waited }

      pub forced_at_last : (answer : Forced) → GainsOne c q r (command.Force m) (reply.Forced answer) → IsForceSettled answer → HasWaitedForced (GainsTurns c) m p r answer
      forced_at_last answer one over = record {
        busy = so_far.busy;
        force = one.turn;
        gains = gains_more c p q r so_far.busy (one.turn ∷ []) so_far.gains one.gains;
        waited = so_far.waited;
        answer = one.of;
        over = over;
      }

-- WHAT A TOLD PASS KNOWS of a hit

pub true_hit : {E : Type 0} → (c : Catalogue) (a : Address) (p q : HallPass) (result : Result Asked E) → Waits (GainsTurns c) a p q result → IfOk result (λ (x : Asked). p.told ≡ true → IsTrueHit c a x)
true_hit c a p q (Ok x) h = λ told.
    let turn = turn_among c p.told p.book q.book h.busy h.ask [] h.gains.turns in
    (answered_by c p.told h.ask.note.before h.ask.note.after a x h.ask.note.command h.ask.note.reply h.answer.command h.answer.reply turn.1).truth told
true_hit c a p q (Err fault) h = tt
