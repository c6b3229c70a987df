-- Upkeep, one turn after the other.
use Rattle.std.proofs.Common.{ℕ, ◌≡◌, ◌<◌, ◌+◌, List, [], ◌∷◌, ◌++◌, length, refl, sym, ap, subst, ◌∙◌, arith, append-nil}
use Rattle.cabinet.proofs.Lists.{all_push}
use Rattle.cabinet_chest.specs.declared.shown.Note.{Note}
use Rattle.metatile_plan.specs.declared.metatile.MetaKey.{MetaKey}
use Rattle.turnstile.specs.declared.view.Made.{Made}
use Rattle.cache_access.specs.declared.upkept.Upkept.TheVariants as upkept
use Rattle.cache_access.specs.KeepsUp.{AreDone, Chore, KeepsUp}
use Rattle.cache_access.specs.Turned.{GainsOne, IsOf}

length_more : {X : Type 0} (xs : List X) (x : X) → length (xs ++ x ∷ []) ≡ length xs + 1
length_more [] x = refl
length_more (y ∷ xs) x = let e = length_more xs x in omega (arith, e)

module _ {C : Type 0} (leads : C → C → List (Made Note) → Type 0) (chore : Chore) where
  -- so many turns, each of which did it for a metatile
  pub record HasDone (many : ℕ) (before after : C) : Type 0 where
    pub turns : List (Made Note)
    pub gains : leads before after turns
    pub done : AreDone chore turns
    pub many_turns : length turns ≡ many

  pub done_none : (p : C) → leads p p [] → HasDone 0 p p
  done_none p nothing = record { turns = []; gains = nothing; done = tt; many_turns = refl }

  -- as many turns were made as may be
  pub has_stopped : (most many : ℕ) (p q : C) → HasDone many p q → many ≡ most → KeepsUp leads chore most p q upkept.Stopped
  has_stopped most many p q h is = record {
    turns = h.turns;
    ends = [];
    gains = subst (λ (ms : List (Made Note)). leads p q ms) (sym (append-nil h.turns)) h.gains;
    done = h.done;
    over = (h.many_turns ∙ is, refl);
    few = let n = h.many_turns in omega (arith, n, is);
  }

  -- one turn more
  module _ (p q r : C) (on : (first then : List (Made Note)) → leads p q first → leads q r then → leads p r (first ++ then)) (many : ℕ) (h : HasDone many p q) where
    pub done_more : (k : MetaKey) → GainsOne leads q r chore.does (chore.done k) → HasDone (many + 1) p r
    done_more k one = record {
      turns = h.turns ++ one.turn ∷ [];
      gains = on h.turns (one.turn ∷ []) h.gains one.gains;
      done = all_push (λ (m : Made Note). (x : MetaKey) × IsOf chore.does (chore.done x) m) h.turns one.turn h.done (k, one.of);
      many_turns = length_more h.turns one.turn ∙ ap (λ n. n + 1) h.many_turns;
    }

    module _ (most : ℕ) (less : many < most) where
      pub nothing_left : GainsOne leads q r chore.does chore.nothing → KeepsUp leads chore most p r (upkept.Done many)
      nothing_left one = record {
        turns = h.turns;
        ends = one.turn ∷ [];
        gains = on h.turns (one.turn ∷ []) h.gains one.gains;
        done = h.done;
        over = (sym h.many_turns, (one.turn, refl, one.of));
        few = let n = h.many_turns in omega (arith, n, less);
      }

      pub has_failed : (b a : ℕ) → GainsOne leads q r chore.does (chore.failed b a) → KeepsUp leads chore most p r (upkept.DiskFault many)
      has_failed b a one = record {
        turns = h.turns;
        ends = one.turn ∷ [];
        gains = on h.turns (one.turn ∷ []) h.gains one.gains;
        done = h.done;
        over = (sym h.many_turns, (one.turn, b, a, refl, one.of));
        few = let n = h.many_turns in omega (arith, n, less);
      }
