-- The turns of an upkeep, one after the other.
use Rattle.std.proofs.Common.{ℕ, ◌≡◌, ◌||◌, ◌∙◌, Bool, true, false, IsTrue, List, [], ◌∷◌, ◌++◌, length, inl, inr, ap, subst, sym}
use Rattle.std.proofs.lemmas.List.Elements.{All-nil, All-cons, All-append, Contains-append_left, Contains-push}
use Rattle.std.specs.Prelude.{All}
use Rattle.std.specs.List.{Contains}
use Rattle.cabinet_chest.specs.declared.command.Reply.{Reply}
use Rattle.cabinet_chest.specs.declared.shown.Note.{Note}
use Rattle.cache_access.specs.declared.upkept.Upkept.{Upkept}
use Rattle.cache_access.specs.declared.upkept.Upkept.TheVariants.{Done, DiskFault, Stopped}
use Rattle.cache_access.specs.KeepsUp.{AreDone, Chore, KeepsUp, UpkeepEndsAs, dropping, saving}
use Rattle.cache_access.specs.Turned.{IsOf}
use Rattle.cache_hall.specs.Gained.{gains_more, gains_none}
use Rattle.cache_hall.specs.Turned.{GainsTurns, HallPass}
use Rattle.catalog.specs.declared.catalogue.Catalogue.{Catalogue}
use Rattle.turnstile.specs.declared.view.Made.{Made}
use Rattle.server_workers.specs.Upkept.{HasKeptUp, IsKeptUpBy, IsUpkeep, has_quota}
use Rattle.server_workers.proofs.Between.{HasTurnsAt, more_turns, no_turns, of_turns}

-- one of two, by the first or by the second
pub either_first : (a b : Bool) → a ≡ true → true ≡ (a || b)
either_first a b e = sym (ap (λ (v : Bool). v || b) e)

pub either_second : (a b r : Bool) → a ≡ false → r ≡ b → r ≡ (a || b)
either_second a b r e is = is ∙ sym (ap (λ (v : Bool). v || b) e)

pub kept_nothing : (c : Catalogue) (p : HallPass) → HasKeptUp c p p
kept_nothing c p = record { turns = []; gains = gains_none c p; all = All-nil (IsUpkeep c) }

pub kept_more : (c : Catalogue) (p q r : HallPass) → HasKeptUp c p q → HasKeptUp c q r → HasKeptUp c p r
kept_more c p q r first then = record {
  turns = first.turns ++ then.turns;
  gains = gains_more c p q r first.turns then.turns first.gains then.gains;
  all = All-append (IsUpkeep c) first.turns then.turns first.all then.all;
}

-- BY UPKEEP of one kind, whose turns may be made

module _ (c : Catalogue) (chore : Chore) (may : (m : Made Note) → m.note.command ≡ chore.does → IsUpkeep c m) where
  all_may : (turns : List (Made Note)) → AreDone chore turns → All (IsUpkeep c) turns
  all_may [] done = All-nil (IsUpkeep c)
  all_may (m ∷ turns) (did, done) = All-cons (IsUpkeep c) m turns (may m did.1.command) (all_may turns done)

  one_may : (ends : List (Made Note)) (m : Made Note) (r : Reply) → ends ≡ m ∷ [] → IsOf chore.does r m → All (IsUpkeep c) ends
  one_may ends m r one is = subst (All (IsUpkeep c)) (sym one) (All-cons (IsUpkeep c) m [] (may m is.command) (All-nil (IsUpkeep c)))

  ends_may : (most many : ℕ) (ends : List (Made Note)) (r : Upkept) → UpkeepEndsAs chore most many ends r → All (IsUpkeep c) ends
  ends_may most many ends (Done n) (same, (m, one, is)) = one_may ends m chore.nothing one is
  ends_may most many ends (DiskFault n) (same, (m, b, a, one, is)) = one_may ends m (chore.failed b a) one is
  ends_may most many ends Stopped (same, none) = subst (All (IsUpkeep c)) (sym none) (All-nil (IsUpkeep c))

  kept_by : (p q : HallPass) (most : ℕ) (r : Upkept) → KeepsUp (GainsTurns c) chore most p q r → HasKeptUp c p q
  kept_by p q most r h = record {
    turns = h.turns ++ h.ends;
    gains = h.gains;
    all = All-append (IsUpkeep c) h.turns h.ends (all_may h.turns h.done) (ends_may most (length h.turns) h.ends r h.over);
  }

pub kept_by_drops : (c : Catalogue) (p q : HallPass) (most : ℕ) (r : Upkept) → KeepsUp (GainsTurns c) dropping most p q r → HasKeptUp c p q
kept_by_drops c = kept_by c dropping (λ m is. inl is)

pub kept_by_savings : (c : Catalogue) (p q : HallPass) (most : ℕ) (r : Upkept) → IsTrue (has_quota c) → KeepsUp (GainsTurns c) saving most p q r → HasKeptUp c p q
kept_by_savings c p q most r has h = kept_by c saving (λ m is. inr (is, has)) p q most r h

-- such turns are at a cabinet of the catalogue
pub of_upkeep : (c : Catalogue) (before after : HallPass) → before.made ≡ [] → HasKeptUp c before after → HasTurnsAt c after
of_upkeep c before after none kept =
    more_turns c before after kept.turns (ap (λ (p : HallPass). p.made) kept.gains.is) (no_turns c before none) (of_turns c before.told before.book after.book kept.turns kept.gains.turns)

-- the pass came back behind those of the workers, and before those of who runs jobs
pub kept_among : (c : Catalogue) (before after : HallPass) (served between passes jobs : List HallPass) → HasKeptUp c before after → between ≡ served ++ after ∷ [] → passes ≡ between ++ jobs → IsKeptUpBy c before passes
kept_among c before after served between passes jobs kept put are = record {
  after = after;
  kept_up = kept;
  among =
      subst (λ (ps : List HallPass). Contains ps after) (sym are)
      (Contains-append_left between jobs after (subst (λ (ps : List HallPass). Contains ps after) (sym put) (Contains-push served after)));
}
