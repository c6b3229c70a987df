-- Bounds that are widened, and what is outside them.
use Rattle.std.proofs.Common.{ℕ, suc, ◌≡◌, ◌≢◌, ◌+◌, ◌<◌, ◌==◌, Bool, true, false, cond, find, List, [], ◌∷◌, ◌++◌, length, take, get_or, Option, Some, None, refl, sym, ap, subst, ◌∙◌, arith, eq-eqb}
use Rattle.std.specs.List.{AllByRecursion}
use Rattle.std.specs.Option.{option_map, option_map_or}
use Rattle.metatile_plan.specs.declared.metatile.MetaKey.{MetaKey}
use Rattle.metatile_plan.specs.Keys.{same_meta}
use Rattle.metatile_plan.proofs.Same.{same_meta_is}
use Rattle.metatile_locks.proofs.Lists.{all_joined, all_weaker}
use Rattle.kept_areas.specs.declared.side.Side.{Side}
use Rattle.kept_areas.specs.declared.side.Sides.{Sides}
use Rattle.kept_areas.specs.declared.spot.KeptSpot.{KeptSpot}
use Rattle.kept_areas.specs.Areas.{is_spot_of, least_in, lesser, number_in}
use Rattle.kept_areas.specs.Bounds.{AreBounded, IsOn, IsWithin, widen, widened}
use Rattle.kept_areas.specs.Kept.{IsEntered}
use Rattle.kept_areas.proofs.Least.{least_entered, least_next, lesser_other, taken_next}

-- WIDENED

on_new : (s : Side) (n : ℕ) → IsOn (widen s n) n
on_new s n = record { least = omega arith; most = omega arith }

on_more : (s : Side) (n k : ℕ) → IsOn s k → IsOn (widen s n) k
on_more s n k is = let a = is.least in let b = is.most in record { least = omega arith; most = omega arith }

within_new : (b : Sides) (s : KeptSpot) → IsWithin (widened b s) s.meta
within_new b s =
    record { layer = on_new b.layer s.meta.theme.layer; grid = on_new b.grid s.meta.grid; z = on_new b.z s.meta.z; row = on_new b.row s.meta.row; col = on_new b.col s.meta.col }

within_more : (b : Sides) (s : KeptSpot) (m : MetaKey) → IsWithin b m → IsWithin (widened b s) m
within_more b s m is =
    record {
      layer = on_more b.layer s.meta.theme.layer m.theme.layer is.layer;
      grid = on_more b.grid s.meta.grid m.grid is.grid;
      z = on_more b.z s.meta.z m.z is.z;
      row = on_more b.row s.meta.row m.row is.row;
      col = on_more b.col s.meta.col m.col is.col;
    }

all_within_more : (b : Sides) (s : KeptSpot) (ss : List KeptSpot) → AllByRecursion (λ t. IsWithin b t.meta) ss → AllByRecursion (λ t. IsWithin (widened b s) t.meta) ss
all_within_more b s ss h = all_weaker (λ (t : KeptSpot). IsWithin b t.meta) (λ (t : KeptSpot). IsWithin (widened b s) t.meta) (λ t is. within_more b s t.meta is) ss h

bounded_next : (ss : List KeptSpot) (i : ℕ) (d : KeptSpot) (b : Sides) → i < length ss → AreBounded (take i ss) b → AreBounded (take (suc i) ss) (widened b (get_or ss i d))
bounded_next ss i d b l is =
    record {
      within = subst (AllByRecursion (λ t. IsWithin (widened b (get_or ss i d)) t.meta)) (sym (taken_next ss i d l))
          (all_joined (λ (t : KeptSpot). IsWithin (widened b (get_or ss i d)) t.meta) (take i ss) (get_or ss i d ∷ []) (all_within_more b (get_or ss i d) (take i ss) is.within) (within_new b (get_or ss i d), tt));
      number = ap (λ (o : Option ℕ). lesser o (get_or ss i d).number) is.number ∙ least_next None ss i d l;
    }

pub bounded_more : (ss : List KeptSpot) (i : ℕ) (d : KeptSpot) (b : Sides) → i < length ss → AreBounded (take i ss) b → AreBounded (take (i + 1) ss) (widened b (get_or ss i d))
bounded_more ss i d b l is = let one : suc i ≡ i + 1 = omega arith in subst (λ n. AreBounded (take n ss) (widened b (get_or ss i d))) one (bounded_next ss i d b l is)

-- ONE MORE, OR ONE FEWER

all_among : (P : KeptSpot → Type 0) (xs : List KeptSpot) (y : KeptSpot) (ys : List KeptSpot) → AllByRecursion P (xs ++ ys) → P y → AllByRecursion P (xs ++ y ∷ ys)
all_among P [] y ys h k = (k, h)
all_among P (x ∷ xs) y ys h k = (h.0, all_among P xs y ys h.1 k)

all_but : (P : KeptSpot → Type 0) (xs : List KeptSpot) (y : KeptSpot) (ys : List KeptSpot) → AllByRecursion P (xs ++ y ∷ ys) → AllByRecursion P (xs ++ ys)
all_but P [] y ys h = h.1
all_but P (x ∷ xs) y ys h = (h.0, all_but P xs y ys h.1)

pub entered_bounded : (s : KeptSpot) (old new : List KeptSpot) (b : Sides) → IsEntered s old new → AreBounded old b → AreBounded new (widened b s)
entered_bounded s old new b e is =
    let P : KeptSpot → Type 0 = λ t. IsWithin (widened b s) t.meta in
    record {
      within = subst (AllByRecursion P) (sym e.new_is) (all_among P e.before s e.behind (subst (AllByRecursion P) e.old_is (all_within_more b s old is.within)) (within_new b s));
      number = ap (λ (o : Option ℕ). lesser o s.number) is.number ∙ sym (least_entered s old new e);
    }

pub left_within : (s : KeptSpot) (left old : List KeptSpot) (b : Sides) → IsEntered s left old → AreBounded old b → AllByRecursion (λ t. IsWithin b t.meta) left
left_within s left old b e is =
    let P : KeptSpot → Type 0 = λ t. IsWithin b t.meta in
    subst (AllByRecursion P) (sym e.old_is) (all_but P e.before s e.behind (subst (AllByRecursion P) e.new_is is.within))

-- where the number of the one that is gone wasn't the least, the least one is as before
pub left_bounded : (s : KeptSpot) (left old : List KeptSpot) (b : Sides) → b.number ≢ Some s.number → IsEntered s left old → AreBounded old b → AreBounded left b
left_bounded s left old b other e is =
    let least : b.number ≡ lesser (least_in None left) s.number = is.number ∙ least_entered s left old e in
    record {
      within = left_within s left old b e is;
      number = least ∙ lesser_other (least_in None left) s.number (λ h. other (least ∙ h));
    }

pub left_numbered : (s : KeptSpot) (left old : List KeptSpot) (b : Sides) (number : Option ℕ) → number ≡ least_in None left → IsEntered s left old → AreBounded old b
    → AreBounded left (record { layer = b.layer; grid = b.grid; z = b.z; row = b.row; col = b.col; number = number })
left_numbered s left old b number least e is =
    let new : Sides = record { layer = b.layer; grid = b.grid; z = b.z; row = b.row; col = b.col; number = number } in
    record {
      within = all_weaker (λ (t : KeptSpot). IsWithin b t.meta) (λ (t : KeptSpot). IsWithin new t.meta) (λ t w. record { layer = w.layer; grid = w.grid; z = w.z; row = w.row; col = w.col }) left (left_within s left old b e is);
      number = least;
    }

pub other_number : (o : Option ℕ) (n : ℕ) → option_map_or (λ k. k == n) o false ≡ false → o ≢ Some n
other_number None n e = λ h. absurd (cc)
other_number (Some k) n e = λ h. let same : k ≡ n = cc in let yes : (k == n) ≡ true = eq-eqb k n same in absurd (cc)

-- a metatile outside isn't there
pub outside : (ss : List KeptSpot) (b : Sides) (m : MetaKey) → AllByRecursion (λ t. IsWithin b t.meta) ss → (IsWithin b m → ⊥) → number_in ss m ≡ None
outside [] b m h out = refl
outside (s ∷ ss) b m h out = chosen (same_meta s.meta m) refl (outside ss b m h.1 out)
  where
    chosen : (t : Bool) → same_meta s.meta m ≡ t → number_in ss m ≡ None → option_map (λ (x : KeptSpot). x.number) (cond t (Some s) (find (is_spot_of m) ss)) ≡ None
    chosen true is k = absurd (out (subst (IsWithin b) (same_meta_is s.meta m is) h.0))
    chosen false is k = k
