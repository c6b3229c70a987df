-- The least number of some keys, whatever their order and however they are parted.
use Rattle.std.proofs.Common.{ℕ, zero, suc, ◌≡◌, ◌≢◌, ◌<◌, ◌≤◌, min, true, false, List, [], ◌∷◌, ◌++◌, map, length, take, get_or, Option, Some, None, inl, inr, fold, refl, sym, ap, ◌∙◌, arith}
use Rattle.std.specs.Prelude.{nat_lt}
use Rattle.std.proofs.lemmas.Bool.{cases_lt}
use Rattle.std.proofs.lemmas.Bool.Decides.{nat_tests}
use Rattle.std.proofs.lemmas.Grind.{fold-append}
use Rattle.std.proofs.lemmas.List.{map-append}
use Rattle.kept_areas.specs.declared.spot.KeptSpot.{KeptSpot}
use Rattle.kept_areas.specs.Areas.{least_in, lesser}
use Rattle.kept_areas.specs.Kept.{IsEntered}

-- TWO NUMBERS

below : (x y : ℕ) → x < y → nat_lt x y ≡ true
below x y l = grind (arith, nat_tests)

not_below : (x y : ℕ) → y ≤ x → nat_lt x y ≡ false
not_below x y l = grind (arith, nat_tests)

lesser_min : (m n : ℕ) → lesser (Some m) n ≡ Some (min m n)
lesser_min m n = elim (cases_lt n m) [
  | inl l ↦ let e : n ≡ min m n = omega arith in rw (below n m l) (ap Some e)
  | inr l ↦ let e : m ≡ min m n = omega arith in rw (not_below n m l) (ap Some e)
]

lesser_twice : (w m n : ℕ) → lesser (lesser (Some w) m) n ≡ Some (min (min w m) n)
lesser_twice w m n = ap (λ (o : Option ℕ). lesser o n) (lesser_min w m) ∙ lesser_min (min w m) n

lesser_swap : (was : Option ℕ) (m n : ℕ) → lesser (lesser was m) n ≡ lesser (lesser was n) m
lesser_swap None m n = let e : min m n ≡ min n m = omega arith in lesser_min m n ∙ ap Some e ∙ sym (lesser_min n m)
lesser_swap (Some w) m n = let e : min (min w m) n ≡ min (min w n) m = omega arith in lesser_twice w m n ∙ ap Some e ∙ sym (lesser_twice w n m)

-- where it isn't the number, it is what was before
pub lesser_other : (was : Option ℕ) (n : ℕ) → lesser was n ≢ Some n → lesser was n ≡ was
lesser_other None n other = absurd (other refl)
lesser_other (Some w) n other = elim (cases_lt n w) [
  | inl l ↦ absurd (other (rw (below n w l) refl))
  | inr l ↦ rw (not_below n w l) refl
]

-- ONE MORE

-- one more of the first ones
pub taken_next : {X : Type 0} (xs : List X) (i : ℕ) (d : X) → i < length xs → take (suc i) xs ≡ take i xs ++ get_or xs i d ∷ []
taken_next [] i d h = absurd (omega arith)
taken_next (x ∷ xs) zero d h = refl
taken_next (x ∷ xs) (suc i) d h = ap (λ zs. x ∷ zs) (taken_next xs i d (omega arith))

pub least_next : (was : Option ℕ) (ss : List KeptSpot) (i : ℕ) (d : KeptSpot) → i < length ss → lesser (least_in was (take i ss)) (get_or ss i d).number ≡ least_in was (take (suc i) ss)
least_next was ss i d h = sym (ap (λ (zs : List KeptSpot). least_in was zs) (taken_next ss i d h) ∙ rw (map-append, fold-append) refl)

fold_out : (was : Option ℕ) (n : ℕ) (ns : List ℕ) → fold lesser (lesser was n) ns ≡ lesser (fold lesser was ns) n
fold_out was n [] = refl
fold_out was n (m ∷ ns) = ap (λ (o : Option ℕ). fold lesser o ns) (lesser_swap was n m) ∙ fold_out (lesser was m) n ns

parted : (was : Option ℕ) (xs ys : List KeptSpot) → least_in was (xs ++ ys) ≡ least_in (least_in was xs) ys
parted was xs ys = rw (map-append, fold-append) refl

pub least_entered : (s : KeptSpot) (old new : List KeptSpot) → IsEntered s old new → least_in None new ≡ lesser (least_in None old) s.number
least_entered s old new e =
    let many : least_in None new ≡ least_in (least_in None e.before) (s ∷ e.behind) = ap (λ (zs : List KeptSpot). least_in None zs) e.new_is ∙ parted None e.before (s ∷ e.behind) in
    let few : least_in None old ≡ least_in (least_in None e.before) e.behind = ap (λ (zs : List KeptSpot). least_in None zs) e.old_is ∙ parted None e.before e.behind in
    many ∙ fold_out (least_in None e.before) s.number (map (λ t. t.number) e.behind) ∙ ap (λ (o : Option ℕ). lesser o s.number) (sym few)

-- PARTS

-- the lesser of two, where there are both
abbrev lesser_of : Option ℕ → Option ℕ → Option ℕ
lesser_of was None = was
lesser_of was (Some n) = lesser was n

through : (was : Option ℕ) (n : ℕ) (o : Option ℕ) → lesser_of (lesser was n) o ≡ lesser_of was (lesser_of (Some n) o)
through was n None = refl
through None n (Some k) = lesser_min n k ∙ sym (ap (lesser_of None) (lesser_min n k))
through (Some w) n (Some k) =
    let e : min (min w n) k ≡ min w (min n k) = omega arith in
    lesser_twice w n k ∙ ap Some e ∙ sym (ap (lesser_of (Some w)) (lesser_min n k) ∙ lesser_min w (min n k))

fold_parts : (was : Option ℕ) (ns : List ℕ) → fold lesser was ns ≡ lesser_of was (fold lesser None ns)
fold_parts was [] = refl
fold_parts was (n ∷ ns) = fold_parts (lesser was n) ns ∙ through was n (fold lesser None ns) ∙ ap (lesser_of was) (sym (fold_parts (Some n) ns))

pub least_none : (was : Option ℕ) (ss : List KeptSpot) → None ≡ least_in None ss → was ≡ least_in was ss
least_none was ss e = sym (fold_parts was (map (λ s. s.number) ss) ∙ ap (lesser_of was) (sym e))

pub least_some : (was : Option ℕ) (n : ℕ) (ss : List KeptSpot) → Some n ≡ least_in None ss → lesser was n ≡ least_in was ss
least_some was n ss e = sym (fold_parts was (map (λ s. s.number) ss) ∙ ap (lesser_of was) (sym e))

pub least_joined : (was : Option ℕ) (xs ys : List KeptSpot) → least_in (least_in was xs) ys ≡ least_in was (xs ++ ys)
least_joined was xs ys = sym (parted was xs ys)
