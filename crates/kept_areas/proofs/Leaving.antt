-- What is left without a metatile.
use Rattle.std.proofs.Common.{ℕ, zero, suc, ◌≡◌, ◌≢◌, Bool, true, false, not, cond, List, [], ◌∷◌, ◌++◌, filter, take, Option, None, find, refl, sym, ap, subst, ◌∙◌}
use Rattle.std.specs.Option.{option_map}
use Rattle.metatile_plan.specs.declared.metatile.MetaKey.{MetaKey}
use Rattle.metatile_plan.specs.Keys.{same_meta}
use Rattle.metatile_plan.proofs.Same.{same_meta_is, same_meta_self}
use Rattle.metatile_locks.proofs.Lists.{all_filter, find_filter}
use Rattle.kept_areas.specs.declared.spot.KeptSpot.{KeptSpot}
use Rattle.kept_areas.specs.Areas.{AreOnce, IsClear, NoneHit, all_spots, is_spot_of, number_in, without}

-- all but those of a metatile
abbrev pub others : MetaKey → List KeptSpot → List KeptSpot
others m ss = filter (λ s. not (is_spot_of m s)) ss

filter_joined : {X : Type 0} (p : X → Bool) (xs ys : List X) → filter p (xs ++ ys) ≡ filter p xs ++ filter p ys
filter_joined p [] ys = refl
filter_joined p (x ∷ xs) ys = chosen (p x) (filter_joined p xs ys)
  where
    chosen : (b : Bool) → filter p (xs ++ ys) ≡ filter p xs ++ filter p ys → cond b (x ∷ filter p (xs ++ ys)) (filter p (xs ++ ys)) ≡ cond b (x ∷ filter p xs) (filter p xs) ++ filter p ys
    chosen true e = ap (λ zs. x ∷ zs) e
    chosen false e = e

pub spots_without : (m : MetaKey) (sss : List (List KeptSpot)) → all_spots (without m sss) ≡ others m (all_spots sss)
spots_without m [] = refl
spots_without m (ss ∷ sss) = ap (λ zs. others m ss ++ zs) (spots_without m sss) ∙ sym (filter_joined (λ s. not (is_spot_of m s)) ss (all_spots sss))

pub once_others : (m : MetaKey) (ss : List KeptSpot) → AreOnce ss → AreOnce (others m ss)
once_others m [] o = tt
once_others m (s ∷ ss) o = chosen (not (is_spot_of m s)) (once_others m ss o.1)
  where
    chosen : (b : Bool) → AreOnce (others m ss) → AreOnce (cond b (s ∷ others m ss) (others m ss))
    chosen true rest = (all_filter (λ t. s.meta ≢ t.meta) (λ t. not (is_spot_of m t)) ss o.0, rest)
    chosen false rest = rest

pub number_others : (m : MetaKey) (ss : List KeptSpot) (k : MetaKey) → number_in (others m ss) k ≡ cond (same_meta k m) None (number_in ss k)
number_others m ss k = ap (option_map (λ s. s.number)) (find_filter (is_spot_of k) (λ s. not (is_spot_of m s)) (not (same_meta k m)) at ss) ∙ turned (same_meta k m) (find (is_spot_of k) ss)
  where
    at : (s : KeptSpot) → same_meta s.meta k ≡ true → not (same_meta s.meta m) ≡ not (same_meta k m)
    at s is = ap (λ (x : MetaKey). not (same_meta x m)) (same_meta_is s.meta k is)

    turned : (b : Bool) (o : Option KeptSpot) → option_map (λ s. s.number) (cond (not b) o None) ≡ cond b None (option_map (λ s. s.number) o)
    turned true o = refl
    turned false o = refl

pub none_left : (m : MetaKey) (ss : List KeptSpot) → number_in (others m ss) m ≡ None
none_left m ss = number_others m ss m ∙ ap (λ b. cond b None (number_in ss m)) (same_meta_self m)

take_without : (m : MetaKey) (n : ℕ) (sss : List (List KeptSpot)) → take n (without m sss) ≡ without m (take n sss)
take_without m zero sss = refl
take_without m (suc n) [] = refl
take_without m (suc n) (ss ∷ sss) = ap (λ zs. others m ss ∷ zs) (take_without m n sss)

pub clear_without : (is_hit : MetaKey → Bool) (n : ℕ) (m : MetaKey) (sss : List (List KeptSpot)) → IsClear is_hit n sss → IsClear is_hit n (without m sss)
clear_without is_hit n m sss h =
    subst (NoneHit is_hit) (sym (ap all_spots (take_without m n sss) ∙ spots_without m (take n sss))) (all_filter (λ s. is_hit s.meta ≡ false) (λ s. not (is_spot_of m s)) (all_spots (take n sss)) h)

pub number_without : (m : MetaKey) (sss : List (List KeptSpot)) (k : MetaKey) → number_in (all_spots (without m sss)) k ≡ cond (same_meta k m) None (number_in (all_spots sss) k)
number_without m sss k = ap (λ zs. number_in zs k) (spots_without m sss) ∙ number_others m (all_spots sss) k
