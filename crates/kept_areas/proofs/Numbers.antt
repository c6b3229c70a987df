-- The numbers of a list of keys: what one key more changes, and that no two are of one metatile.
use Rattle.std.proofs.Common.{ℕ, ◌≡◌, ◌≢◌, Bool, true, false, cond, List, [], ◌∷◌, ◌++◌, Option, Some, None, find, refl, sym, ap, subst, ◌∙◌, zero, suc, ◌<◌, length, get_or, arith, IsSome}
use Rattle.std.specs.List.{AllByRecursion}
use Rattle.std.specs.Option.{option_map}
use Rattle.metatile_plan.specs.declared.metatile.MetaKey.{MetaKey}
use Rattle.metatile_plan.specs.Keys.{same_meta}
use Rattle.metatile_plan.proofs.Same.{same_meta_is, same_meta_self}
use Rattle.kept_areas.specs.declared.spot.KeptSpot.{KeptSpot}
use Rattle.kept_areas.specs.Areas.{AreOnce, NoneHit, is_spot_of, number_in}
use Rattle.kept_areas.proofs.Keys.{same_sym}

-- an element in the midst is found where none before it is
found_among : {X : Type 0} (q : X → Bool) (xs : List X) (y : X) (ys : List X) → find q xs ≡ None → find q (xs ++ y ∷ ys) ≡ cond (q y) (Some y) (find q ys)
found_among q [] y ys e = refl
found_among q (x ∷ xs) y ys e = chosen (q x) e (found_among q xs y ys)
  where
    chosen : (b : Bool) → cond b (Some x) (find q xs) ≡ None → (find q xs ≡ None → find q (xs ++ y ∷ ys) ≡ cond (q y) (Some y) (find q ys)) → cond b (Some x) (find q (xs ++ y ∷ ys)) ≡ cond (q y) (Some y) (find q ys)
    chosen true e k = absurd (cc)
    chosen false e k = k e

-- one that isn't looked for changes nothing
passed_over : {X : Type 0} (q : X → Bool) (xs : List X) (y : X) (ys : List X) → q y ≡ false → find q (xs ++ y ∷ ys) ≡ find q (xs ++ ys)
passed_over q [] y ys e = rw e refl
passed_over q (x ∷ xs) y ys e = ap (cond (q x) (Some x)) (passed_over q xs y ys e)

unfound : (o : Option KeptSpot) → option_map (λ s. s.number) o ≡ None → o ≡ None
unfound None e = refl
unfound (Some s) e = absurd (cc)

-- one more in the midst of others, among which its metatile isn't
pub number_put : (m : MetaKey) (n : ℕ) (xs ys : List KeptSpot) → number_in xs m ≡ None → (k : MetaKey)
    → number_in (xs ++ record { meta = m; number = n } ∷ ys) k ≡ cond (same_meta k m) (Some n) (number_in (xs ++ ys) k)
number_put m n xs ys none k = pick (same_meta k m) refl
  where
    spot : KeptSpot
    spot = record { meta = m; number = n }

    pick : (b : Bool) → same_meta k m ≡ b → number_in (xs ++ spot ∷ ys) k ≡ cond b (Some n) (number_in (xs ++ ys) k)
    pick true is =
        let same : k ≡ m = same_meta_is k m is in
        let gone : find (is_spot_of k) xs ≡ None = subst (λ (x : MetaKey). find (is_spot_of x) xs ≡ None) (sym same) (unfound (find (is_spot_of m) xs) none) in
        let here : same_meta m k ≡ true = same_sym m k ∙ is in
        ap (option_map (λ s. s.number)) (found_among (is_spot_of k) xs spot ys gone ∙ ap (λ b. cond b (Some spot) (find (is_spot_of k) ys)) here)
    pick false is = ap (option_map (λ s. s.number)) (passed_over (is_spot_of k) xs spot ys (same_sym m k ∙ is))

-- none of a list is of a metatile that has no number in it
pub none_of : (m : MetaKey) (ss : List KeptSpot) → number_in ss m ≡ None → AllByRecursion (λ t. m ≢ t.meta) ss
none_of m [] e = tt
none_of m (s ∷ ss) e = chosen (same_meta s.meta m) refl e (none_of m ss)
  where
    differ : same_meta s.meta m ≡ false → m ≡ s.meta → ⊥
    differ is one = let z : same_meta s.meta m ≡ true = subst (λ (x : MetaKey). same_meta x m ≡ true) one (same_meta_self m) in absurd (cc)

    chosen : (b : Bool) → same_meta s.meta m ≡ b → option_map (λ (x : KeptSpot). x.number) (cond b (Some s) (find (is_spot_of m) ss)) ≡ None → (number_in ss m ≡ None → AllByRecursion (λ t. m ≢ t.meta) ss) → AllByRecursion (λ t. m ≢ t.meta) (s ∷ ss)
    chosen true is e k = absurd (cc)
    chosen false is e k = (differ is, k e)

-- NO TWO OF ONE METATILE

all_among : {X : Type 0} (P : X → Type 0) (xs : List X) (y : X) (ys : List X) → AllByRecursion P (xs ++ ys) → P y → AllByRecursion P (xs ++ y ∷ ys)
all_among P [] y ys h k = (k, h)
all_among P (x ∷ xs) y ys h k = (h.0, all_among P xs y ys h.1 k)

pub once_put : (m : MetaKey) (n : ℕ) (xs ys : List KeptSpot) → AreOnce (xs ++ ys) → AllByRecursion (λ t. m ≢ t.meta) (xs ++ ys) → AreOnce (xs ++ record { meta = m; number = n } ∷ ys)
once_put m n [] ys o h = (h, o)
once_put m n (x ∷ xs) ys o h = (all_among (λ t. x.meta ≢ t.meta) xs (record { meta = m; number = n }) ys o.0 (λ e. h.0 (sym e)), once_put m n xs ys o.1 h.1)

-- WHAT IS THERE

pub number_there : (ss : List KeptSpot) (i : ℕ) (d : KeptSpot) → i < length ss → IsSome (number_in ss (get_or ss i d).meta)
number_there [] i d h = absurd (omega arith)
number_there (s ∷ ss) zero d h = rw (same_meta_self s.meta) refl
number_there (s ∷ ss) (suc i) d h = chosen (same_meta s.meta (get_or ss i d).meta) (number_there ss i d (omega arith))
  where
    chosen : (b : Bool) → IsSome (number_in ss (get_or ss i d).meta) → IsSome (option_map (λ (x : KeptSpot). x.number) (cond b (Some s) (find (is_spot_of (get_or ss i d).meta) ss)))
    chosen true h = refl
    chosen false h = h

-- where none of a list is hit, no metatile that is there is
pub there_not_hit : (is_hit : MetaKey → Bool) (ss : List KeptSpot) (m : MetaKey) → NoneHit is_hit ss → IsSome (number_in ss m) → is_hit m ≡ false
there_not_hit is_hit [] m none some = absurd (cc)
there_not_hit is_hit (s ∷ ss) m none some = chosen (same_meta s.meta m) refl some (there_not_hit is_hit ss m none.1)
  where
    chosen : (b : Bool) → same_meta s.meta m ≡ b → IsSome (option_map (λ (x : KeptSpot). x.number) (cond b (Some s) (find (is_spot_of m) ss))) → (IsSome (number_in ss m) → is_hit m ≡ false) → is_hit m ≡ false
    chosen true is h k = subst (λ (x : MetaKey). is_hit x ≡ false) (same_meta_is s.meta m is) none.0
    chosen false is h k = k h
