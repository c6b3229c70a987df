-- One key fewer in a chunk is all chunks without its metatile, where no two keys are of one metatile.
use Rattle.std.proofs.Common.{ℕ, zero, suc, ◌≡◌, ◌≢◌, ◌<◌, Bool, true, false, List, [], ◌∷◌, ◌++◌, length, get_or, set, refl, ap, subst, sym, ◌∙◌, arith}
use Rattle.std.specs.List.{AllByRecursion, remove}
use Rattle.metatile_plan.specs.declared.metatile.MetaKey.{MetaKey}
use Rattle.metatile_plan.specs.Keys.{same_meta}
use Rattle.metatile_plan.proofs.Same.{same_meta_is, same_meta_self}
use Rattle.metatile_locks.proofs.Lists.{all_at, all_weaker}
use Rattle.kept_areas.specs.declared.spot.KeptSpot.{KeptSpot}
use Rattle.kept_areas.specs.Areas.{AreOnce, all_spots, without}
use Rattle.kept_areas.proofs.Leaving.{others}

-- no key is of the metatile
abbrev pub Lacks : MetaKey → List KeptSpot → Type 0
Lacks m ss = AllByRecursion (λ t. m ≢ t.meta) ss

differs : (m k : MetaKey) → m ≢ k → same_meta k m ≡ false
differs m k other = pick (same_meta k m) refl
  where
    pick : (b : Bool) → same_meta k m ≡ b → same_meta k m ≡ false
    pick true is = absurd (other (sym (same_meta_is k m is)))
    pick false is = is

all_left : {X : Type 0} (P : X → Type 0) (xs ys : List X) → AllByRecursion P (xs ++ ys) → AllByRecursion P xs
all_left P [] ys h = tt
all_left P (x ∷ xs) ys h = (h.0, all_left P xs ys h.1)

all_right : {X : Type 0} (P : X → Type 0) (xs ys : List X) → AllByRecursion P (xs ++ ys) → AllByRecursion P ys
all_right P [] ys h = h
all_right P (x ∷ xs) ys h = all_right P xs ys h.1

kept_all : (m : MetaKey) (ss : List KeptSpot) → Lacks m ss → others m ss ≡ ss
kept_all m [] h = refl
kept_all m (s ∷ ss) h = rw (differs m s.meta h.0) (ap (λ zs. s ∷ zs) (kept_all m ss h.1))

pub lacking : (m : MetaKey) (sss : List (List KeptSpot)) → Lacks m (all_spots sss) → sss ≡ without m sss
lacking m [] h = refl
lacking m (ss ∷ sss) h =
    let a = sym (kept_all m ss (all_left (λ t. m ≢ t.meta) ss (all_spots sss) h)) in
    let b = lacking m sss (all_right (λ t. m ≢ t.meta) ss (all_spots sss) h) in
    λ i. a i ∷ b i

-- ONE CHUNK

once_left : (xs ys : List KeptSpot) → AreOnce (xs ++ ys) → AreOnce xs
once_left [] ys o = tt
once_left (x ∷ xs) ys o = (all_left (λ t. x.meta ≢ t.meta) xs ys o.0, once_left xs ys o.1)

once_right : (xs ys : List KeptSpot) → AreOnce (xs ++ ys) → AreOnce ys
once_right [] ys o = o
once_right (x ∷ xs) ys o = once_right xs ys o.1

once_across : (xs ys : List KeptSpot) → AreOnce (xs ++ ys) → AllByRecursion (λ x. AllByRecursion (λ y. x.meta ≢ y.meta) ys) xs
once_across [] ys o = tt
once_across (x ∷ xs) ys o = (all_right (λ t. x.meta ≢ t.meta) xs ys o.0, once_across xs ys o.1)

lacks : (m k : MetaKey) (ss : List KeptSpot) → k ≡ m → AllByRecursion (λ t. k ≢ t.meta) ss → Lacks m ss
lacks m k ss e h = subst (λ (x : MetaKey). AllByRecursion (λ t. x ≢ t.meta) ss) e h

others_are : (m : MetaKey) (ss : List KeptSpot) (i : ℕ) (d : KeptSpot) → AreOnce ss → i < length ss → (get_or ss i d).meta ≡ m → others m ss ≡ remove ss i
others_are m [] i d o l e = absurd (omega arith)
others_are m (s ∷ ss) zero d o l e =
    let is : same_meta s.meta m ≡ true = subst (λ (x : MetaKey). same_meta s.meta x ≡ true) e (same_meta_self s.meta) in
    rw is (kept_all m ss (lacks m s.meta ss e o.0))
others_are m (s ∷ ss) (suc i) d o l e =
    let apart = all_at (λ (t : KeptSpot). s.meta ≢ t.meta) ss i d o.0 (omega arith) in
    rw (differs m s.meta (λ h. apart (sym h ∙ sym e))) (ap (λ zs. s ∷ zs) (others_are m ss i d o.1 (omega arith) e))

-- what holds of all keys holds of one in a chunk
all_in : (P : KeptSpot → Type 0) (sss : List (List KeptSpot)) (chunk i : ℕ) (ds : List KeptSpot) (d : KeptSpot) → AllByRecursion P (all_spots sss) → chunk < length sss → i < length (get_or sss chunk ds) → P (get_or (get_or sss chunk ds) i d)
all_in P [] chunk i ds d h l k = absurd (omega arith)
all_in P (ss ∷ sss) zero i ds d h l k = all_at P ss i d (all_left P ss (all_spots sss) h) k
all_in P (ss ∷ sss) (suc chunk) i ds d h l k = all_in P sss chunk i ds d (all_right P ss (all_spots sss) h) (omega arith) k

pub without_is : (m : MetaKey) (sss : List (List KeptSpot)) (chunk i : ℕ) (ds : List KeptSpot) (d : KeptSpot) → AreOnce (all_spots sss) → chunk < length sss → i < length (get_or sss chunk ds) → (get_or (get_or sss chunk ds) i d).meta ≡ m
    → set sss chunk (remove (get_or sss chunk ds) i) ≡ without m sss
without_is m [] chunk i ds d o l k e = absurd (omega arith)
without_is m (ss ∷ sss) zero i ds d o l k e =
    let here = sym (others_are m ss i d (once_left ss (all_spots sss) o) k e) in
    let rest = lacking m sss (lacks m (get_or ss i d).meta (all_spots sss) e (all_at (λ (x : KeptSpot). AllByRecursion (λ y. x.meta ≢ y.meta) (all_spots sss)) ss i d (once_across ss (all_spots sss) o) k)) in
    λ j. here j ∷ rest j
without_is m (ss ∷ sss) (suc chunk) i ds d o l k e =
    let apart : Lacks m ss =
    all_weaker (λ (x : KeptSpot). AllByRecursion (λ y. x.meta ≢ y.meta) (all_spots sss)) (λ (x : KeptSpot). m ≢ x.meta)
    (λ x h same. all_in (λ (y : KeptSpot). x.meta ≢ y.meta) sss chunk i ds d h (omega arith) k (sym same ∙ sym e)) ss (once_across ss (all_spots sss) o) in
    let here = sym (kept_all m ss apart) in
    let rest = without_is m sss chunk i ds d (once_right ss (all_spots sss) o) (omega arith) k e in
    λ j. here j ∷ rest j
