-- Lists of numbers, compared part by part.
use Rattle.std.proofs.Common.{ℕ, ◌≡◌, Ordering, Less, Equal, Greater, sym, List, [], ◌∷◌, ◌++◌, length, refl, ap, ◌∙◌, arith}
use Rattle.std.specs.Cmp.Lexicographic.{slice_cmp}
use Rattle.std.specs.Ordering.{nat_cmp, ordering_then}

pub then_equal : (o : Ordering) → ordering_then o Equal ≡ o
then_equal Less = refl
then_equal Equal = refl
then_equal Greater = refl

pub then_then : (o p q : Ordering) → ordering_then (ordering_then o p) q ≡ ordering_then o (ordering_then p q)
then_then Less p q = refl
then_then Equal p q = refl
then_then Greater p q = refl

-- lists whose first parts are us long
pub cmp_parts : (us bs cs ds : List ℕ) → length us ≡ length bs → slice_cmp nat_cmp (us ++ cs) (bs ++ ds) ≡ ordering_then (slice_cmp nat_cmp us bs) (slice_cmp nat_cmp cs ds)
cmp_parts [] [] cs ds l = refl
cmp_parts [] (b ∷ bs) cs ds l = absurd (omega arith)
cmp_parts (a ∷ us) [] cs ds l = absurd (omega arith)
cmp_parts (a ∷ us) (b ∷ bs) cs ds l =
    ap (ordering_then (nat_cmp a b)) (cmp_parts us bs cs ds (omega arith)) ∙ sym (then_then (nat_cmp a b) (slice_cmp nat_cmp us bs) (slice_cmp nat_cmp cs ds))
