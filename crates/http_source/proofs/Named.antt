-- The values of dimensions, one after the other.
use Rattle.std.proofs.Common.{◌≡◌, ℕ, zero, suc, ◌≤◌, List, [], ◌∷◌, ◌++◌, length, drop, refl, sym, ap, ◌∙◌, arith}
use Rattle.std.specs.Prelude.{min}
use Rattle.std.proofs.lemmas.List.{append-nil}
use Rattle.catalog.specs.declared.layer.Dimension.{Dimension}
use Rattle.http_source.specs.Asked.{theme_values}

no_numbers : (ds : List Dimension) → theme_values ds [] ≡ []
no_numbers [] = refl
no_numbers (d ∷ ds) = refl

none_left : (ds : List Dimension) (ns : List ℕ) (i : ℕ) → min (length ds) (length ns) ≤ i → theme_values (drop i ds) (drop i ns) ≡ []
none_left [] ns zero h = refl
none_left [] ns (suc i) h = refl
none_left (d ∷ ds) [] zero h = refl
none_left (d ∷ ds) [] (suc i) h = no_numbers (drop i ds)
none_left (d ∷ ds) (n ∷ ns) zero h = absurd (omega (arith, h))
none_left (d ∷ ds) (n ∷ ns) (suc i) h = none_left ds ns i (omega (arith, h))

-- behind the last dimension, or the last number, all values are given
pub all_given : (given : List (List ℕ × List ℕ)) (ds : List Dimension) (ns : List ℕ) (i count : ℕ) (all : List (List ℕ × List ℕ)) → count ≡ min (length ds) (length ns) → count ≤ i → given ++ theme_values (drop i ds) (drop i ns) ≡ all → given ≡ all
all_given given ds ns i count all is h so_far =
    let left : min (length ds) (length ns) ≤ i = omega (arith, is, h) in
    sym (append-nil given) ∙ ap (λ (s : List (List ℕ × List ℕ)). given ++ s) (sym (none_left ds ns i left)) ∙ so_far
