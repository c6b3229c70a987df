-- the last cut of an ordered list, and the last one that covers a tile
use Rattle.std.proofs.Common.{ℕ, ◌≡◌, ◌+◌, ◌<◌, ◌≤◌, refl, subst, arith, zero, suc, false, List, [], ◌∷◌, length, drop, Some, IsTrue, get_or}
use Rattle.std.specs.List.{All}
use Rattle.std.proofs.lemmas.List.Elements.{All-cons, All-get_or, All-head, All-weaker, Contains-get_or}
use Rattle.matrix_geometry.specs.declared.address.Address.{Address}
use Rattle.matrix_geometry.specs.declared.matrix.Matrix.{Matrix}
use Rattle.truncation_list.specs.declared.book.Cut.{Cut}
use Rattle.truncation_list.specs.Books.{greatest_number}
use Rattle.truncation_list.specs.Covers.{covers}
use Rattle.truncation_list.specs.Listed.{IsLastCovering}
use Rattle.truncation_list.specs.Purge.{IsByNumber}
use Rattle.truncation_list.proofs.Answering.{any_of}

-- the greatest number is that of the last cut
pub greatest_is_last : (cuts : List Cut) (i : ℕ) (d : Cut) → IsByNumber cuts → i + 1 ≡ length cuts → greatest_number cuts ≡ (get_or cuts i d).number
greatest_is_last [] i d o e = absurd (omega arith)
greatest_is_last (x ∷ []) zero d o e = omega arith
greatest_is_last (x ∷ y ∷ ys) zero d o e = absurd (omega arith)
greatest_is_last (x ∷ []) (suc i) d o e = absurd (omega arith)
greatest_is_last (x ∷ y ∷ ys) (suc i) d o e =
    let h = greatest_is_last (y ∷ ys) i d o.1 (omega arith) in
    let less : x.number < y.number = All-head (λ other. x.number < other.number) y ys o.0 in
    omega arith

module _ (m : Matrix) (a : Address) where
  -- none of the later ones covers the tile, and the earlier ones are lesser
  none_greater : (cuts : List Cut) (i j : ℕ) (d : Cut) → j ≡ i + 1 → i < length cuts → IsByNumber cuts → All (λ cut. covers cut.cover m a ≡ false) (drop j cuts) → All (λ cut. IsTrue (covers cut.cover m a) → cut.number ≤ (get_or cuts i d).number) cuts
  none_greater [] i j d e l o n = absurd (omega arith)
  none_greater (x ∷ xs) i zero d e l o n = absurd (omega arith)
  none_greater (x ∷ xs) zero (suc j) d e l o n =
      let none : j ≡ 0 = omega arith in
      let rest : All (λ cut. covers cut.cover m a ≡ false) (drop 0 xs) = subst (λ (i : ℕ). All (λ cut. covers cut.cover m a ≡ false) (drop i xs)) none n in
      All-cons (λ cut. IsTrue (covers cut.cover m a) → cut.number ≤ x.number) x xs (λ h. omega arith) (All-weaker (λ cut. covers cut.cover m a ≡ false) (λ cut. IsTrue (covers cut.cover m a) → cut.number ≤ x.number) (λ cut f h. absurd (cc)) xs rest)
  none_greater (x ∷ xs) (suc i) (suc j) d e l o n =
      let less : x.number < (get_or xs i d).number = All-get_or (λ other. x.number < other.number) xs i d (omega arith) o.0 in
      All-cons (λ cut. IsTrue (covers cut.cover m a) → cut.number ≤ (get_or xs i d).number) x xs (λ h. omega arith) (none_greater xs i j d (omega arith) (omega arith) o.1 n)

  pub last_is : (cuts : List Cut) (i j : ℕ) (d : Cut) → j ≡ i + 1 → i < length cuts → IsByNumber cuts → IsTrue (covers (get_or cuts i d).cover m a) → All (λ cut. covers cut.cover m a ≡ false) (drop j cuts) → IsLastCovering cuts m a (Some (get_or cuts i d).number)
  last_is cuts i j d e l o h n =
      (any_of (λ cut. (cut.number ≡ (get_or cuts i d).number) × IsTrue (covers cut.cover m a)) cuts (get_or cuts i d) (Contains-get_or cuts i d l) (refl, h), none_greater cuts i j d e l o n)
