-- which cuts from a number on hit a block
use Rattle.std.proofs.Common.{ℕ, zero, suc, ◌≡◌, ◌+◌, ◌<◌, ◌≤◌, ◌&&◌, ap, arith, refl, subst, Bool, true, false, List, [], ◌∷◌, length, drop, get_or, IsTrue}
use Rattle.std.specs.Prelude.{nat_le}
use Rattle.std.specs.List.{All, list_any}
use Rattle.std.proofs.lemmas.Bool.Decides.{nat_tests}
use Rattle.matrix_geometry.specs.declared.matrix.Matrix.{Matrix}
use Rattle.truncation_list.specs.declared.block.Block.{Block}
use Rattle.truncation_list.specs.declared.book.Cut.{Cut}
use Rattle.truncation_list.specs.Covers.{hits}
use Rattle.truncation_list.specs.Purge.{IsByNumber}
use Rattle.truncation_list.proofs.Decided.{is_le, join}
use Rattle.truncation_list.proofs.Rule.{any_none}
use Rattle.truncation_list.proofs.Settled.{neither}

module _ (m : Matrix) (block : Block) (number : ℕ) where
  abbrev pub hits_since : Cut → Bool
  hits_since cut = nat_le number cut.number && hits cut.cover m block

  lesser_not : (cut : Cut) → cut.number < number → hits_since cut ≡ false
  lesser_not cut l = let test : nat_le number cut.number ≡ false = grind (arith, nat_tests) in ap (λ (v : Bool). v && hits cut.cover m block) test

  second_false : (s t : Bool) → t ≡ false → (s && t) ≡ false
  second_false true t e = e
  second_false false t e = refl

  pub missed : (cut : Cut) → hits cut.cover m block ≡ false → hits_since cut ≡ false
  missed cut e = second_false (nat_le number cut.number) (hits cut.cover m block) e

  pub hit : (cut : Cut) → number ≤ cut.number → IsTrue (hits cut.cover m block) → IsTrue (hits_since cut)
  hit cut l t = join (nat_le number cut.number) (hits cut.cover m block) (is_le number cut.number l) t

  -- where one has a lesser number, none before it counts
  pub none_since : (cuts : List Cut) (i j : ℕ) (d : Cut) → j ≡ i + 1 → i < length cuts → IsByNumber cuts → (get_or cuts i d).number < number → All (λ cut. hits_since cut ≡ false) (drop j cuts) → list_any hits_since cuts ≡ false
  none_since [] i j d e l o m h = absurd (omega arith)
  none_since (x ∷ xs) i zero d e l o m h = absurd (omega arith)
  none_since (x ∷ xs) zero (suc j) d e l o m h =
      let none : j ≡ 0 = omega arith in
      neither (hits_since x) (list_any hits_since xs) (lesser_not x m) (any_none hits_since xs (subst (λ (i : ℕ). All (λ cut. hits_since cut ≡ false) (drop i xs)) none h))
  none_since (x ∷ xs) (suc i) (suc j) d e l o m h =
      let less : x.number < (get_or xs i d).number = o.0 i d (omega arith) in
      neither (hits_since x) (list_any hits_since xs) (lesser_not x (omega arith)) (none_since xs i j d (omega arith) (omega arith) o.1 m h)
