-- how one part counts in the sums from scratch
use Rattle.std.proofs.Common.{ℕ, ◌≡◌, ◌≢◌, ◌+◌, ◌==◌, ◌∙◌, ap, arith, Bool, true, false, cond, eqb, List, ◌∷◌, ◌++◌}
use Rattle.std.specs.List.{filter, sum_by}
use Rattle.std.proofs.lemmas.Bool.Decides.{nat_tests}
use Rattle.std.proofs.lemmas.List.Elements.{filter-append}
use Rattle.std.proofs.lemmas.List.Sums.{sum_by-append, sum_by-cons}
use Rattle.quota_ledger.specs.Accounts.{Part, used, used_all}

-- a part at the front, once it is known whether it is of the layer
sum_with : (p : Part) (ps : List Part) (v : Bool) → sum_by (λ p. p.length) (cond v (p ∷ ps) ps) ≡ cond v p.length 0 + sum_by (λ p. p.length) ps
sum_with p ps true = sum_by-cons (λ p. p.length) p ps
sum_with p ps false = omega arith

used_both : (layer : ℕ) (before after : List Part) → used layer (before ++ after) ≡ used layer before + used layer after
used_both layer before after =
    ap (sum_by (λ p. p.length)) (filter-append (λ p. p.layer == layer) before after)
    ∙ sum_by-append (λ p. p.length) (filter (λ p. p.layer == layer) before) (filter (λ p. p.layer == layer) after)

used_with : (layer : ℕ) (before after : List Part) (p : Part) → used layer (before ++ p ∷ after) ≡ used layer (before ++ after) + cond (eqb p.layer layer) p.length 0
used_with layer before after p =
    let with = used_both layer before (p ∷ after) in
    let without = used_both layer before after in
    let one = sum_with p (filter (λ q. q.layer == layer) after) (eqb p.layer layer) in
    omega (arith, with, without, one)

-- a part counts in its layer
pub used_own : (before after : List Part) (p : Part) → used p.layer (before ++ p ∷ after) ≡ used p.layer (before ++ after) + p.length
used_own before after p = let e = used_with p.layer before after p in grind (arith, nat_tests)

-- and in no other
pub used_other : (layer : ℕ) (before after : List Part) (p : Part) → layer ≢ p.layer → used layer (before ++ p ∷ after) ≡ used layer (before ++ after)
used_other layer before after p other = let e = used_with layer before after p in grind (arith, nat_tests)

-- and in the sum of all layers
pub used_all_with : (before after : List Part) (p : Part) → used_all (before ++ p ∷ after) ≡ used_all (before ++ after) + p.length
used_all_with before after p =
    let with = sum_by-append (λ q. q.length) before (p ∷ after) in
    let without = sum_by-append (λ q. q.length) before after in
    let one = sum_by-cons (λ q. q.length) p after in
    omega (arith, with, without, one)
