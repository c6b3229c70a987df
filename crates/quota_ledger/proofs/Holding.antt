-- what exceeds its quota holds something
use Rattle.std.proofs.Common.{ℕ, ◌≡◌, ◌==◌, ◌||◌, ◌<◌, subst, refl, arith, Bool, true, false, cond, ltb, List, [], ◌∷◌, get_or, Option, Some, None}
use Rattle.std.specs.List.{filter, list_any, position, sum_by}
use Rattle.std.specs.Option.{option_map_or}
use Rattle.std.proofs.lemmas.Bool.{false≢true}
use Rattle.std.proofs.lemmas.Bool.Decides.{nat_tests}
use Rattle.std.proofs.lemmas.List.Quantifiers.{position-Some}
use Rattle.std.proofs.lemmas.Option.{none-some, same_Some, slice_get-get_or}
use Rattle.catalog.specs.declared.catalogue.Catalogue.{Catalogue}
use Rattle.catalog.specs.declared.catalogue.Scope.{Scope}
use Rattle.catalog.specs.declared.catalogue.Scope.TheVariants.{Layer, All}
use Rattle.catalog.specs.Scopes.{is_in}
use Rattle.quota_ledger.specs.declared.account.Account.{Account}
use Rattle.quota_ledger.specs.Accounts.{Part, accounts, exceeded, is_above, or_all, used_all}
use Rattle.quota_ledger.proofs.Balance.{no_account, used_read}
use Rattle.quota_ledger.proofs.Counting.{same_layers, sums_of}

-- an account above its quota has something
above_none : (x : Account) → is_above x ≡ true → 0 < x.used
above_none x above = go x.quota above
  where
    go : (quota : Option ℕ) → option_map_or (λ q. ltb q x.used) quota false ≡ true → 0 < x.used
    go (Some q) h = grind (arith, nat_tests)
    go None h = absurd (false≢true h)

-- where a sum over the parts that pass a test is above 0, some part passes it
holds_in_sum : (test : Part → Bool) (parts : List Part) → 0 < sum_by (λ p. p.length) (filter test parts) → list_any test parts ≡ true
holds_in_sum test [] some = absurd (omega arith)
holds_in_sum test (p ∷ ps) some = go (test p) (holds_in_sum test ps) some
  where
    go : (v : Bool) → (0 < sum_by (λ p. p.length) (filter test ps) → list_any test ps ≡ true) → 0 < sum_by (λ p. p.length) (cond v (p ∷ filter test ps) (filter test ps)) → (v || list_any test ps) ≡ true
    go true others h = refl
    go false others h = others h

holds_at_all : (parts : List Part) → 0 < used_all parts → list_any (λ p. true) parts ≡ true
holds_at_all [] some = absurd (omega arith)
holds_at_all (p ∷ ps) some = refl

pub holds_some : (c : Catalogue) (parts : List Part) (scope : Scope) → exceeded (accounts c parts) ≡ Some scope → list_any (λ p. is_in scope p.layer) parts ≡ true
holds_some c parts scope = go (position is_above (accounts c parts).layers) refl (is_above (accounts c parts).whole) refl
  where
    Holds : Scope → Type 0
    Holds s = list_any (λ p. is_in s p.layer) parts ≡ true

    holds_in : (layer : ℕ) → position is_above (accounts c parts).layers ≡ Some layer → Holds (Layer layer)
    holds_in layer first =
        let at = position-Some is_above (accounts c parts).layers layer no_account first in
        let taken = above_none (get_or (accounts c parts).layers layer no_account) at.1 in
        let account = used_read (accounts c parts) layer (get_or (accounts c parts).layers layer no_account) (slice_get-get_or (accounts c parts).layers layer no_account at.0) in
        let sum = sums_of c parts layer (omega (arith, at.0, same_layers c parts)) in
        holds_in_sum (λ p. p.layer == layer) parts (omega (arith, taken, account, sum))

    holds_all : (v : Bool) → is_above (accounts c parts).whole ≡ v → cond v (Some All) None ≡ Some scope → Holds scope
    holds_all true above is = subst Holds (same_Some All scope is) (holds_at_all parts (above_none (accounts c parts).whole above))
    holds_all false above is = absurd (none-some scope is)

    go : (first : Option ℕ) → position is_above (accounts c parts).layers ≡ first → (v : Bool) → is_above (accounts c parts).whole ≡ v → or_all first v ≡ Some scope → Holds scope
    go (Some layer) first v above is = subst Holds (same_Some (Layer layer) scope is) (holds_in layer first)
    go None first v above is = holds_all v above is
