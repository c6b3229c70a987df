-- the whole stays the sum of the layers
use Rattle.std.proofs.Common.{ℕ, ◌≡◌, ◌+◌, ◌-◌, ◌<◌, ◌≤◌, ◌∙◌, ap, sym, subst, refl, arith, List, [], ◌∷◌, length, get_or, None, Some}
use Rattle.std.specs.List.{AllByRecursion, sum_by}
use Rattle.std.specs.Option.{option_map_or}
use Rattle.std.specs.Prelude.{slice_get, slice_set}
use Rattle.std.proofs.lemmas.List.Sums.{get_or-le-sum_by, sum_by-cons, sum_by-set}
use Rattle.std.proofs.lemmas.Option.{get_or_from_slice_get, slice_get-get_or, slice_get_read, slice_get_within}
use Rattle.catalog.specs.declared.catalogue.Catalogue.{Catalogue}
use Rattle.catalog.specs.declared.layer as layers
use Rattle.quota_ledger.specs.declared.account.Account.{Account}
use Rattle.quota_ledger.specs.Accounts.{Accounts, IsBalanced, Part, accounts, accounts_from, added, changed, less, more, removed, used_at}
use Rattle.quota_ledger.proofs.Counting.{added_between, same_layers}

-- what an index past the accounts reads
pub no_account : Account
no_account = record { quota = None; used = 0 }

-- an account of the list read, and changed in its place
pub used_read : (a : Accounts) (layer : ℕ) (x : Account) → slice_get a.layers layer ≡ Some x → used_at a layer ≡ x.used
used_read a layer x found = ap (λ o. option_map_or (λ (y : Account). y.used) o 0) found

pub changed_read : (f : Account → Account) (layer : ℕ) (xs : List Account) (x : Account) → slice_get xs layer ≡ Some x → changed f layer xs ≡ slice_set xs layer (f x)
changed_read f layer xs x found = ap (λ o. option_map_or (λ y. slice_set xs layer (f y)) o xs) found

-- a layer takes no more than all of them together
pub used_at_most : (a : Accounts) (layer : ℕ) → IsBalanced a → layer < length a.layers → used_at a layer ≤ a.whole.used
used_at_most a layer balanced known =
    let read = used_read a layer (get_or a.layers layer no_account) (slice_get-get_or a.layers layer no_account known) in
    let most = get_or-le-sum_by (λ (x : Account). x.used) a.layers layer no_account known in
    omega (arith, balanced, read, most)

-- the sum of the layers moves as the changed account does
sum_changed : (f : Account → Account) (layer : ℕ) (xs : List Account) (x : Account) → slice_get xs layer ≡ Some x → sum_by (λ y. y.used) (changed f layer xs) + x.used ≡ sum_by (λ y. y.used) xs + (f x).used
sum_changed f layer xs x found =
    let changes = ap (sum_by (λ (y : Account). y.used)) (changed_read f layer xs x found) in
    let sum = sum_by-set (λ (y : Account). y.used) xs layer (f x) x (slice_get_within xs layer x found) in
    let read = ap (λ (y : Account). y.used) (get_or_from_slice_get xs layer x x found) in
    omega (arith, changes, sum, read)

pub balanced_added : (a : Accounts) (layer n : ℕ) → IsBalanced a → layer < length a.layers → IsBalanced (added layer n a)
balanced_added a layer n balanced known =
    let sum = sum_changed (more n) layer a.layers (get_or a.layers layer no_account) (slice_get-get_or a.layers layer no_account known) in
    omega (arith, balanced, sum)

pub balanced_removed : (a : Accounts) (layer n : ℕ) → IsBalanced a → layer < length a.layers → n ≤ used_at a layer → IsBalanced (removed layer n a)
balanced_removed a layer n balanced known held =
    let found = slice_get-get_or a.layers layer no_account known in
    let read = used_read a layer (get_or a.layers layer no_account) found in
    let sum = sum_changed (less n) layer a.layers (get_or a.layers layer no_account) found in
    omega (arith, balanced, held, read, sum)

-- a removal by way of the layer's account x: its place alone changes, and the whole stays the sum
pub removed_at : (a : Accounts) (layer n : ℕ) (x : Account) → n ≤ used_at a layer → layer < length a.layers → x ≡ get_or a.layers layer x → IsBalanced a → (changed (less n) layer a.layers ≡ slice_set a.layers layer (less n x)) × (a.whole.used - n ≡ sum_by (λ y. y.used) (slice_set a.layers layer (less n x)))
removed_at a layer n x held known at balanced =
    let layers = changed_read (less n) layer a.layers x (slice_get_read a.layers (length a.layers) layer x refl known at) in
    (layers, balanced_removed a layer n balanced known held ∙ ap (sum_by (λ (y : Account). y.used)) layers)

none_taken : (i : ℕ) (ls : List layers.Layer.Layer) → sum_by (λ x. x.used) (accounts_from i ls []) ≡ 0
none_taken i [] = refl
none_taken i (l ∷ ls) =
    let first = sum_by-cons (λ x. x.used) (record { quota = l.quota; used = 0 }) (accounts_from (i + 1) ls []) in
    let others = none_taken (i + 1) ls in
    omega arith

pub balanced_parts : (c : Catalogue) (parts : List Part) → AllByRecursion (λ p. p.layer < length c.layers) parts → IsBalanced (accounts c parts)
balanced_parts c [] known = sym (none_taken 0 c.layers)
balanced_parts c (p ∷ ps) known =
    let within : p.layer < length (accounts c ps).layers = omega (arith, known.0, same_layers c ps) in
    subst IsBalanced (added_between c [] ps p known.0) (balanced_added (accounts c ps) p.layer p.length (balanced_parts c ps known.1) within)
