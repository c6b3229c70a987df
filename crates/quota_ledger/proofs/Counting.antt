-- a part counted in or out gives the accounts of the parts with it or without it
use Rattle.std.proofs.Common.{ℕ, ◌≡◌, ◌≢◌, ◌+◌, ◌-◌, ◌<◌, ◌≤◌, ◌∙◌, ap, sym, subst, refl, arith, zero, suc, List, [], ◌∷◌, ◌++◌, length, map, Option, Some, None}
use Rattle.std.specs.Prelude.{slice_get, slice_set}
use Rattle.std.specs.Option.{option_map_or}
use Rattle.std.proofs.lemmas.List.{append-nil}
use Rattle.catalog.specs.declared.catalogue.Catalogue.{Catalogue}
use Rattle.catalog.specs.declared.layer as layers
use Rattle.quota_ledger.specs.declared.account.Account.{Account}
use Rattle.quota_ledger.specs.Accounts.{Accounts, Part, accounts, accounts_from, added, changed, less, more, removed, used, used_all, used_at}
use Rattle.quota_ledger.proofs.Sums.{used_all_with, used_other, used_own}

-- THE ACCOUNTS OF SOME PARTS

length_from : (i : ℕ) (ls : List layers.Layer.Layer) (parts : List Part) → length (accounts_from i ls parts) ≡ length ls
length_from i [] parts = refl
length_from i (l ∷ ls) parts = ap suc (length_from (i + 1) ls parts)

pub same_layers : (c : Catalogue) (parts : List Part) → length (accounts c parts).layers ≡ length c.layers
same_layers c parts = length_from 0 c.layers parts

-- the account at a place has the sum of its layer
used_from : (i k : ℕ) (ls : List layers.Layer.Layer) (parts : List Part) → k < length ls → option_map_or (λ x. x.used) (slice_get (accounts_from i ls parts) k) 0 ≡ used (i + k) parts
used_from i k [] parts k_in = absurd (omega arith)
used_from i zero (l ∷ ls) parts k_in = ap (λ j. used j parts) (omega arith)
used_from i (suc k) (l ∷ ls) parts k_in = used_from (i + 1) k ls parts (omega arith) ∙ ap (λ j. used j parts) (omega arith)

pub sums_of : (c : Catalogue) (parts : List Part) (layer : ℕ) → layer < length c.layers → used_at (accounts c parts) layer ≡ used layer parts
sums_of c parts layer known = used_from 0 layer c.layers parts known ∙ ap (λ j. used j parts) (omega arith)

-- without a part nothing is used
pub unused_layers : (i : ℕ) (ls : List layers.Layer.Layer) → map (λ l. record { quota = l.quota; used = 0 }) ls ≡ accounts_from i ls []
unused_layers i [] = refl
unused_layers i (l ∷ ls) = ap (λ xs. record { quota = l.quota; used = 0 } ∷ xs) (unused_layers (i + 1) ls)

-- CHANGES

-- a change after the first account
changed_later : (f : Account → Account) (k : ℕ) (x : Account) (xs : List Account) → changed f (suc k) (x ∷ xs) ≡ x ∷ changed f k xs
changed_later f k x xs = go (slice_get xs k)
  where
    go : (found : Option Account) → option_map_or (λ a. slice_set (x ∷ xs) (suc k) (f a)) found (x ∷ xs) ≡ x ∷ option_map_or (λ a. slice_set xs k (f a)) found xs
    go (Some a) = refl
    go None = refl

-- other parts with the same sums
same_from : (i : ℕ) (ls : List layers.Layer.Layer) (parts others : List Part) → ((j : ℕ) → i ≤ j → used j parts ≡ used j others) → accounts_from i ls parts ≡ accounts_from i ls others
same_from i [] parts others same = refl
same_from i (l ∷ ls) parts others same =
    ap (λ n. record { quota = l.quota; used = n } ∷ accounts_from (i + 1) ls parts) (same i (omega arith))
    ∙ ap (λ xs. record { quota = l.quota; used = used i others } ∷ xs) (same_from (i + 1) ls parts others (λ j h. same j (omega arith)))

-- other parts with the same sums but for one layer
module _ (f : Account → Account) (layer : ℕ) (parts others : List Part) (same : (j : ℕ) → j ≢ layer → used j parts ≡ used j others) (own : (quota : Option ℕ) → f (record { quota = quota; used = used layer parts }) ≡ record { quota = quota; used = used layer others }) where
  pub changed_from : (i k : ℕ) (ls : List layers.Layer.Layer) → i + k ≡ layer → k < length ls → changed f k (accounts_from i ls parts) ≡ accounts_from i ls others
  changed_from i k [] at k_in = absurd (omega arith)
  changed_from i zero (l ∷ ls) at k_in =
      let here : i ≡ layer = omega arith in
      let first : f (record { quota = l.quota; used = used i parts }) ≡ record { quota = l.quota; used = used i others } = subst (λ j. f (record { quota = l.quota; used = used j parts }) ≡ record { quota = l.quota; used = used j others }) (sym here) (own l.quota) in
      ap (λ x. x ∷ accounts_from (i + 1) ls parts) first
      ∙ ap (λ xs. record { quota = l.quota; used = used i others } ∷ xs) (same_from (i + 1) ls parts others (λ j h. same j (λ e. omega arith)))
  changed_from i (suc k) (l ∷ ls) at k_in =
      changed_later f k (record { quota = l.quota; used = used i parts }) (accounts_from (i + 1) ls parts)
      ∙ ap (λ n. record { quota = l.quota; used = n } ∷ changed f k (accounts_from (i + 1) ls parts)) (same i (λ e. omega arith))
      ∙ ap (λ xs. record { quota = l.quota; used = used i others } ∷ xs) (changed_from (i + 1) k ls (omega arith) (omega arith))

-- the accounts of a catalogue from its layers' and the sum of all
abbrev with_layers : Catalogue → List Account → ℕ → Accounts
with_layers c xs n = record { layers = xs; whole = record { quota = c.quota; used = n } }

-- counted in wherever it stands among the parts
pub added_between : (c : Catalogue) (before after : List Part) (p : Part) → p.layer < length c.layers → added p.layer p.length (accounts c (before ++ after)) ≡ accounts c (before ++ p ∷ after)
added_between c before after p known =
    let layers = changed_from (more p.length) p.layer (before ++ after) (before ++ p ∷ after) (λ j other. sym (used_other j before after p other)) (λ quota. ap (λ n. record { quota = quota; used = n }) (sym (used_own before after p))) 0 p.layer c.layers (omega arith) known in
    ap (λ xs. with_layers c xs (used_all (before ++ after) + p.length)) layers
    ∙ ap (with_layers c (accounts_from 0 c.layers (before ++ p ∷ after))) (sym (used_all_with before after p))

pub added_part : (c : Catalogue) (parts : List Part) (p : Part) → p.layer < length c.layers → added p.layer p.length (accounts c parts) ≡ accounts c (parts ++ p ∷ [])
added_part c parts p known = subst (λ (ps : List Part). added p.layer p.length (accounts c ps) ≡ accounts c (parts ++ p ∷ [])) (append-nil parts) (added_between c parts [] p known)

pub removed_part : (c : Catalogue) (before after : List Part) (p : Part) → p.layer < length c.layers → removed p.layer p.length (accounts c (before ++ p ∷ after)) ≡ accounts c (before ++ after)
removed_part c before after p known =
    let own : used p.layer (before ++ p ∷ after) - p.length ≡ used p.layer (before ++ after) = omega (arith, used_own before after p) in
    let all : used_all (before ++ p ∷ after) - p.length ≡ used_all (before ++ after) = omega (arith, used_all_with before after p) in
    let layers = changed_from (less p.length) p.layer (before ++ p ∷ after) (before ++ after) (λ j other. used_other j before after p other) (λ quota. ap (λ n. record { quota = quota; used = n }) own) 0 p.layer c.layers (omega arith) known in
    ap (λ xs. with_layers c xs (used_all (before ++ p ∷ after) - p.length)) layers
    ∙ ap (with_layers c (accounts_from 0 c.layers (before ++ after))) all

pub counted_part : (c : Catalogue) (before after : List Part) (p : Part) → p.layer < length c.layers → p.length ≤ used_at (accounts c (before ++ p ∷ after)) p.layer
counted_part c before after p known =
    let sum = sums_of c (before ++ p ∷ after) p.layer known in
    let own = used_own before after p in
    omega (arith, sum, own)
