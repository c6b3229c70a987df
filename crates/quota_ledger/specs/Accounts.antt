-- The accounts of a catalogue: what each of its layers takes, and all of them together.
use Rattle.std.specs.Prelude.{ℕ, ◌≡◌, ◌+◌, ◌-◌, ◌==◌, Bool, false, nat_lt, if◌then◌else◌, List, [], ◌∷◌, filter, sum_by, slice_get, slice_set, Option, Some, None}
use Rattle.std.specs.List.{position}
use Rattle.std.specs.Option.{option_map_or}
use Rattle.catalog.specs.declared.catalogue.Catalogue.{Catalogue}
use Rattle.catalog.specs.declared.catalogue.Scope.{Scope}
use Rattle.catalog.specs.declared.catalogue.Scope.TheVariants.{Layer, All}
use Rattle.catalog.specs.declared.layer as layers
use Rattle.quota_ledger.specs.declared.account.Account.{Account}

-- so many bytes of a layer
pub record Part : Type 0 where
  pub layer : ℕ
  pub length : ℕ

-- SUMS, from scratch

-- the bytes of a layer
abbrev pub used : ℕ → List Part → ℕ
used layer parts = sum_by (λ p. p.length) (filter (λ p. p.layer == layer) parts)

-- the bytes of all layers
abbrev pub used_all : List Part → ℕ
used_all parts = sum_by (λ p. p.length) parts

-- ACCOUNTS

-- an account of each layer in catalogue order, and one of all of them
pub record Accounts : Type 0 where
  pub layers : List Account
  pub whole : Account

-- the accounts of these layers, of which the first has the number i
abbrev pub accounts_from : ℕ → List layers.Layer.Layer → List Part → List Account
accounts_from i [] parts = []
accounts_from i (l ∷ ls) parts = record { quota = l.quota; used = used i parts } ∷ accounts_from (i + 1) ls parts

-- the accounts of a catalogue for these parts
abbrev pub accounts : Catalogue → List Part → Accounts
accounts c parts = record { layers = accounts_from 0 c.layers parts; whole = record { quota = c.quota; used = used_all parts } }

-- the whole is the sum of the layers
abbrev pub IsBalanced : Accounts → Type 0
IsBalanced a = a.whole.used ≡ sum_by (λ x. x.used) a.layers

-- what a layer takes
abbrev pub used_at : Accounts → ℕ → ℕ
used_at a layer = option_map_or (λ x. x.used) (slice_get a.layers layer) 0

-- CHANGES

abbrev pub more : ℕ → Account → Account
more n x = record { quota = x.quota; used = x.used + n }

abbrev pub less : ℕ → Account → Account
less n x = record { quota = x.quota; used = x.used - n }

-- the account of one layer changes
abbrev pub changed : (Account → Account) → ℕ → List Account → List Account
changed f layer xs = option_map_or (λ x. slice_set xs layer (f x)) (slice_get xs layer) xs

-- so many bytes of a layer are counted in
abbrev pub added : ℕ → ℕ → Accounts → Accounts
added layer n a = record { layers = changed (more n) layer a.layers; whole = more n a.whole }

-- and out again
abbrev pub removed : ℕ → ℕ → Accounts → Accounts
removed layer n a = record { layers = changed (less n) layer a.layers; whole = less n a.whole }

-- QUOTAS

-- more is taken than may be
abbrev pub is_above : Account → Bool
is_above x = option_map_or (λ quota. nat_lt quota x.used) x.quota false

abbrev pub or_all : Option ℕ → Bool → Option Scope
or_all (Some layer) all = Some (Layer layer)
or_all None all = if all then Some All else None

-- the first layer above its quota, else all of them where the whole is
abbrev pub exceeded : Accounts → Option Scope
exceeded a = or_all (position is_above a.layers) (is_above a.whole)
