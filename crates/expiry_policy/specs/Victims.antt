-- How kept metatiles are used, and which of them goes first.
use Rattle.std.specs.Prelude.{ℕ, ◌≡◌, ◌≢◌, ◌+◌, ◌-◌, ◌^◌, min, Bool, true, false, not, List, [], ◌∷◌, ◌++◌, filter, find, Option, Some, None, ⊤, slice_get, option_and_then, unwrap_or}
use Rattle.std.specs.List.{AllByRecursion, list_all}
use Rattle.std.specs.Option.{option_map}
use Rattle.std.specs.Ordering.{is_lt, nat_cmp}
use Rattle.std.specs.Cmp.Lexicographic.{slice_cmp}
use Rattle.catalog.specs.declared.catalogue.Policy.{Policy}
use Rattle.catalog.specs.declared.catalogue.Policy.TheVariants.{Lru, Lfu}
use Rattle.catalog.specs.declared.catalogue.Scope.{Scope}
use Rattle.catalog.specs.Scopes.{is_in}
use Rattle.metatile_plan.specs.declared.metatile.MetaKey.{MetaKey}
use Rattle.metatile_plan.specs.Keys.{same_meta}
use Rattle.expiry_policy.specs.declared.uses.Use.{Use}

-- the policy, the count of layers whose keys are taken, the count of all entries and uses so far, the uses of what is held of
-- each layer, in an order of which nothing is said, and for how many more keys there is room
pub record Counts : Type 0 where
  pub policy : Policy
  pub layers : ℕ
  pub now : ℕ
  pub uses : List (List Use)
  pub spare : ℕ

abbrev pub is_of : MetaKey → Use → Bool
is_of m u = same_meta u.meta m

-- how a metatile was used; none exactly where it is not held
abbrev pub use_of : Counts → MetaKey → Option Use
use_of c m = option_and_then (find (is_of m)) (slice_get c.uses m.theme.layer)

-- the uses of what is held of a layer; none past the last layer
abbrev pub uses_in : Counts → ℕ → List Use
uses_in c layer = unwrap_or (slice_get c.uses layer) []

-- one more, up to the greatest number of 64 bits
abbrev pub one_more : ℕ → ℕ
one_more n = min (n + 1) (2 ^ 64 - 1)

-- with one more use, at this count of entries and uses
abbrev pub used_at : ℕ → Use → Use
used_at now u = record { meta = u.meta; uses = one_more u.uses; saved = u.saved; last = now }

-- with all its uses saved
abbrev pub all_saved : Use → Use
all_saved u = record { meta = u.meta; uses = u.uses; saved = u.uses; last = u.last }

-- THE ORDER

-- the numbers of a key, field by field
abbrev pub fields : MetaKey → List ℕ
fields m = m.theme.layer ∷ m.theme.style ∷ m.theme.dims ++ m.grid ∷ m.z ∷ m.row ∷ m.col ∷ []

-- what a policy goes by: the last use and the key, for the least often used the uses first
abbrev pub rank : Policy → Use → List ℕ
rank Lru u = u.last ∷ fields u.meta
rank Lfu u = u.uses ∷ u.last ∷ fields u.meta

-- the first of the two goes before the second
abbrev pub is_before : Policy → Use → Use → Bool
is_before p u v = is_lt (slice_cmp nat_cmp (rank p u) (rank p v))

-- THE VICTIM, and the first metatile to be saved

-- the metatile is held and of the scope, and none of the scope goes before it
pub record GoesFirst (p : Policy) (scope : Scope) (uses : MetaKey → Option Use) (m : MetaKey) (u : Use) : Type 0 where
  pub held : uses m ≡ Some u
  pub scoped : is_in scope m.theme.layer ≡ true
  pub before : (n : MetaKey) (v : Use) → uses n ≡ Some v → is_in scope n.theme.layer ≡ true → is_before p v u ≡ false

-- the metatile of the scope before which none of the scope goes; none exactly where none of the scope is held
abbrev pub IsVictim : Policy → Scope → (MetaKey → Option Use) → Option MetaKey → Type 0
IsVictim p scope uses None = (n : MetaKey) → is_in scope n.theme.layer ≡ true → uses n ≡ None
IsVictim p scope uses (Some m) = (u : Use) × GoesFirst p scope uses m u

-- the metatile has uses that are not saved, and no other such one has a lesser key
pub record IsLeastUnsaved (uses : MetaKey → Option Use) (m : MetaKey) (u : Use) : Type 0 where
  pub held : uses m ≡ Some u
  pub unsaved : u.uses ≢ u.saved
  pub least : (n : MetaKey) (v : Use) → uses n ≡ Some v → v.uses ≢ v.saved → is_lt (slice_cmp nat_cmp (fields n) (fields m)) ≡ false

-- the metatile of the least key of those with uses that are not saved; none exactly where all are saved
abbrev pub IsUnsaved : (MetaKey → Option Use) → Option MetaKey → Type 0
IsUnsaved uses None = (n : MetaKey) (v : Use) → uses n ≡ Some v → v.uses ≡ v.saved
IsUnsaved uses (Some m) = (u : Use) × IsLeastUnsaved uses m u

-- THE VICTIM OF A LIST of uses

-- each is of another metatile
abbrev pub AreApart : List Use → Type 0
AreApart [] = ⊤
AreApart (u ∷ us) = AllByRecursion (λ v. u.meta ≢ v.meta) us × AreApart us

-- the uses of a scope
abbrev pub in_scope : Scope → List Use → List Use
in_scope scope us = filter (λ u. is_in scope u.meta.theme.layer) us

-- none of these goes before it
abbrev pub is_first : Policy → List Use → Use → Bool
is_first p us u = list_all (λ v. not (is_before p v u)) us

-- the metatile of the scope before which none of the scope goes
abbrev pub victim : Policy → Scope → List Use → Option MetaKey
victim p scope us = option_map (λ u. u.meta) (find (is_first p (in_scope scope us)) (in_scope scope us))
