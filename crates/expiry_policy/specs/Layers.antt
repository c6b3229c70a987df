-- What contracts see of the uses of one layer, and how their ranks are kept.
use Rattle.std.specs.Prelude.{ℕ, ◌≡◌, ◌≤◌, List, [], length, find, slice_get, slice_index, Option, Some, None, option_and_then, ⊤}
use Rattle.catalog.specs.declared.catalogue.Policy.{Policy}
use Rattle.metatile_plan.specs.declared.metatile.MetaKey.{MetaKey}
use Rattle.expiry_policy.specs.declared.held.UseTally.{UseTally}
use Rattle.expiry_policy.specs.declared.order.Order.{Order}
use Rattle.expiry_policy.specs.declared.order.Ranking.TheVariants.{Expiry, Unsaved}
use Rattle.expiry_policy.specs.declared.tournament.Tournament.{Tournament}
use Rattle.expiry_policy.specs.declared.uses.Use.{Use}
use Rattle.expiry_policy.specs.Entries.{goes, uses_of}
use Rattle.expiry_policy.specs.Tournaments.{IsRanked}
use Rattle.expiry_policy.specs.Victims.{is_of}

-- the number of a layer, the policy, the uses of what is held of it, in an order of which nothing is said, and for how many more
-- keys there is room
pub record OfLayer : Type 0 where
  pub number : ℕ
  pub policy : Policy
  pub uses : List Use
  pub spare : ℕ

-- how a metatile was used
abbrev pub use_in : List Use → MetaKey → Option Use
use_in us m = find (is_of m) us

-- how a metatile was used, by the layers in the order of their numbers
abbrev pub use_among : List OfLayer → MetaKey → Option Use
use_among layers m = option_and_then (λ l. use_in l.uses m) (slice_get layers m.theme.layer)

-- the tournament is one of all these entries, in this order
pub record Stands (o : Order) (es : List (MetaKey × UseTally)) (t : Tournament) : Type 0 where
  pub order : t.order ≡ o
  pub size : length t.winners.items ≡ length es
  pub ranked : IsRanked (goes t.order es) (length t.winners.items) (slice_index t.winners.items)

-- the keys are of the layer, and both tournaments are those of the entries
pub record IsOfLayer (number : ℕ) (p : Policy) (es : List (MetaKey × UseTally)) (victims others : Tournament) : Type 0 where
  pub numbered : (m : MetaKey) (u : Use) → use_in (uses_of es) m ≡ Some u → m.theme.layer ≡ number
  pub expiry : Stands (record { policy = p; ranking = Expiry }) es victims
  pub unsaved : Stands (record { policy = p; ranking = Unsaved }) es others

-- each layer has its number and the policy, and has room for so many more keys
pub record AreLayers (p : Policy) (spare : ℕ) (layers : List OfLayer) : Type 0 where
  pub number : (i : ℕ) (l : OfLayer) → slice_get layers i ≡ Some l → l.number ≡ i
  pub policy : (i : ℕ) (l : OfLayer) → slice_get layers i ≡ Some l → l.policy ≡ p
  pub room : (i : ℕ) (l : OfLayer) → slice_get layers i ≡ Some l → spare ≤ l.spare

-- so many layers, each with its number and the policy, of which nothing is held
pub record AreBare (p : Policy) (count : ℕ) (layers : List OfLayer) : Type 0 where
  pub size : length layers ≡ count
  pub number : (i : ℕ) (l : OfLayer) → slice_get layers i ≡ Some l → l.number ≡ i
  pub policy : (i : ℕ) (l : OfLayer) → slice_get layers i ≡ Some l → l.policy ≡ p
  pub bare : (i : ℕ) (l : OfLayer) → slice_get layers i ≡ Some l → l.uses ≡ []

-- the new layer has the number, the policy and the uses of the old one, and no less room
pub record IsGrown (old new : OfLayer) : Type 0 where
  pub number : new.number ≡ old.number
  pub policy : new.policy ≡ old.policy
  pub uses : new.uses ≡ old.uses
  pub kept : old.spare ≤ new.spare

-- the same of a layer that may not be there
abbrev pub MayGrow : Option OfLayer → Option OfLayer → Type 0
MayGrow None None = ⊤
MayGrow None (Some l) = ⊥
MayGrow (Some k) None = ⊥
MayGrow (Some k) (Some l) = IsGrown k l
