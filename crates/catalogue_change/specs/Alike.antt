-- What a change of the catalogue leaves alone: the metatiles that are under the new catalogue, by the same numbers, what they were under the old one.
use Rattle.std.specs.Prelude.{ℕ, ◌≡◌, List, length, Some, IfSome, IsSomeAnd, Contains, slice_get}
use Rattle.catalog.specs.declared.catalogue.Catalogue.{Catalogue}
use Rattle.catalog.specs.declared.grid.Grid.{Grid}
use Rattle.catalog.specs.declared.layer.Dimension.{Dimension}
use Rattle.catalog.specs.declared.layer.Layer.{Layer}
use Rattle.metatile_plan.specs.declared.metatile.MetaKey.{MetaKey}

-- as many dimensions, and at each place one of the same name; their values may differ
pub record HaveSameNames (old new : List Dimension) : Type 0 where
  pub same_count : length new ≡ length old
  pub names : (place : ℕ) (d e : Dimension) → slice_get old place ≡ Some d → slice_get new place ≡ Some e → e.id ≡ d.id

-- the layers have one name, the same metatiles, ground cells and dimensions; their grids, styles, values, quotas and ages may differ
pub record IsSameLayer (old new : Layer) : Type 0 where
  pub name : new.id ≡ old.id
  pub across : new.meta_x ≡ old.meta_x
  pub down : new.meta_y ≡ old.meta_y
  pub edge : new.gutter ≡ old.gutter
  pub ground : new.cell ≡ old.cell
  pub dimensions : HaveSameNames old.dims new.dims

-- the style of this number has the name and the breaks that it had
abbrev pub IsSameStyle : Layer → Layer → ℕ → Type 0
IsSameStyle old new number = IsSomeAnd (slice_get old.styles number) (λ s. IsSomeAnd (slice_get new.styles number) (λ t. (t.id ≡ s.id) × (t.breaks ≡ s.breaks)))

-- the value of this number is the same text, where the layer has a dimension at this place
pub record IsSameValue (old new : Layer) (place number : ℕ) : Type 0 where
  pub text : IfSome (slice_get old.dims place) (λ d. IsSomeAnd (slice_get new.dims place) (λ e. slice_get e.values number ≡ slice_get d.values number))

abbrev pub HaveSameValues : Layer → Layer → List ℕ → Type 0
HaveSameValues old new numbers = (place number : ℕ) → slice_get numbers place ≡ Some number → IsSameValue old new place number

-- the layer still has the metatile: it is the same one, served on its grid, and its style and its values are what they were
pub record LayerKeeps (old new : Layer) (m : MetaKey) : Type 0 where
  pub same : IsSameLayer old new
  pub served : Contains new.grids m.grid
  pub style : IsSameStyle old new m.theme.style
  pub values : HaveSameValues old new m.theme.dims

-- the grids have one name, and the matrix of this number is what it was
pub record GridKeeps (old new : Grid) (z : ℕ) : Type 0 where
  pub name : new.id ≡ old.id
  pub matrix : slice_get new.matrices z ≡ slice_get old.matrices z

-- THE METATILE STAYS where a catalogue comes in the place of another one: the source is the same, and under the same numbers its layer still has it, and its
-- grid its matrix
pub record Stays (c d : Catalogue) (m : MetaKey) : Type 0 where
  pub source : d.source ≡ c.source
  pub layer : IsSomeAnd (slice_get c.layers m.theme.layer) (λ old. IsSomeAnd (slice_get d.layers m.theme.layer) (λ new. LayerKeeps old new m))
  pub grid : IsSomeAnd (slice_get c.grids m.grid) (λ old. IsSomeAnd (slice_get d.grids m.grid) (λ new. GridKeeps old new m.z))
