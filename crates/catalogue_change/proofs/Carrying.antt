-- A metatile that stays is one of the new catalogue, as it was one of the old.
use Rattle.std.proofs.Common.{ℕ, ◌≡◌, ◌<◌, List, length, Option, Some, None, slice_get, refl, sym, subst, ◌∙◌, arith}
use Rattle.std.specs.Prelude.{IfSome, IsSomeAnd, IsSome, Contains, unwrap_or, option_map, option_and_then}
use Rattle.std.specs.Option.{option_map_or}
use Rattle.catalog.specs.declared.catalogue.Catalogue.{Catalogue}
use Rattle.catalog.specs.declared.grid.Grid.{Grid}
use Rattle.catalog.specs.declared.layer.Dimension.{Dimension}
use Rattle.catalog.specs.declared.layer.Layer.{Layer}
use Rattle.catalog.specs.declared.layer.Style.{Style}
use Rattle.catalog.specs.LookUp.{matrix_in}
use Rattle.matrix_geometry.specs.declared.matrix.Matrix.{Matrix}
use Rattle.metatile_plan.specs.declared.metatile.Factors.{Factors}
use Rattle.metatile_plan.specs.declared.metatile.MetaKey.{MetaKey}
use Rattle.metatile_plan.specs.Plan.{IsMetaIn}
use Rattle.metatile_plan.specs.Texts.{blob_len}
use Rattle.raster_field.specs.Blocks.{IsMeta, blob_size, factors_at, factors_of}
use Rattle.catalogue_change.proofs.Comparing.{below_there, there_below}
use Rattle.catalogue_change.specs.Alike.{GridKeeps, HaveSameNames, IsSameLayer, IsSameValue, LayerKeeps, Stays}

-- WHAT IS LOOKED UP

factors_by : (l k : Layer) → IsSameLayer l k → factors_of k ≡ factors_of l
factors_by l k same = λ i. record { x = same.across i; y = same.down i; gutter = same.edge i }

factors_in : (o p : Option Layer) (m : MetaKey) → IsSomeAnd o (λ l. IsSomeAnd p (λ k. LayerKeeps l k m)) → option_map_or factors_of p (record { x = 1; y = 1; gutter = 0 }) ≡ option_map_or factors_of o (record { x = 1; y = 1; gutter = 0 })
factors_in None p m h = absurd h
factors_in (Some l) None m h = absurd h
factors_in (Some l) (Some k) m h = factors_by l k h.same

matrix_by : (o p : Option Grid) (z : ℕ) → IsSomeAnd o (λ g. IsSomeAnd p (λ h. GridKeeps g h z)) → option_and_then (λ (g : Grid). slice_get g.matrices z) p ≡ option_and_then (λ (g : Grid). slice_get g.matrices z) o
matrix_by None p z h = absurd h
matrix_by (Some g) None z h = absurd h
matrix_by (Some g) (Some k) z h = h.matrix

pub same_factors : (c d : Catalogue) (m : MetaKey) → Stays c d m → factors_at d m.theme ≡ factors_at c m.theme
same_factors c d m s = factors_in (slice_get c.layers m.theme.layer) (slice_get d.layers m.theme.layer) m s.layer

pub same_matrix : (c d : Catalogue) (m : MetaKey) → Stays c d m → matrix_in d m.grid m.z ≡ matrix_in c m.grid m.z
same_matrix c d m s = matrix_by (slice_get c.grids m.grid) (slice_get d.grids m.grid) m.z s.grid

pub same_size : (c d : Catalogue) (m : MetaKey) → Stays c d m → blob_size d m ≡ blob_size c m
same_size c d m s =
    let f = same_factors c d m s in
    let x = same_matrix c d m s in
    λ i. option_map_or (λ (y : Matrix). blob_len (f i) y m) (x i) 0

-- THE METATILE

served_by : (o p : Option Layer) (m : MetaKey) → IsSomeAnd o (λ l. IsSomeAnd p (λ k. LayerKeeps l k m)) → IsSomeAnd p (λ k. Contains k.grids m.grid)
served_by None p m h = absurd h
served_by (Some l) None m h = absurd h
served_by (Some l) (Some k) m h = h.served

style_in : (s t : Option Style) → IsSomeAnd s (λ a. IsSomeAnd t (λ b. (b.id ≡ a.id) × (b.breaks ≡ a.breaks))) → IsSome t
style_in None t h = absurd h
style_in (Some a) None h = absurd h
style_in (Some a) (Some b) h = refl

style_by : (o p : Option Layer) (m : MetaKey) → IsSomeAnd o (λ l. IsSomeAnd p (λ k. LayerKeeps l k m)) → IsSome (option_and_then (λ (l : Layer). slice_get l.styles m.theme.style) p)
style_by None p m h = absurd h
style_by (Some l) None m h = absurd h
style_by (Some l) (Some k) m h = style_in (slice_get l.styles m.theme.style) (slice_get k.styles m.theme.style) h.style

value_by : (a b : Option Dimension) (number : ℕ) → IsSomeAnd a (λ d. IsSomeAnd b (λ e. slice_get e.values number ≡ slice_get d.values number)) → number < unwrap_or (option_map (λ (d : Dimension). length d.values) a) 1
    → number < unwrap_or (option_map (λ (d : Dimension). length d.values) b) 1
value_by None b number h below = absurd h
value_by (Some d) None number h below = absurd h
value_by (Some d) (Some e) number h below =
    let there = below_there d.values number below in
    there_below e.values number there.0 (h ∙ there.1)

some_none : (x : Dimension) → Some x ≡ None → ⊥
some_none x is = absurd cc

-- where the old layer has no dimension the new one has none
none_by : (old new : List Dimension) (place : ℕ) → HaveSameNames old new → slice_get old place ≡ None → slice_get new place ≡ None
none_by old new place names none = go (slice_get new place) refl
  where
    go : (o : Option Dimension) → slice_get new place ≡ o → slice_get new place ≡ None
    go None is = is
    go (Some e) is =
        let below = there_below new place e is in
        let there = below_there old place (let same = names.same_count in omega (arith, below, same)) in
        absurd (some_none there.0 (sym there.1 ∙ none))

values_in : (l k : Layer) (place number : ℕ) (o : Option Dimension) → slice_get l.dims place ≡ o → IsSameLayer l k → IsSameValue l k place number → number < unwrap_or (option_map (λ (d : Dimension). length d.values) o) 1
    → number < unwrap_or (option_map (λ (d : Dimension). length d.values) (slice_get k.dims place)) 1
values_in l k place number None is same value below =
    subst (λ (p : Option Dimension). number < unwrap_or (option_map (λ (d : Dimension). length d.values) p) 1) (sym (none_by l.dims k.dims place same.dimensions is)) below
values_in l k place number (Some d) is same value below =
    value_by (Some d) (slice_get k.dims place) number (subst (λ (p : Option Dimension). IfSome p (λ d. IsSomeAnd (slice_get k.dims place) (λ e. slice_get e.values number ≡ slice_get d.values number))) is value.text) below

values_by : (o p : Option Layer) (m : MetaKey) → IsSomeAnd o (λ l. IsSomeAnd p (λ k. LayerKeeps l k m)) → (place number : ℕ) → slice_get m.theme.dims place ≡ Some number
    → number < unwrap_or (option_map (λ (d : Dimension). length d.values) (option_and_then (λ (l : Layer). slice_get l.dims place) o)) 1
    → number < unwrap_or (option_map (λ (d : Dimension). length d.values) (option_and_then (λ (l : Layer). slice_get l.dims place) p)) 1
values_by None p m h place number is below = absurd h
values_by (Some l) None m h place number is below = absurd h
values_by (Some l) (Some k) m h place number is below = values_in l k place number (slice_get l.dims place) refl h.same (h.values place number is) below

pub stays_meta : (c d : Catalogue) (m : MetaKey) → Stays c d m → IsMeta c m → IsMeta d m
stays_meta c d m s is = record {
  layer = served_by (slice_get c.layers m.theme.layer) (slice_get d.layers m.theme.layer) m s.layer;
  style = style_by (slice_get c.layers m.theme.layer) (slice_get d.layers m.theme.layer) m s.layer;
  values = record { each = λ place number at. values_by (slice_get c.layers m.theme.layer) (slice_get d.layers m.theme.layer) m s.layer place number at (is.values.each place number at) };
  place =
      let f = same_factors c d m s in
      let x = same_matrix c d m s in
      subst (λ (o : Option Matrix). IsSomeAnd o (λ y. IsMetaIn (factors_at d m.theme) y m)) (sym x) (subst (λ (g : Factors). IsSomeAnd (matrix_in c m.grid m.z) (λ y. IsMetaIn g y m)) (sym f) is.place);
}
