-- The grid and the layer of a cover of a catalogue.
use Rattle.std.proofs.Common.{◌≡◌, ◌==◌, ◌&&◌, Bool, true, false, Option, Some, None, refl, sym, ap, subst, ◌∙◌}
use Rattle.std.specs.Prelude.{slice_get, Contains}
use Rattle.std.specs.List.{AllByRecursion}
use Rattle.std.specs.Option.{option_and_then, option_map_or}
use Rattle.catalog.specs.declared.catalogue.Catalogue.{Catalogue}
use Rattle.catalog.specs.declared.grid.Grid.{Grid}
use Rattle.catalog.specs.declared.layer.Layer.{Layer}
use Rattle.catalog.specs.FirstFault.{matrices_at}
use Rattle.catalog.specs.LookUp.{matrix_in}
use Rattle.catalog.specs.Valid.{IsGrid, IsLayer, IsServed, IsSmallOn, IsValid}
use Rattle.matrix_geometry.specs.declared.matrix.Matrix.{Matrix}
use Rattle.metatile_plan.specs.declared.metatile.Factors.{Factors}
use Rattle.metatile_plan.specs.declared.metatile.MetaKey.{MetaKey}
use Rattle.metatile_plan.specs.Plan.{IsPlan}
use Rattle.raster_field.specs.Blocks.{factors_at, factors_of}
use Rattle.metatile_locks.specs.Running.{IsPlanOn, block, hits_in}
use Rattle.metatile_locks.proofs.Lists.{all_weaker}
use Rattle.metatile_locks.proofs.Runs.{one}
use Rattle.truncation_list.specs.declared.cover.Cover.{Cover}
use Rattle.truncation_list.specs.Covers.{hits}
use Rattle.cabinet.specs.Hits.{hits_of}
use Rattle.cabinet.proofs.Lists.{all_contained, all_got}

pub grid_is : (c : Catalogue) (cover : Cover) (g : Grid) → IsValid c → slice_get c.grids cover.grid ≡ Some g → IsGrid g
grid_is c cover g valid e = all_got IsGrid c.grids cover.grid g valid.grids e

pub plan_on : (c : Catalogue) (cover : Cover) (l : Layer) (g : Grid) → IsValid c → slice_get c.layers cover.layer ≡ Some l → slice_get c.grids cover.grid ≡ Some g → Contains l.grids cover.grid → IsPlanOn (factors_of l) g
plan_on c cover l g valid el eg has =
    let layer = all_got IsLayer c.layers cover.layer l valid.layers el in
    let served = all_got (IsServed c.grids) c.layers cover.layer l valid.served el in
    let small = all_contained (λ n. AllByRecursion (IsSmallOn l) (matrices_at (slice_get c.grids n))) l.grids cover.grid served.small has in
    all_weaker (IsSmallOn l) (IsPlan (factors_of l)) (λ m s. record { x = layer.meta_x; x_most = layer.meta_x_most; y = layer.meta_y; y_most = layer.meta_y_most; gutter_most = layer.gutter_most; small = s }) g.matrices
    (subst (λ (o : Option Grid). AllByRecursion (IsSmallOn l) (matrices_at o)) eg small)

other_layer : (f : Factors) (cover : Cover) (m : MetaKey) (o : Option Matrix) → (cover.layer == m.theme.layer) ≡ false → option_map_or (λ x. hits cover x (block f x m)) o false ≡ false
other_layer f cover m None e = refl
other_layer f cover m (Some x) e = rw e refl

and_off : (v : Bool) → (v && false) ≡ false
and_off true = refl
and_off false = refl

other_grid : (f : Factors) (cover : Cover) (m : MetaKey) (o : Option Matrix) → (cover.grid == m.grid) ≡ false → option_map_or (λ x. hits cover x (block f x m)) o false ≡ false
other_grid f cover m None e = refl
other_grid f cover m (Some x) e = rw (e, and_off (cover.layer == m.theme.layer)) refl

-- by the cover's own layer and grid it hits what it hits by the metatile's
pub hits_same : (c : Catalogue) (cover : Cover) (l : Layer) (g : Grid) (m : MetaKey) → slice_get c.layers cover.layer ≡ Some l → slice_get c.grids cover.grid ≡ Some g → hits_in (factors_of l) g cover m ≡ hits_of c cover m
hits_same c cover l g m el eg = chosen (cover.layer == m.theme.layer) (cover.grid == m.grid) refl refl
  where
    chosen : (v w : Bool) → (cover.layer == m.theme.layer) ≡ v → (cover.grid == m.grid) ≡ w → hits_in (factors_of l) g cover m ≡ hits_of c cover m
    chosen false w a b = other_layer (factors_of l) cover m (slice_get g.matrices m.z) a ∙ sym (other_layer (factors_at c m.theme) cover m (matrix_in c m.grid m.z) a)
    chosen true false a b = other_grid (factors_of l) cover m (slice_get g.matrices m.z) b ∙ sym (other_grid (factors_at c m.theme) cover m (matrix_in c m.grid m.z) b)
    chosen true true a b =
        let el2 : slice_get c.layers m.theme.layer ≡ Some l = ap (slice_get c.layers) (sym (one cover.layer m.theme.layer a)) ∙ el in
        let eg2 : slice_get c.grids m.grid ≡ Some g = ap (slice_get c.grids) (sym (one cover.grid m.grid b)) ∙ eg in
        λ i. option_map_or (λ x. hits cover x (block (option_map_or factors_of (sym el2 i) (record { x = 1; y = 1; gutter = 0 })) x m)) (option_and_then (λ h. slice_get h.matrices m.z) (sym eg2 i)) false
