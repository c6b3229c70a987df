-- What was read meets the tests of a catalogue.
use Rattle.std.proofs.Common.{◌≡◌, ℕ, ◌≤◌, ◌^◌, Bool, true, List, [], length, nat_le, Ok, Option, Some, None, IfSome, refl}
use Rattle.std.specs.List.{list_all}
use Rattle.std.proofs.lemmas.Bool.{and_parts}
use Rattle.catalog.specs.declared.catalogue.Catalogue.{Catalogue}
use Rattle.catalog.specs.declared.fault.CatalogueFault.{CatalogueFault}
use Rattle.catalog.specs.declared.fault.Field.{Field}
use Rattle.catalog.specs.declared.fault.Field.TheVariants as field
use Rattle.catalog.specs.declared.grid.Grid.{Grid}
use Rattle.catalog.specs.declared.layer.Age.{Age}
use Rattle.catalog.specs.declared.layer.Layer.{Layer}
use Rattle.catalog.specs.FirstFault.{unless, each, name_test, names_test, quota_test, grid_test, grid_number_test, style_test, dimension_test, are_factors, are_small, zooms_rise, ages_test, layer_test, first_fault}
use Rattle.catalog.specs.Names.{within, is_short}
use Rattle.catalog.proofs.Passing.{at_most, holds, next_met}
use Rattle.config_text.proofs.Loop.{next_is}

-- names that met their test are so many
pub names_within : (low high : ℕ) (f : Field) (at : ℕ) (names : List (List ℕ)) → names_test low high f at names ≡ Ok tt → within low high (length names) ≡ true
unfolding names_test
names_within low high f at names e =
    (and_parts (within low high (length names)) (list_all is_short names) (holds _ _ (next_met _ _ (next_met _ _ e).1).0)).0

pub few_names : (low high : ℕ) (f : Field) (at : ℕ) (names : List (List ℕ)) → names_test low high f at names ≡ Ok tt → length names ≤ high
few_names low high f at names e = at_most low high (length names) (names_within low high f at names e)

-- at most so many
pub below : (high n : ℕ) → within 0 high n ≡ true → nat_le n high ≡ true
below high n e = (and_parts (nat_le 0 n) (nat_le n high) e).1

unless_is : (b : Bool) (fault : CatalogueFault) → b ≡ true → unless b fault ≡ Ok tt
unless_is b fault e = rw e refl

quota_met : (f : Field) (at : ℕ) (quota : Option ℕ) → IfSome quota (λ n. within 0 (2 ^ 50) n ≡ true) → quota_test f at quota ≡ Ok tt
quota_met f at None h = refl
quota_met f at (Some n) h = rw (below (2 ^ 50) n h) refl

ages_met : (at : ℕ) (ages : List Age) → nat_le (length ages) 30 ≡ true → zooms_rise 0 ages ≡ true → ages_test at ages ≡ Ok tt
unfolding ages_test
ages_met at ages few rise = next_is _ _ (unless_is _ _ few) (next_is _ _ (unless_is _ _ rise) refl)

pub layer_met : (grids : List Grid) (before : List Layer) (l : Layer) →
    name_test (λ x. x.id) before field.LayerId (length before) l.id ≡ Ok tt →
    within 1 16 (length l.grids) ≡ true →
    each (grid_number_test (length before) grids) [] l.grids ≡ Ok tt →
    within 1 32 (length l.styles) ≡ true →
    each style_test [] l.styles ≡ Ok tt →
    within 0 4 (length l.dims) ≡ true →
    each dimension_test [] l.dims ≡ Ok tt →
    are_factors l.meta_x l.meta_y ≡ true →
    within 0 64 l.gutter ≡ true →
    within 1 1000000000 l.cell ≡ true →
    IfSome l.quota (λ n. within 0 (2 ^ 50) n ≡ true) →
    nat_le (length l.ages) 30 ≡ true →
    zooms_rise 0 l.ages ≡ true →
    are_small grids l.grids l.meta_x l.meta_y l.gutter ≡ true →
    layer_test grids before l ≡ Ok tt
unfolding layer_test
layer_met grids before l name count numbers style_count styles dim_count dims meta gutter cell quota few_ages ages_rise small =
    next_is _ _ name
    (next_is _ _ (unless_is _ _ count)
    (next_is _ _ numbers
    (next_is _ _ (unless_is _ _ style_count)
    (next_is _ _ styles
    (next_is _ _ (unless_is _ _ (below 4 (length l.dims) dim_count))
    (next_is _ _ dims
    (next_is _ _ (unless_is _ _ meta)
    (next_is _ _ (unless_is _ _ (below 64 l.gutter gutter))
    (next_is _ _ (unless_is _ _ cell)
    (next_is _ _ (quota_met field.LayerQuota (length before) l.quota quota)
    (next_is _ _ (ages_met (length before) l.ages few_ages ages_rise)
    (next_is _ _ (unless_is _ _ small) refl))))))))))))

pub catalogue_met : (c : Catalogue) →
    within 1 1048576 c.kept_limit ≡ true →
    within 1 65536 c.cut_limit ≡ true →
    within 1 (2 ^ 40) c.blob_bytes ≡ true →
    IfSome c.quota (λ n. within 0 (2 ^ 50) n ≡ true) →
    within 1 16 (length c.grids) ≡ true →
    each grid_test [] c.grids ≡ Ok tt →
    within 1 64 (length c.layers) ≡ true →
    each (layer_test c.grids) [] c.layers ≡ Ok tt →
    first_fault c ≡ Ok tt
unfolding first_fault
catalogue_met c kept cut blob quota grid_count grids layer_count layers =
    next_is _ _ (unless_is _ _ kept)
    (next_is _ _ (unless_is _ _ cut)
    (next_is _ _ (unless_is _ _ blob)
    (next_is _ _ (quota_met field.Quota 0 c.quota quota)
    (next_is _ _ (unless_is _ _ grid_count)
    (next_is _ _ grids
    (next_is _ _ (unless_is _ _ layer_count)
    (next_is _ _ layers refl)))))))
