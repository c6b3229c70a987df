-- A catalogue of which each test is met is valid.
use Rattle.std.proofs.Common.{◌≡◌, ℕ, suc, ◌^◌, ◌<◌, ◌≤◌, ◌<ℤ◌, ◌==◌, true, not, int_lt, nat_le, List, [], ◌∷◌, ◌++◌, length, map, Option, Some, None, IfSome, OnOk, Ok, Err, slice_get, refl, sym, subst, arith, ℤ, append_assoc}
use Rattle.std.specs.Bool.{IsTrue}
use Rattle.std.specs.List.{AllByRecursion, list_all, list_any}
use Rattle.std.specs.Char.{to_ascii_lowercase}
use Rattle.std.proofs.lemmas.Bool.{leb-true, eqb-true, eq-eqb, and_parts}
use Rattle.std.proofs.lemmas.Int.{ints}
use Rattle.std.proofs.lemmas.List.{map-id, append-nil}
use Rattle.matrix_geometry.specs.declared.matrix.Matrix.{Matrix}
use Rattle.matrix_geometry.specs.Limits.{IsWithinLimits}
use Rattle.catalog.specs.declared.catalogue.Catalogue.{Catalogue}
use Rattle.catalog.specs.declared.fault.CatalogueFault.TheVariants.{Bad, Duplicate, Limit}
use Rattle.catalog.specs.declared.fault.Field.{Field}
use Rattle.catalog.specs.declared.fault.Field.TheVariants as field
use Rattle.catalog.specs.declared.grid.Grid.{Grid}
use Rattle.catalog.specs.declared.layer.Age.{Age}
use Rattle.catalog.specs.declared.layer.Dimension.{Dimension}
use Rattle.catalog.specs.declared.layer.Layer.{Layer}
use Rattle.catalog.specs.declared.layer.Style.{Style}
use Rattle.catalog.specs.FirstFault.{Test, unless, next, matrix_test, name_test, matrices_test, grid_test, grid_number_test, style_test, dimension_name_test, names_test, default_test, dimension_test, is_small, matrices_at, are_small, quota_test, zooms_rise, ages_test, layer_test, first_fault}
use Rattle.catalog.specs.Names.{within, is_name, is_short, is_taken, is_parameter, is_same}
use Rattle.catalog.specs.Valid.{IsName, AreDistinct, IsGrid, IsNamedGrid, IsStyle, IsDimension, IsLayer, IsServed, IsSmallOn, IsValid}
use Rattle.catalog.proofs.Passing.{next_met, holds, fails, at_least, at_most, each_met, all_met}
use Rattle.catalog.proofs.Distinct.{IsNew, new_by, new_text, each_distinct, texts_distinct, distinct_none, distinct_more}

below_int : (a b : ℤ) → int_lt a b ≡ true → a <ℤ b
below_int a b e = omega (arith, ints)

-- ---- names

name_met : {A : Type 0} (name : A → List ℕ) (before : List A) (f : Field) (at : ℕ) (text : List ℕ) → name_test name before f at text ≡ Ok tt → IsName text
unfolding name_test
name_met name before f at text e =
    let form : (unless (is_name text) (Bad f at) ≡ Ok tt) × (next (unless (is_short text) (Limit f at)) (next (unless (not (is_taken name before text)) (Duplicate f at)) (Ok tt)) ≡ Ok tt) = next_met _ _ e in
    record {
      bytes = holds _ _ form.0;
      most = leb-true _ _ (holds _ _ (next_met _ _ form.1).0);
    }

name_new : {A : Type 0} (name : A → List ℕ) (before : List A) (f : Field) (at : ℕ) (text : List ℕ) → name_test name before f at text ≡ Ok tt → IsNew (map name before) text
unfolding name_test
name_new name before f at text e =
    new_text name text before (fails _ _ (next_met _ _ (next_met _ _ (next_met _ _ e).1).1).0)

quota_met : (f : Field) (at : ℕ) (quota : Option ℕ) → quota_test f at quota ≡ Ok tt → IfSome quota (λ bytes. bytes ≤ 2 ^ 50)
quota_met f at None e = tt
quota_met f at (Some bytes) e = leb-true bytes (2 ^ 50) (holds _ _ e)

-- ---- grids

limits_met : (at : ℕ) (m : Matrix) → matrix_test at m ≡ Ok tt → IsWithinLimits m
unfolding matrix_test
limits_met at m e =
    let after_near = next_met _ _ e in
    let after_span = next_met _ _ after_near.1 in
    let after_fine = next_met _ _ after_span.1 in
    let after_tile = next_met _ _ after_fine.1 in
    let after_size = next_met _ _ after_tile.1 in
    let after_extent = next_met _ _ after_size.1 in
    let near = and_parts _ _ (holds _ _ after_near.0) in
    let span = and_parts _ _ (holds _ _ after_span.0) in
    let fine = and_parts _ _ (holds _ _ after_fine.0) in
    let tile = and_parts _ _ (holds _ _ after_tile.0) in
    let size = and_parts _ _ (holds _ _ after_size.0) in
    let extent = and_parts _ _ (holds _ _ after_extent.0) in
    record {
      span_positive = below_int _ _ span.0;
      span_d_positive = below_int _ _ span.1;
      span_n = leb-true _ _ fine.0;
      span_d = leb-true _ _ fine.1;
      left = leb-true _ _ near.0;
      top = leb-true _ _ near.1;
      tile_w = at_least 1 512 m.tile_w tile.0;
      tile_w_most = at_most 1 512 m.tile_w tile.0;
      tile_h = at_least 1 512 m.tile_h tile.1;
      tile_h_most = at_most 1 512 m.tile_h tile.1;
      cols = at_least 1 (2 ^ 31) m.cols size.0;
      cols_most = at_most 1 (2 ^ 31) m.cols size.0;
      rows = at_least 1 (2 ^ 31) m.rows size.1;
      rows_most = at_most 1 (2 ^ 31) m.rows size.1;
      wide = leb-true _ _ extent.0;
      high = leb-true _ _ extent.1;
    }

matrices_met : (before names : List (List ℕ)) (ms : List Matrix) → length names ≡ length ms → matrices_test before names ms ≡ Ok tt → AllByRecursion IsWithinLimits ms
matrices_met before [] [] same e = tt
matrices_met before [] (m ∷ ms) same e = absurd (omega arith)
matrices_met before (n ∷ ns) [] same e = absurd (omega arith)
matrices_met before (n ∷ ns) (m ∷ ms) same e =
    let fewer : length ns ≡ length ms = omega (arith, same) in
    let after_name = next_met _ _ e in
    let after_matrix = next_met _ _ after_name.1 in
    let after_rest = next_met _ _ after_matrix.1 in
    (limits_met (length before) m after_matrix.0, matrices_met (before ++ n ∷ []) ns ms fewer after_rest.0)

names_met : (before names : List (List ℕ)) (ms : List Matrix) → length names ≡ length ms → matrices_test before names ms ≡ Ok tt → AllByRecursion IsName names
names_met before [] ms same e = tt
names_met before (n ∷ ns) [] same e = absurd (omega arith)
names_met before (n ∷ ns) (m ∷ ms) same e =
    let fewer : length ns ≡ length ms = omega (arith, same) in
    let after_name = next_met _ _ e in
    let after_matrix = next_met _ _ after_name.1 in
    let after_rest = next_met _ _ after_matrix.1 in
    (name_met (λ t. t) before field.MatrixId (length before) n after_name.0, names_met (before ++ n ∷ []) ns ms fewer after_rest.0)

names_distinct : (before names : List (List ℕ)) (ms : List Matrix) → length names ≡ length ms → AreDistinct before → matrices_test before names ms ≡ Ok tt → AreDistinct (before ++ names)
names_distinct before [] ms same apart e = subst (λ (ns : List (List ℕ)). AreDistinct ns) (sym (append-nil before)) apart
names_distinct before (n ∷ ns) [] same apart e = absurd (omega arith)
names_distinct before (n ∷ ns) (m ∷ ms) same apart e =
    let fewer : length ns ≡ length ms = omega (arith, same) in
    let after_name = next_met _ _ e in
    let after_matrix = next_met _ _ after_name.1 in
    let after_rest = next_met _ _ after_matrix.1 in
    let new : IsNew before n = subst (λ (ts : List (List ℕ)). IsNew ts n) (map-id before) (name_new (λ t. t) before field.MatrixId (length before) n after_name.0) in
    subst (λ (ts : List (List ℕ)). AreDistinct ts) (append_assoc before (n ∷ []) ns) (names_distinct (before ++ n ∷ []) ns ms fewer (distinct_more before n apart new) after_rest.0)

grid_met : (before : List Grid) (g : Grid) → grid_test before g ≡ Ok tt → IsGrid g × IsNamedGrid g
unfolding grid_test
grid_met before g e =
    let after_id = next_met _ _ e in
    let after_same = next_met _ _ after_id.1 in
    let after_count = next_met _ _ after_same.1 in
    let after_matrices = next_met _ _ after_count.1 in
    let same : length g.names ≡ length g.matrices = eqb-true _ _ (holds _ _ after_same.0) in
    let count : within 1 30 (length g.matrices) ≡ true = holds _ _ after_count.0 in (
      matrices_met [] g.names g.matrices same after_matrices.0,
      record {
        id = name_met (λ x. x.id) before field.GridId (length before) g.id after_id.0;
        same = same;
        least = at_least 1 30 (length g.matrices) count;
        most = at_most 1 30 (length g.matrices) count;
        names = names_met [] g.names g.matrices same after_matrices.0;
        own_names = names_distinct [] g.names g.matrices same distinct_none after_matrices.0;
      },
    )

grid_new : (before : List Grid) (g : Grid) → grid_test before g ≡ Ok tt → IsNew (map (λ x. x.id) before) g.id
unfolding grid_test
grid_new before g e = name_new (λ x. x.id) before field.GridId (length before) g.id (next_met _ _ e).0

-- ---- styles and dimensions

style_met : (before : List Style) (s : Style) → style_test before s ≡ Ok tt → IsStyle s
unfolding style_test
style_met before s e =
    let after_id = next_met _ _ e in
    let after_count = next_met _ _ after_id.1 in
    let after_rise = next_met _ _ after_count.1 in
    record {
      id = name_met (λ x. x.id) before field.StyleId (length before) s.id after_id.0;
      breaks_most = leb-true _ _ (holds _ _ after_count.0);
      breaks_rise = holds _ _ after_rise.0;
    }

style_new : (before : List Style) (s : Style) → style_test before s ≡ Ok tt → IsNew (map (λ x. x.id) before) s.id
unfolding style_test
style_new before s e = name_new (λ x. x.id) before field.StyleId (length before) s.id (next_met _ _ e).0

-- texts that are names and short
both_met : (texts : List (List ℕ)) → list_all is_name texts ≡ true → list_all is_short texts ≡ true → AllByRecursion IsName texts
both_met [] names short = tt
both_met (text ∷ texts) names short =
    let named = and_parts (is_name text) (list_all is_name texts) names in
    let shorts = and_parts (is_short text) (list_all is_short texts) short in
    (record { bytes = named.0; most = leb-true _ _ shorts.0 }, both_met texts named.1 shorts.1)

default_met : (at count : ℕ) (default : Option ℕ) → default_test at count default ≡ Ok tt → IfSome default (λ n. n < count)
default_met at count None e = tt
default_met at count (Some n) e = leb-true (suc n) count (holds _ _ e)

dimension_met : (before : List Dimension) (d : Dimension) → dimension_test before d ≡ Ok tt → IsDimension d
unfolding dimension_test dimension_name_test names_test
dimension_met before d e =
    let after_id = next_met _ _ e in
    let after_values = next_met _ _ after_id.1 in
    let after_distinct = next_met _ _ after_values.1 in
    let after_default = next_met _ _ after_distinct.1 in
    let after_form = next_met _ _ after_id.0 in
    let after_short = next_met _ _ after_form.1 in
    let after_parameter = next_met _ _ after_short.1 in
    let after_names = next_met _ _ after_values.0 in
    let limits = and_parts _ _ (holds _ _ (next_met _ _ after_names.1).0) in
    record {
      id = record { bytes = holds _ _ after_form.0; most = leb-true _ _ (holds _ _ after_short.0) };
      no_parameter = fails _ _ after_parameter.0;
      values = both_met d.values (holds _ _ after_names.0) limits.1;
      values_least = at_least 1 1024 (length d.values) limits.0;
      values_most = at_most 1 1024 (length d.values) limits.0;
      own_values = texts_distinct d.values (holds _ _ after_distinct.0);
      default = default_met (length before) (length d.values) d.default after_default.0;
    }

dimension_name_new : (before : List Dimension) (at : ℕ) (text : List ℕ) → dimension_name_test before at text ≡ Ok tt → IsNew (map (λ x. map to_ascii_lowercase x.id) before) (map to_ascii_lowercase text)
unfolding dimension_name_test
dimension_name_new before at text e =
    let after_form = next_met (unless (is_name text) (Bad field.DimensionId at)) _ e in
    let after_short = next_met (unless (is_short text) (Limit field.DimensionId at)) _ after_form.1 in
    let after_parameter = next_met (unless (not (is_parameter text)) (Duplicate field.DimensionId at)) _ after_short.1 in
    let after_same = next_met (unless (not (list_any (λ x. is_same x.id text) before)) (Duplicate field.DimensionId at)) _ after_parameter.1 in
    new_text (λ x. map to_ascii_lowercase x.id) (map to_ascii_lowercase text) before (fails _ (Duplicate field.DimensionId at) after_same.0)

dimension_new : (before : List Dimension) (d : Dimension) → dimension_test before d ≡ Ok tt → IsNew (map (λ x. map to_ascii_lowercase x.id) before) (map to_ascii_lowercase d.id)
unfolding dimension_test
dimension_new before d e = dimension_name_new before (length before) d.id (next_met _ _ e).0

-- ---- layers

number_met : (at : ℕ) (grids : List Grid) (before : List ℕ) (n : ℕ) → grid_number_test at grids before n ≡ Ok tt → n < length grids
unfolding grid_number_test
number_met at grids before n e = leb-true (suc n) (length grids) (holds _ _ (next_met _ _ e).0)

number_new : (at : ℕ) (grids : List Grid) (before : List ℕ) (n : ℕ) → grid_number_test at grids before n ≡ Ok tt → IsNew (map (λ m. m) before) n
unfolding grid_number_test
number_new at grids before n e =
    new_by (λ m. m) (λ m. m == n) n (eq-eqb n n refl) before (fails _ _ (next_met _ _ (next_met _ _ e).1).0)

small_met : (grids : List Grid) (l : Layer) → are_small grids l.grids l.meta_x l.meta_y l.gutter ≡ true → AllByRecursion (λ n. AllByRecursion (IsSmallOn l) (matrices_at (slice_get grids n))) l.grids
unfolding are_small
small_met grids l e =
    all_met
    (λ n. list_all (is_small l.meta_x l.meta_y l.gutter) (matrices_at (slice_get grids n)))
    (λ n. AllByRecursion (IsSmallOn l) (matrices_at (slice_get grids n)))
    (λ n h. all_met (is_small l.meta_x l.meta_y l.gutter) (IsSmallOn l) (λ m small. leb-true _ _ small) (matrices_at (slice_get grids n)) h)
    l.grids
    e

ages_met : (at : ℕ) (ages : List Age) → ages_test at ages ≡ Ok tt → (length ages ≤ 30) × IsTrue (zooms_rise 0 ages)
unfolding ages_test
ages_met at ages e =
    let after_count = next_met (unless (nat_le (length ages) 30) (Limit field.Ages at)) _ e in
    let after_order = next_met (unless (zooms_rise 0 ages) (Bad field.Ages at)) _ after_count.1 in
    (leb-true _ _ (holds _ _ after_count.0), holds _ _ after_order.0)

layer_met : (grids : List Grid) (before : List Layer) (l : Layer) → layer_test grids before l ≡ Ok tt → IsLayer l × IsServed grids l
unfolding layer_test
layer_met grids before l e =
    let at = length before in
    let after_id = next_met _ _ e in
    let after_grids = next_met _ _ after_id.1 in
    let after_numbers = next_met _ _ after_grids.1 in
    let after_count = next_met _ _ after_numbers.1 in
    let after_styles = next_met _ _ after_count.1 in
    let after_few = next_met _ _ after_styles.1 in
    let after_dims = next_met _ _ after_few.1 in
    let after_meta = next_met _ _ after_dims.1 in
    let after_gutter = next_met _ _ after_meta.1 in
    let after_cell = next_met _ _ after_gutter.1 in
    let after_quota = next_met _ _ after_cell.1 in
    let after_ages = next_met _ _ after_quota.1 in
    let after_pixels = next_met _ _ after_ages.1 in
    let ages = ages_met at l.ages after_ages.0 in
    let count : within 1 16 (length l.grids) ≡ true = holds _ _ after_grids.0 in
    let style_count : within 1 32 (length l.styles) ≡ true = holds _ _ after_count.0 in
    let meta = and_parts _ _ (holds _ _ after_meta.0) in
    let cell : within 1 1000000000 l.cell ≡ true = holds _ _ after_cell.0 in (
      record {
        id = name_met (λ x. x.id) before field.LayerId at l.id after_id.0;
        grids_least = at_least 1 16 (length l.grids) count;
        grids_most = at_most 1 16 (length l.grids) count;
        own_grids = subst (λ (ns : List ℕ). AreDistinct ns) (map-id l.grids) (each_distinct (λ n. n) (grid_number_test at grids) (number_new at grids) [] l.grids distinct_none after_numbers.0);
        styles = each_met style_test IsStyle style_met [] l.styles after_styles.0;
        styles_least = at_least 1 32 (length l.styles) style_count;
        styles_most = at_most 1 32 (length l.styles) style_count;
        own_styles = each_distinct (λ s. s.id) style_test style_new [] l.styles distinct_none after_styles.0;
        dims = each_met dimension_test IsDimension dimension_met [] l.dims after_dims.0;
        dims_most = leb-true _ _ (holds _ _ after_few.0);
        own_dims = each_distinct (λ d. map to_ascii_lowercase d.id) dimension_test dimension_new [] l.dims distinct_none after_dims.0;
        meta_x = at_least 1 8 l.meta_x meta.0;
        meta_x_most = at_most 1 8 l.meta_x meta.0;
        meta_y = at_least 1 8 l.meta_y meta.1;
        meta_y_most = at_most 1 8 l.meta_y meta.1;
        gutter_most = leb-true _ _ (holds _ _ after_gutter.0);
        cell = at_least 1 1000000000 l.cell cell;
        cell_most = at_most 1 1000000000 l.cell cell;
        quota = quota_met field.LayerQuota at l.quota after_quota.0;
        ages_most = ages.0;
        ages_rise = ages.1;
      },
      record {
        there = each_met (grid_number_test at grids) (λ n. n < length grids) (number_met at grids) [] l.grids after_numbers.0;
        small = small_met grids l (holds _ _ after_pixels.0);
      },
    )

layer_new : (grids : List Grid) (before : List Layer) (l : Layer) → layer_test grids before l ≡ Ok tt → IsNew (map (λ x. x.id) before) l.id
unfolding layer_test
layer_new grids before l e = name_new (λ x. x.id) before field.LayerId (length before) l.id (next_met _ _ e).0

-- ---- the catalogue

pub valid_met : (c : Catalogue) → first_fault c ≡ Ok tt → IsValid c
unfolding first_fault
valid_met c e =
    let after_kept = next_met _ _ e in
    let after_cut = next_met _ _ after_kept.1 in
    let after_blob = next_met _ _ after_cut.1 in
    let after_quota = next_met _ _ after_blob.1 in
    let after_count = next_met _ _ after_quota.1 in
    let after_grids = next_met _ _ after_count.1 in
    let after_few = next_met _ _ after_grids.1 in
    let after_layers = next_met _ _ after_few.1 in
    let kept : within 1 1048576 c.kept_limit ≡ true = holds _ _ after_kept.0 in
    let cut : within 1 65536 c.cut_limit ≡ true = holds _ _ after_cut.0 in
    let blob : within 1 (2 ^ 40) c.blob_bytes ≡ true = holds _ _ after_blob.0 in
    let grid_count : within 1 16 (length c.grids) ≡ true = holds _ _ after_count.0 in
    let layer_count : within 1 64 (length c.layers) ≡ true = holds _ _ after_few.0 in
    record {
      kept_limit = at_least 1 1048576 c.kept_limit kept;
      kept_limit_most = at_most 1 1048576 c.kept_limit kept;
      cut_limit = at_least 1 65536 c.cut_limit cut;
      cut_limit_most = at_most 1 65536 c.cut_limit cut;
      blob_bytes = at_least 1 (2 ^ 40) c.blob_bytes blob;
      blob_bytes_most = at_most 1 (2 ^ 40) c.blob_bytes blob;
      quota = quota_met field.Quota 0 c.quota after_quota.0;
      grids = each_met grid_test IsGrid (λ before g h. (grid_met before g h).0) [] c.grids after_grids.0;
      named_grids = each_met grid_test IsNamedGrid (λ before g h. (grid_met before g h).1) [] c.grids after_grids.0;
      grids_least = at_least 1 16 (length c.grids) grid_count;
      grids_most = at_most 1 16 (length c.grids) grid_count;
      own_grids = each_distinct (λ g. g.id) grid_test grid_new [] c.grids distinct_none after_grids.0;
      layers = each_met (layer_test c.grids) IsLayer (λ before l h. (layer_met c.grids before l h).0) [] c.layers after_layers.0;
      served = each_met (layer_test c.grids) (IsServed c.grids) (λ before l h. (layer_met c.grids before l h).1) [] c.layers after_layers.0;
      layers_least = at_least 1 64 (length c.layers) layer_count;
      layers_most = at_most 1 64 (length c.layers) layer_count;
      own_layers = each_distinct (λ l. l.id) (layer_test c.grids) (layer_new c.grids) [] c.layers distinct_none after_layers.0;
    }

-- what a test of the whole tells that answers Ok
pub valid_on_ok : (c : Catalogue) (result : Test) → result ≡ first_fault c → OnOk result (IsValid c)
valid_on_ok c (Ok tt) is = valid_met c (sym is)
valid_on_ok c (Err fault) is = tt
