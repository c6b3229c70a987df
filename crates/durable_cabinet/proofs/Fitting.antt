-- The numbers of a metatile and of a cover of a valid catalogue fit the fields of a record.
use Rattle.std.proofs.Common.{ℕ, zero, suc, ◌≡◌, ◌+◌, ◌^◌, ◌<◌, ◌≤◌, List, [], ◌∷◌, length, slice_get, map, Option, Some, None, refl, subst, arith}
use Rattle.std.specs.Prelude.{Contains, IfSome, IsSome, IsSomeAnd, option_and_then, option_map, unwrap_or}
use Rattle.std.specs.List.{AllByRecursion}
use Rattle.catalog.specs.declared.catalogue.Catalogue.{Catalogue}
use Rattle.catalog.specs.declared.grid.Grid.{Grid}
use Rattle.catalog.specs.declared.layer.Dimension.{Dimension}
use Rattle.catalog.specs.declared.layer.Layer.{Layer}
use Rattle.cabinet.specs.declared.kept.Kept.{Kept}
use Rattle.cabinet.specs.History.{is_of, kept_of}
use Rattle.cabinet.specs.State.{IsKnown, State, now}
use Rattle.cabinet.proofs.Lists.{all_found}
use Rattle.cabinet_records.proofs.RecordedStanding.{stands_in}
use Rattle.catalog.specs.LookUp.{dimension_at, layer_of, matrix_in}
use Rattle.catalog.specs.Valid.{IsDimension, IsLayer, IsNamedGrid, IsValid}
use Rattle.matrix_geometry.specs.declared.matrix.Matrix.{Matrix}
use Rattle.metatile_plan.specs.declared.metatile.MetaKey.{MetaKey}
use Rattle.raster_field.specs.Blocks.{IsMeta}
use Rattle.raster_field.proofs.Metas.{parts}
use Rattle.record_text.specs.Fits.{FitsBox, FitsCover, FitsMetatile}
use Rattle.record_text.specs.Spelling.{wanted}
use Rattle.served_covers.specs.OfCatalogue.{IsCoverOf}
use Rattle.truncation_list.specs.declared.cover.Cover.{Cover}

-- WHAT IS FOUND

within : {A : Type 0} (xs : List A) (i : ℕ) (x : A) → slice_get xs i ≡ Some x → i < length xs
within [] i x e = absurd (cc)
within (y ∷ ys) zero x e = omega arith
within (y ∷ ys) (suc i) x e = omega (arith, within ys i x e)

there : {A : Type 0} (P : A → Type 0) (xs : List A) (i : ℕ) (x : A) → AllByRecursion P xs → slice_get xs i ≡ Some x → P x
there P [] i x all e = absurd (cc)
there P (y ∷ ys) zero x all e = let d : y ≡ x = cc in subst P d all.0
there P (y ∷ ys) (suc i) x all e = there P ys i x all.1 e

each_less : (n : ℕ) (xs : List ℕ) → ((i x : ℕ) → slice_get xs i ≡ Some x → x < n) → AllByRecursion (λ x. x < n) xs
each_less n [] f = tt
each_less n (x ∷ xs) f = (f 0 x refl, each_less n xs (λ i. f (suc i)))

-- both parts of a find that follows another one
record Both {A B : Type 0} (f : A → Option B) (o : Option A) (y : B) : Type 0 where
  pub first : A
  pub first_is : o ≡ Some first
  pub second_is : f first ≡ Some y

both_of : {A B : Type 0} (f : A → Option B) (o : Option A) (y : B) → option_and_then f o ≡ Some y → Both f o y
both_of f None y e = absurd (cc)
both_of f (Some x) y e = record { first = x; first_is = refl; second_is = e }

-- A GRID AND A MATRIX

record AreSmall (g z : ℕ) : Type 0 where
  pub grid : g < 2 ^ 8
  pub zoom : z < 2 ^ 8

small_matrix : (c : Catalogue) → IsValid c → (grid z : ℕ) (x : Matrix) → matrix_in c grid z ≡ Some x → AreSmall grid z
small_matrix c valid grid z x e =
    let b = both_of (λ (g : Grid). slice_get g.matrices z) (slice_get c.grids grid) x e in
    let named = there IsNamedGrid c.grids grid b.first valid.named_grids b.first_is in
    record { grid = omega (arith, within c.grids grid b.first b.first_is, valid.grids_most); zoom = omega (arith, within b.first.matrices z x b.second_is, named.most) }

-- VALUES

few_values : (c : Catalogue) → IsValid c → (layer place : ℕ) (l : Layer) (d : Dimension) → slice_get c.layers layer ≡ Some l → slice_get l.dims place ≡ Some d → length d.values ≤ 1024
few_values c valid layer place l d el ed = (there IsDimension l.dims place d (there IsLayer c.layers layer l valid.layers el).dims ed).values_most

values_few : (c : Catalogue) → IsValid c → (layer place : ℕ) (d : Option Dimension) → dimension_at c layer place ≡ d → unwrap_or (option_map (λ x. length x.values) d) 1 ≤ 1024
values_few c valid layer place None e = omega arith
values_few c valid layer place (Some d) e =
    let b = both_of (λ (l : Layer). slice_get l.dims place) (slice_get c.layers layer) d e in
    few_values c valid layer place b.first d b.first_is b.second_is

-- A METATILE, whose numbers are those of code

pub meta_fits : (c : Catalogue) → IsValid c → (m : MetaKey) → IsMeta c m → length m.theme.dims ≡ 4 → m.row < 2 ^ 32 → m.col < 2 ^ 32 → FitsMetatile m
meta_fits c valid m is four row col =
    let p = parts c m is in
    let l = there IsLayer c.layers m.theme.layer p.its_layer valid.layers p.layer in
    let b = both_of (λ (x : Layer). slice_get x.styles m.theme.style) (layer_of c m.theme) p.its_style p.style in
    let lb = there IsLayer c.layers m.theme.layer b.first valid.layers b.first_is in
    let small = small_matrix c valid m.grid m.z p.its_matrix p.matrix in
    record {
      theme = record {
        layer = omega (arith, within c.layers m.theme.layer p.its_layer p.layer, valid.layers_most);
        style = omega (arith, within b.first.styles m.theme.style p.its_style b.second_is, lb.styles_most);
        four = four;
        values = each_less (2 ^ 16) m.theme.dims (λ place number e. omega (arith, is.values.each place number e, values_few c valid m.theme.layer place (dimension_at c m.theme.layer place) refl));
      };
      grid = small.grid;
      z = small.zoom;
      row = row;
      col = col;
    }

-- A COVER

some_is : {A : Type 0} (o : Option A) → IsSome o → (x : A) × (o ≡ Some x)
some_is None e = absurd (cc)
some_is (Some x) e = (x, refl)

some_and : {A : Type 0} (P : A → Type 0) (o : Option A) → IsSomeAnd o P → (x : A) × (o ≡ Some x) × P x
some_and P None e = absurd e
some_and P (Some x) e = (x, refl, e)

wanted_less : (c : Catalogue) → IsValid c → (layer : ℕ) (o : Option ℕ) (n : ℕ) → ((value : ℕ) → o ≡ Some value → value + 1 < n) → 0 < n → wanted o < n
wanted_less c valid layer None n f some = some
wanted_less c valid layer (Some value) n f some = f value refl

each_wanted : (n : ℕ) (xs : List (Option ℕ)) → 0 < n → ((i value : ℕ) → slice_get xs i ≡ Some (Some value) → value + 1 < n) → AllByRecursion (λ v. v < n) (map wanted xs)
each_wanted n [] some f = tt
each_wanted n (None ∷ xs) some f = (some, each_wanted n xs some (λ i. f (suc i)))
each_wanted n (Some v ∷ xs) some f = (f 0 v refl, each_wanted n xs some (λ i. f (suc i)))

value_small : (c : Catalogue) → IsValid c → (layer place value : ℕ) → IsSomeAnd (dimension_at c layer place) (λ d. value < length d.values) → value + 1 < 2 ^ 16
value_small c valid layer place value is =
    let d = some_and (λ (d : Dimension). value < length d.values) (dimension_at c layer place) is in
    let b = both_of (λ (l : Layer). slice_get l.dims place) (slice_get c.layers layer) d.0 d.1 in
    omega (arith, d.2, few_values c valid layer place b.first d.0 b.first_is b.second_is)

style_small : (c : Catalogue) → IsValid c → (layer : ℕ) (style : Option ℕ) → IfSome style (λ n. IsSomeAnd (slice_get c.layers layer) (λ l. n < length l.styles)) → wanted style < 2 ^ 8
style_small c valid layer None is = omega arith
style_small c valid layer (Some n) is =
    let l = some_and (λ (l : Layer). n < length l.styles) (slice_get c.layers layer) is in
    omega (arith, l.2, (there IsLayer c.layers layer l.0 valid.layers l.1).styles_most)

pub cover_fits : (c : Catalogue) → IsValid c → (x : Cover) → IsCoverOf c x → IfSome x.bounds FitsBox → length x.filter.dims ≡ 4 → FitsCover x
cover_fits c valid x is bounds four =
    let l = some_and (λ (l : Layer). Contains l.grids x.grid) (slice_get c.layers x.layer) is.grid in
    let start = some_is (matrix_in c x.grid x.z_start) is.z_start in
    let stop = some_is (matrix_in c x.grid x.z_stop) is.z_stop in
    record {
      layer = omega (arith, within c.layers x.layer l.0 l.1, valid.layers_most);
      grid = (small_matrix c valid x.grid x.z_start start.0 start.1).grid;
      z_start = (small_matrix c valid x.grid x.z_start start.0 start.1).zoom;
      z_stop = (small_matrix c valid x.grid x.z_stop stop.0 stop.1).zoom;
      bounds = bounds;
      filter = record { style = style_small c valid x.layer x.filter.style is.style; four = four; values = each_wanted (2 ^ 16) x.filter.dims (omega arith) (λ place value e. value_small c valid x.layer place value (is.values place value e)) };
    }

-- WHAT IS KEPT is of the catalogue

pub kept_meta : (s : State) → IsKnown s → (t : Kept) → kept_of t.meta (now s) ≡ Some t → IsMeta s.catalogue t.meta
kept_meta s known t is = all_found (λ (t : Kept). IsMeta s.catalogue t.meta) (is_of t.meta) (now s).kept t (stands_in s known).metas is
