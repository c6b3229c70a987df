-- The numbers of covers of a valid catalogue are in its ranges, and those in the ranges fit the fields of a record.
use Rattle.std.proofs.Common.{ℕ, zero, suc, ◌≡◌, ◌^◌, ◌<◌, List, [], ◌∷◌, length, slice_get, map, Option, Some, None, refl, subst, arith}
use Rattle.std.proofs.lemmas.Int.{fits_signed_from_abs}
use Rattle.std.specs.Prelude.{Contains, IfSome, IsSome, IsSomeAnd, option_and_then}
use Rattle.std.specs.Int.{w64}
use Rattle.std.specs.List.{AllByRecursion}
use Rattle.catalog.specs.declared.catalogue.Catalogue.{Catalogue}
use Rattle.catalog.specs.declared.grid.Grid.{Grid}
use Rattle.catalog.specs.declared.layer.Dimension.{Dimension}
use Rattle.catalog.specs.declared.layer.Layer.{Layer}
use Rattle.catalog.specs.LookUp.{dimension_at, matrix_in}
use Rattle.catalog.specs.Valid.{IsDimension, IsLayer, IsNamedGrid, IsValid}
use Rattle.matrix_geometry.specs.declared.boxes.Box9.{Box9}
use Rattle.matrix_geometry.specs.declared.matrix.Matrix.{Matrix}
use Rattle.matrix_geometry.specs.Limits.{IsReachable}
use Rattle.record_text.specs.Fits.{FitsBox, FitsCover}
use Rattle.record_text.specs.Spelling.{wanted}
use Rattle.served_covers.specs.OfCatalogue.{IsCoverOf}
use Rattle.truncation_list.specs.declared.cover.Cover.{Cover}
use Rattle.outbox.specs.declared.packet.Packet.{Packet}
use Rattle.outbox.specs.declared.packet.Packet.TheVariants as packet
use Rattle.outbox.specs.Packets.{FitsPacket, IsRanged, IsRangedCover}

-- WHAT IS FOUND

pub within : {A : Type 0} (xs : List A) (i : ℕ) (x : A) → slice_get xs i ≡ Some x → i < length xs
within [] i x e = absurd (cc)
within (y ∷ ys) zero x e = omega arith
within (y ∷ ys) (suc i) x e = omega (arith, within ys i x e)

pub there : {A : Type 0} (P : A → Type 0) (xs : List A) (i : ℕ) (x : A) → AllByRecursion P xs → slice_get xs i ≡ Some x → P x
there P [] i x all e = absurd (cc)
there P (y ∷ ys) zero x all e = let d : y ≡ x = cc in subst P d all.0
there P (y ∷ ys) (suc i) x all e = there P ys i x all.1 e

some_is : {A : Type 0} (o : Option A) → IsSome o → (x : A) × (o ≡ Some x)
some_is None e = absurd (cc)
some_is (Some x) e = (x, refl)

some_and : {A : Type 0} (P : A → Type 0) (o : Option A) → IsSomeAnd o P → (x : A) × (o ≡ Some x) × P x
some_and P None e = absurd e
some_and P (Some x) e = (x, refl, e)

-- both parts of a find that follows another one
record Both {A B : Type 0} (f : A → Option B) (o : Option A) (y : B) : Type 0 where
  pub first : A
  pub first_is : o ≡ Some first
  pub second_is : f first ≡ Some y

both_of : {A B : Type 0} (f : A → Option B) (o : Option A) (y : B) → option_and_then f o ≡ Some y → Both f o y
both_of f None y e = absurd (cc)
both_of f (Some x) y e = record { first = x; first_is = refl; second_is = e }

-- COVERS OF A CATALOGUE

record AreSmall (grid zoom : ℕ) : Type 0 where
  pub few_grids : grid < 16
  pub few_zooms : zoom < 30

small_matrix : (c : Catalogue) → IsValid c → (grid zoom : ℕ) (x : Matrix) → matrix_in c grid zoom ≡ Some x → AreSmall grid zoom
small_matrix c valid grid zoom x e =
    let b = both_of (λ (g : Grid). slice_get g.matrices zoom) (slice_get c.grids grid) x e in
    let named = there IsNamedGrid c.grids grid b.first valid.named_grids b.first_is in
    record {
      few_grids = omega (arith, within c.grids grid b.first b.first_is, valid.grids_most);
      few_zooms = omega (arith, within b.first.matrices zoom x b.second_is, named.most);
    }

style_ranged : (c : Catalogue) → IsValid c → (layer : ℕ) (style : Option ℕ) → IfSome style (λ n. IsSomeAnd (slice_get c.layers layer) (λ l. n < length l.styles)) → IfSome style (λ n. n < 32)
style_ranged c valid layer None is = tt
style_ranged c valid layer (Some n) is =
    let l = some_and (λ (l : Layer). n < length l.styles) (slice_get c.layers layer) is in
    omega (arith, l.2, (there IsLayer c.layers layer l.0 valid.layers l.1).styles_most)

value_ranged : (c : Catalogue) → IsValid c → (layer place value : ℕ) → IsSomeAnd (dimension_at c layer place) (λ d. value < length d.values) → value < 1024
value_ranged c valid layer place value is =
    let d = some_and (λ (d : Dimension). value < length d.values) (dimension_at c layer place) is in
    let b = both_of (λ (l : Layer). slice_get l.dims place) (slice_get c.layers layer) d.0 d.1 in
    let l = there IsLayer c.layers layer b.first valid.layers b.first_is in
    omega (arith, d.2, (there IsDimension b.first.dims place d.0 l.dims b.second_is).values_most)

each_ranged : (xs : List (Option ℕ)) → ((place value : ℕ) → slice_get xs place ≡ Some (Some value) → value < 1024) → AllByRecursion (λ wanted. IfSome wanted (λ value. value < 1024)) xs
each_ranged [] f = tt
each_ranged (None ∷ xs) f = (tt, each_ranged xs (λ place. f (suc place)))
each_ranged (Some value ∷ xs) f = (f 0 value refl, each_ranged xs (λ place. f (suc place)))

pub cover_ranged : (c : Catalogue) (cover : Cover) → IsValid c → IsCoverOf c cover → length cover.filter.dims ≡ 4 → IsRangedCover cover
cover_ranged c cover valid is four =
    let l = some_and (λ (l : Layer). Contains l.grids cover.grid) (slice_get c.layers cover.layer) is.grid in
    let start = some_is (matrix_in c cover.grid cover.z_start) is.z_start in
    let stop = some_is (matrix_in c cover.grid cover.z_stop) is.z_stop in
    record {
      layer = omega (arith, within c.layers cover.layer l.0 l.1, valid.layers_most);
      grid = (small_matrix c valid cover.grid cover.z_start start.0 start.1).few_grids;
      z_start = (small_matrix c valid cover.grid cover.z_start start.0 start.1).few_zooms;
      z_stop = (small_matrix c valid cover.grid cover.z_stop stop.0 stop.1).few_zooms;
      style = style_ranged c valid cover.layer cover.filter.style is.style;
      four = four;
      values = each_ranged cover.filter.dims (λ place value e. value_ranged c valid cover.layer place value (is.values place value e));
      reach = is.reach;
    }

-- FIELDS

bounds_fit : (o : Option Box9) → IfSome o IsReachable → IfSome o FitsBox
bounds_fit None reach = tt
bounds_fit (Some b) reach = record {
  min_x = fits_signed_from_abs w64 b.min_x (omega (arith, reach.min_x));
  min_y = fits_signed_from_abs w64 b.min_y (omega (arith, reach.min_y));
  max_x = fits_signed_from_abs w64 b.max_x (omega (arith, reach.max_x));
  max_y = fits_signed_from_abs w64 b.max_y (omega (arith, reach.max_y));
}

style_fits : (o : Option ℕ) → IfSome o (λ n. n < 32) → wanted o < 2 ^ 8
style_fits None is = omega arith
style_fits (Some n) is = omega (arith, is)

each_fits : (xs : List (Option ℕ)) → AllByRecursion (λ wanted. IfSome wanted (λ value. value < 1024)) xs → AllByRecursion (λ v. v < 2 ^ 16) (map wanted xs)
each_fits [] all = tt
each_fits (None ∷ xs) all = (omega arith, each_fits xs all.1)
each_fits (Some value ∷ xs) all = (omega (arith, all.0), each_fits xs all.1)

pub ranged_fits : (cover : Cover) → IsRangedCover cover → FitsCover cover
ranged_fits cover is = record {
  layer = omega (arith, is.layer);
  grid = omega (arith, is.grid);
  z_start = omega (arith, is.z_start);
  z_stop = omega (arith, is.z_stop);
  bounds = bounds_fit cover.bounds is.reach;
  filter = record { style = style_fits cover.filter.style is.style; four = is.four; values = each_fits cover.filter.dims is.values };
}

pub cover_fits : (c : Catalogue) (cover : Cover) → IsValid c → IsCoverOf c cover → length cover.filter.dims ≡ 4 → FitsCover cover
cover_fits c cover valid is four = ranged_fits cover (cover_ranged c cover valid is four)

pub packet_fits : (p : Packet) → IsRanged p → FitsPacket p
packet_fits (packet.Change n cover) is = (is.1, ranged_fits cover is.2)
packet_fits (packet.Seen n) is = is
