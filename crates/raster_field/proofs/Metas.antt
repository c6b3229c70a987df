-- Metatiles of a valid catalogue, their scenes and their blobs.
use Rattle.std.proofs.Common.{◌≡◌, ℕ, zero, suc, ◌+◌, ◌-◌, ◌*◌, ◌/◌, ◌≤◌, ◌<◌, List, [], ◌∷◌, length, take, drop, slice_get, Option, Some, None, refl, sym, ap, subst, ◌∙◌, arith, append-nil, length-append}
use Rattle.std.specs.Prelude.{Contains, IsSome, IsSomeAnd, option_and_then}
use Rattle.std.specs.List.{AllByRecursion}
use Rattle.std.specs.Option.{option_map_or}
use Rattle.std.proofs.lemmas.Option.{slice_get-get_or}
use Rattle.std.proofs.Math.Nat.{div-mul-le_self, mul-le-mul_right}
use Rattle.catalog.specs.declared.catalogue.Catalogue.{Catalogue}
use Rattle.catalog.specs.declared.grid.Grid.{Grid}
use Rattle.catalog.specs.declared.layer.Layer.{Layer}
use Rattle.catalog.specs.declared.layer.Style.{Style}
use Rattle.catalog.specs.FirstFault.{matrices_at}
use Rattle.catalog.specs.LookUp.{IsTile, layer_of, matrix_in, style_of}
use Rattle.catalog.specs.Valid.{IsGrid, IsLayer, IsServed, IsSmallOn, IsValid}
use Rattle.matrix_geometry.specs.declared.address.Address.{Address}
use Rattle.matrix_geometry.specs.declared.matrix.Matrix.{Matrix}
use Rattle.matrix_geometry.specs.Limits.{IsWithinLimits}
use Rattle.metatile_plan.specs.declared.metatile.Factors.{Factors}
use Rattle.metatile_plan.specs.declared.metatile.MetaKey.{MetaKey}
use Rattle.metatile_plan.specs.Plan.{IsIn, IsMetaIn, IsPlan, meta_of, tiles_of}
use Rattle.metatile_plan.specs.Texts.{across, blob_len, down, header, span_of, tile_len}
use Rattle.raster_field.specs.Blocks.{IsMeta, blob_size, block_of, block_text, factors_at, factors_of, part_of, row_text, text_on, tile_in}
use Rattle.raster_field.specs.Picture.{Scene, scene_of}
use Rattle.raster_field.specs.TileText.{pixel_row, text_in, tile_pixels, tile_text}
use Rattle.raster_field.proofs.Pieces.{piece_part, pieces_length, pieces_part}
use Rattle.raster_field.proofs.Windows.{row_length}

-- ---- elements of lists of which something holds

all_at : {A : Type 0} (P : A → Type 0) (xs : List A) (i : ℕ) (x : A) → AllByRecursion P xs → slice_get xs i ≡ Some x → P x
all_at P [] i x all e = absurd (cc)
all_at P (y ∷ ys) zero x all e = let d : y ≡ x = cc in subst P d all.0
all_at P (y ∷ ys) (suc i) x all e = all_at P ys i x all.1 e

all_in : {A : Type 0} (P : A → Type 0) (xs : List A) (x : A) → AllByRecursion P xs → Contains xs x → P x
all_in P xs x all has = all_at P xs has.0 x all (slice_get-get_or xs has.0 x has.1 ∙ ap Some has.2)

-- ---- what a metatile of a catalogue has

-- its layer, its style and its matrix
pub record Parts (c : Catalogue) (k : MetaKey) : Type 0 where
  pub its_layer : Layer
  pub its_style : Style
  pub its_matrix : Matrix
  pub layer : layer_of c k.theme ≡ Some its_layer
  pub style : style_of c k.theme ≡ Some its_style
  pub matrix : matrix_in c k.grid k.z ≡ Some its_matrix
  pub served : Contains its_layer.grids k.grid
  pub place : IsMetaIn (factors_at c k.theme) its_matrix k

parts_of : (c : Catalogue) (k : MetaKey) (l : Option Layer) (s : Option Style) (m : Option Matrix) → layer_of c k.theme ≡ l → style_of c k.theme ≡ s → matrix_in c k.grid k.z ≡ m
    → IsSomeAnd l (λ l. Contains l.grids k.grid) → IsSome s → IsSomeAnd m (λ x. IsMetaIn (factors_at c k.theme) x k) → Parts c k
parts_of c k (Some l) (Some s) (Some m) el es em served _ place =
    record { its_layer = l; its_style = s; its_matrix = m; layer = el; style = es; matrix = em; served = served; place = place }
parts_of c k None s m el es em h _ _ = absurd h
parts_of c k (Some l) None m el es em _ h _ = absurd (cc)
parts_of c k (Some l) (Some s) None el es em _ _ h = absurd h

pub parts : (c : Catalogue) (k : MetaKey) → IsMeta c k → Parts c k
parts c k is = parts_of c k (layer_of c k.theme) (style_of c k.theme) (matrix_in c k.grid k.z) refl refl refl is.layer is.style is.place

pub factors_are : (c : Catalogue) (k : MetaKey) (p : Parts c k) → factors_at c k.theme ≡ factors_of p.its_layer
factors_are c k p = ap (λ (o : Option Layer). option_map_or factors_of o (record { x = 1; y = 1; gutter = 0 })) p.layer

grid_of : (o : Option Grid) (z : ℕ) (m : Matrix) → option_and_then (λ g. slice_get g.matrices z) o ≡ Some m → (g : Grid) × (o ≡ Some g) × (slice_get g.matrices z ≡ Some m)
grid_of None z m e = absurd (cc)
grid_of (Some g) z m e = (g, refl, e)

pub its_limits : (c : Catalogue) (k : MetaKey) → IsValid c → (p : Parts c k) → IsWithinLimits p.its_matrix
its_limits c k valid p =
    let g = grid_of (slice_get c.grids k.grid) k.z p.its_matrix p.matrix in
    all_at IsWithinLimits g.0.matrices k.z p.its_matrix (all_at IsGrid c.grids k.grid g.0 valid.grids g.1) g.2

pub its_plan : (c : Catalogue) (k : MetaKey) → IsValid c → (p : Parts c k) → IsPlan (factors_at c k.theme) p.its_matrix
its_plan c k valid p =
    let l = p.its_layer in
    let g = grid_of (slice_get c.grids k.grid) k.z p.its_matrix p.matrix in
    let lawful = all_at IsLayer c.layers k.theme.layer l valid.layers p.layer in
    let served = all_at (IsServed c.grids) c.layers k.theme.layer l valid.served p.layer in
    let smalls = all_in (λ n. AllByRecursion (IsSmallOn l) (matrices_at (slice_get c.grids n))) l.grids k.grid served.small p.served in
    let here = subst (λ (o : Option Grid). AllByRecursion (IsSmallOn l) (matrices_at o)) g.1 smalls in
    let small = all_at (IsSmallOn l) g.0.matrices k.z p.its_matrix here g.2 in
    subst (λ (f : Factors). IsPlan f p.its_matrix) (sym (factors_are c k p))
    (record { x = lawful.meta_x; x_most = lawful.meta_x_most; y = lawful.meta_y; y_most = lawful.meta_y_most; gutter_most = lawful.gutter_most; small = small })

-- ---- its scene and its encoded tiles

abbrev pub its_scene : (c : Catalogue) (k : MetaKey) → Parts c k → ℕ → ℕ → Scene
its_scene c k p source number =
    record { source = source; number = number; theme = k.theme; matrix = p.its_matrix; layer = p.its_layer; style = p.its_style }

pub scene_is : (c : Catalogue) (k : MetaKey) (p : Parts c k) (source number : ℕ) → scene_of c source number k.theme k.grid k.z ≡ Some (its_scene c k p source number)
scene_is c k p source number =
    let with = λ (m : Matrix) (l : Layer) (s : Style). (let scene : Scene = record { source = source; number = number; theme = k.theme; matrix = m; layer = l; style = s } in Some scene) in
    ap (λ (o : Option Matrix). option_and_then (λ m. option_and_then (λ l. option_and_then (λ s. with m l s) (style_of c k.theme)) (layer_of c k.theme)) o) p.matrix
    ∙ ap (λ (o : Option Layer). option_and_then (λ l. option_and_then (λ s. with p.its_matrix l s) (style_of c k.theme)) o) p.layer
    ∙ ap (λ (o : Option Style). option_and_then (λ s. with p.its_matrix p.its_layer s) o) p.style

pixels_length : (s : Scene) (row col : ℕ) → length (tile_pixels s row col) ≡ s.matrix.tile_h * (s.matrix.tile_w * 3)
pixels_length s row col =
    pieces_length (λ j. pixel_row s (col * s.matrix.tile_w) (row * s.matrix.tile_h + j) s.matrix.tile_w) (s.matrix.tile_w * 3)
    (λ j. row_length s (col * s.matrix.tile_w) (row * s.matrix.tile_h + j) s.matrix.tile_w) 0 s.matrix.tile_h

text_length : (s : Scene) (row col : ℕ) → length (text_in (Some s) row col) ≡ tile_len s.matrix
text_length s row col =
    let e : s.matrix.tile_h * (s.matrix.tile_w * 3) ≡ 3 * s.matrix.tile_w * s.matrix.tile_h = grind arith in
    length-append (header s.matrix) (tile_pixels s row col) ∙ ap (λ (n : ℕ). length (header s.matrix) + n) (pixels_length s row col ∙ e)

pub tile_length : (c : Catalogue) (k : MetaKey) (p : Parts c k) (number row col : ℕ) → length (tile_text c number (tile_in k row col)) ≡ tile_len p.its_matrix
tile_length c k p number row col =
    ap (λ (o : Option Scene). length (text_in o row col)) (scene_is c k p c.source number) ∙ text_length (its_scene c k p c.source number) row col

row_length_of : (c : Catalogue) (k : MetaKey) (p : Parts c k) (number row first count : ℕ) → length (row_text c number k row first count) ≡ count * tile_len p.its_matrix
row_length_of c k p number row first count =
    pieces_length (λ col. tile_text c number (tile_in k row col)) (tile_len p.its_matrix) (tile_length c k p number row) first count

pub block_is : (c : Catalogue) (k : MetaKey) (p : Parts c k) (number : ℕ) → block_text c number k ≡ text_on c number k (factors_at c k.theme) p.its_matrix
block_is c k p number = ap (λ (o : Option Matrix). option_map_or (λ x. text_on c number k (factors_at c k.theme) x) o []) p.matrix

pub size_is : (c : Catalogue) (k : MetaKey) (p : Parts c k) → blob_size c k ≡ blob_len (factors_at c k.theme) p.its_matrix k
size_is c k p = ap (λ (o : Option Matrix). option_map_or (λ x. blob_len (factors_at c k.theme) x k) o 0) p.matrix

on_length : (c : Catalogue) (k : MetaKey) (p : Parts c k) (number : ℕ) (f : Factors) → length (text_on c number k f p.its_matrix) ≡ blob_len f p.its_matrix k
on_length c k p number f =
    let r = tiles_of f p.its_matrix k in
    let e : down r * (across r * tile_len p.its_matrix) ≡ across r * down r * tile_len p.its_matrix = grind arith in
    pieces_length (λ row. row_text c number k row r.col_min (across r)) (across r * tile_len p.its_matrix) (λ row. row_length_of c k p number row r.col_min (across r)) r.row_min (down r) ∙ e

pub block_length : (c : Catalogue) (k : MetaKey) (number : ℕ) → IsMeta c k → length (block_text c number k) ≡ blob_size c k
block_length c k number is =
    let p = parts c k is in
    ap (λ (xs : List ℕ). length xs) (block_is c k p number) ∙ on_length c k p number (factors_at c k.theme) ∙ sym (size_is c k p)

-- ---- a part of the blob is an encoded tile

part_on : (c : Catalogue) (k : MetaKey) (p : Parts c k) (number : ℕ) (f : Factors) (row col : ℕ) → IsIn (tiles_of f p.its_matrix k) row col
    → part_of (span_of f p.its_matrix k row col) (text_on c number k f p.its_matrix) ≡ tile_text c number (tile_in k row col)
part_on c k p number f row col is =
    let r = tiles_of f p.its_matrix k in let size = tile_len p.its_matrix in
    let y = row - r.row_min in let x = col - r.col_min in
    let down_is : y < down r = omega (arith, is.row_min, is.row_max) in
    let across_is : x + 1 ≤ across r = omega (arith, is.col_min, is.col_max) in
    let room : x * size + size ≤ across r * size = (let h : (x + 1) * size ≤ across r * size = mul-le-mul_right size across_is in omega (arith, h)) in
    let place : (y * across r + x) * size ≡ y * (across r * size) + x * size = grind arith in
    let here : r.row_min + y ≡ row = omega (arith, is.row_min) in
    let there : r.col_min + x ≡ col = omega (arith, is.col_min) in
    let one : 1 * size ≡ size = omega arith in
    let text = λ (col : ℕ). tile_text c number (tile_in k row col) in
    let whole = piece_part (λ row. row_text c number k row r.col_min (across r)) (across r * size) (λ row. row_length_of c k p number row r.col_min (across r)) r.row_min y size (x * size) (down r) down_is room in
    let part = pieces_part text size (tile_length c k p number row) r.col_min x 1 (across r) across_is in
    ap (λ (n : ℕ). take size (drop n (text_on c number k f p.its_matrix))) place ∙ whole
    ∙ ap (λ (n : ℕ). take size (drop (x * size) (row_text c number k n r.col_min (across r)))) here
    ∙ ap (λ (n : ℕ). take n (drop (x * size) (row_text c number k row r.col_min (across r)))) (sym one) ∙ part
    ∙ append-nil (text (r.col_min + x)) ∙ ap text there

pub tile_part_is : (c : Catalogue) (k : MetaKey) (number row col : ℕ) → (is : IsMeta c k) → IsIn (tiles_of (factors_at c k.theme) (parts c k is).its_matrix k) row col
    → option_map_or (λ x. part_of (span_of (factors_at c k.theme) x k row col) (block_text c number k)) (matrix_in c k.grid k.z) [] ≡ tile_text c number (tile_in k row col)
tile_part_is c k number row col is within =
    let p = parts c k is in
    ap (λ (o : Option Matrix). option_map_or (λ x. part_of (span_of (factors_at c k.theme) x k row col) (block_text c number k)) o []) p.matrix
    ∙ ap (λ (xs : List ℕ). part_of (span_of (factors_at c k.theme) p.its_matrix k row col) xs) (block_is c k p number)
    ∙ part_on c k p number (factors_at c k.theme) row col within

-- ---- the metatile of a tile

tile_place : (o : Option Matrix) (f : Factors) (a : Address) → IsSomeAnd o (λ m. (a.row < m.rows) × (a.col < m.cols)) → IsSomeAnd o (λ m. IsMetaIn f m (meta_of f a))
tile_place None f a h = h
tile_place (Some m) f a h =
    let row : a.row / f.y * f.y ≤ a.row = div-mul-le_self a.row f.y in let col : a.col / f.x * f.x ≤ a.col = div-mul-le_self a.col f.x in
    record { row = omega (arith, row, h.0); col = omega (arith, col, h.1) }

pub tile_meta : (c : Catalogue) (a : Address) → IsTile c a → IsMeta c (block_of c a)
tile_meta c a is = record { layer = is.layer; style = is.style; values = is.values; place = tile_place (matrix_in c a.grid a.z) (factors_at c a.theme) a is.place }

-- what holds of the matrix of a metatile holds of each that is it
pub same_matrix : (c : Catalogue) (k : MetaKey) (p : Parts c k) (m : Matrix) → matrix_in c k.grid k.z ≡ Some m → p.its_matrix ≡ m
same_matrix c k p m e = let d : Some p.its_matrix ≡ Some m = sym p.matrix ∙ e in cc

pub tile_within : (c : Catalogue) (a : Address) (m : Matrix) → IsTile c a → matrix_in c a.grid a.z ≡ Some m → (a.row < m.rows) × (a.col < m.cols)
tile_within c a m is e = subst (λ (o : Option Matrix). IsSomeAnd o (λ m. (a.row < m.rows) × (a.col < m.cols))) e is.place

pub limits_of : (c : Catalogue) (k : MetaKey) (m : Matrix) → IsValid c → IsMeta c k → matrix_in c k.grid k.z ≡ Some m → IsWithinLimits m
limits_of c k m valid is e = subst (λ (x : Matrix). IsWithinLimits x) (same_matrix c k (parts c k is) m e) (its_limits c k valid (parts c k is))

pub plan_of : (c : Catalogue) (k : MetaKey) (m : Matrix) → IsValid c → IsMeta c k → matrix_in c k.grid k.z ≡ Some m → IsPlan (factors_at c k.theme) m
plan_of c k m valid is e = subst (λ (x : Matrix). IsPlan (factors_at c k.theme) x) (same_matrix c k (parts c k is) m e) (its_plan c k valid (parts c k is))

pub place_of_meta : (c : Catalogue) (k : MetaKey) (m : Matrix) → IsMeta c k → matrix_in c k.grid k.z ≡ Some m → IsMetaIn (factors_at c k.theme) m k
place_of_meta c k m is e = subst (λ (x : Matrix). IsMetaIn (factors_at c k.theme) x k) (same_matrix c k (parts c k is) m e) (parts c k is).place

pub has_scene : (c : Catalogue) (k : MetaKey) (source number : ℕ) → IsMeta c k → IsSome (scene_of c source number k.theme k.grid k.z)
has_scene c k source number is = subst (λ (o : Option Scene). IsSome o) (sym (scene_is c k (parts c k is) source number)) refl
