-- A blob that is cut out of the picture on a window.
use Rattle.std.proofs.Common.{◌≡◌, ℕ, ◌+◌, ◌-◌, ◌*◌, ◌≤◌, ◌<◌, List, [], ◌++◌, length, Option, Some, sym, ap, subst, ◌∙◌, arith, length-append, length-drop}
use Rattle.std.specs.Option.{option_map_or}
use Rattle.std.proofs.lemmas.List.{length-take}
use Rattle.std.proofs.Math.Nat.{mul-le-mul_right}
use Rattle.catalog.specs.declared.catalogue.Catalogue.{Catalogue}
use Rattle.catalog.specs.LookUp.{matrix_in}
use Rattle.matrix_geometry.specs.declared.boxes.Range.{Range}
use Rattle.matrix_geometry.specs.declared.matrix.Matrix.{Matrix}
use Rattle.matrix_geometry.specs.Limits.{IsWithinLimits}
use Rattle.metatile_plan.specs.declared.metatile.Factors.{Factors}
use Rattle.metatile_plan.specs.declared.metatile.MetaKey.{MetaKey}
use Rattle.metatile_plan.specs.declared.windows.Window.{Window}
use Rattle.metatile_plan.specs.Plan.{IsIn, IsMetaIn, IsPlan, IsWindowOn, tiles_of, window_of}
use Rattle.metatile_plan.specs.Texts.{across, blob_len, down, header, span_of, tile_len}
use Rattle.metatile_plan.proofs.Sides.{window_on}
use Rattle.raster_field.specs.Blocks.{IsMeta, block_text, factors_at, part_of, row_text, text_on, tile_in}
use Rattle.raster_field.specs.Picture.{Scene}
use Rattle.raster_field.specs.Rasters.{Image, IsWhole, part_of_row, picture_in, picture_on}
use Rattle.raster_field.specs.TileText.{pixel_row, text_in, tile_text}
use Rattle.raster_field.proofs.Metas.{Parts, block_is, its_scene, parts, same_matrix, scene_is, tile_part_is}
use Rattle.raster_field.proofs.Windows.{window_part}
use Rattle.ppm_slice.specs.Cut.{cut_block, cut_pixels, cut_row, cut_text}
use Rattle.ppm_slice.proofs.Offsets.{offset_inside}
use Rattle.ppm_slice.proofs.Steps.{length_within, same_within}

-- the tiles of a range each way
row_in : (r : Range) (row : ℕ) → r.row_min ≤ row → row < r.row_min + down r → r.row_min ≤ r.row_max → row ≤ r.row_max
row_in r row least most some = omega (arith, least, most, some)

col_in : (r : Range) (col : ℕ) → r.col_min ≤ col → col < r.col_min + across r → r.col_min ≤ r.col_max → col ≤ r.col_max
col_in r col least most some = omega (arith, least, most, some)

-- ---- a tile of the picture on a window

cut_is_picture : (s : Scene) (r : Range) (w : Window) (row col : ℕ) → IsWindowOn s.matrix r w → IsIn r row col
    → cut_text s.matrix w (picture_in (Some s) w) row col ≡ text_in (Some s) row col
cut_is_picture s r w row col on is =
    let m = s.matrix in
    let x = offset_inside col r.col_min r.col_max m.tile_w w.x w.width is.col_min is.col_max on.left on.right in
    let y = offset_inside row r.row_min r.row_max m.tile_h w.y w.height is.row_min is.row_max on.top on.bottom in
    let left : w.x + (col * m.tile_w - w.x) ≡ col * m.tile_w = omega (arith, x.0) in
    let top = λ (j : ℕ). (let e : w.y + (row * m.tile_h - w.y + j) ≡ row * m.tile_h + j = omega (arith, y.0) in e) in
    let each = λ (j : ℕ) (least : 0 ≤ j) (most : j < 0 + m.tile_h).
    (let within : row * m.tile_h - w.y + j < w.height = omega (arith, most, y.1) in
    window_part s w (col * m.tile_w - w.x) (row * m.tile_h - w.y + j) m.tile_w x.1 within
    ∙ ap (λ (n : ℕ). pixel_row s n (w.y + (row * m.tile_h - w.y + j)) m.tile_w) left ∙ ap (λ (n : ℕ). pixel_row s (col * m.tile_w) n m.tile_w) (top j)) in
    ap (λ (xs : List ℕ). header m ++ xs)
    (same_within (λ j. part_of_row (picture_in (Some s) w) (col * m.tile_w - w.x) (row * m.tile_h - w.y + j) m.tile_w) (λ j. pixel_row s (col * m.tile_w) (row * m.tile_h + j) m.tile_w) 0 m.tile_h each)

-- ---- the blob of the picture on a window

cut_on : (c : Catalogue) (k : MetaKey) (p : Parts c k) (number : ℕ) (f : Factors) → IsWindowOn p.its_matrix (tiles_of f p.its_matrix k) (window_of f p.its_matrix k)
    → (tiles_of f p.its_matrix k).row_min ≤ (tiles_of f p.its_matrix k).row_max → (tiles_of f p.its_matrix k).col_min ≤ (tiles_of f p.its_matrix k).col_max
    → cut_block f p.its_matrix k (picture_in (Some (its_scene c k p c.source number)) (window_of f p.its_matrix k)) ≡ text_on c number k f p.its_matrix
cut_on c k p number f on rows cols =
    let m = p.its_matrix in let r = tiles_of f m k in let w = window_of f m k in let s = its_scene c k p c.source number in
    let image = picture_in (Some s) w in
    let tile = λ (row col : ℕ) (is : IsIn r row col). cut_is_picture s r w row col on is ∙ sym (ap (λ (o : Option Scene). text_in o row col) (scene_is c k p c.source number)) in
    same_within (λ row. cut_row m w image row r.col_min (across r)) (λ row. row_text c number k row r.col_min (across r)) r.row_min (down r)
    (λ row first last. same_within (λ col. cut_text m w image row col) (λ col. tile_text c number (tile_in k row col)) r.col_min (across r)
    (λ col least most. tile row col (record { row_min = first; row_max = row_in r row first last rows; col_min = least; col_max = col_in r col least most cols })))

pub cut_is_block : (c : Catalogue) (k : MetaKey) (number : ℕ) (f : Factors) (m : Matrix) (image : Image) → IsWithinLimits m → IsPlan f m → IsMetaIn f m k
    → (tiles_of f m k).row_min ≤ (tiles_of f m k).row_max → (tiles_of f m k).col_min ≤ (tiles_of f m k).col_max
    → IsMeta c k → matrix_in c k.grid k.z ≡ Some m → f ≡ factors_at c k.theme → image ≡ picture_on c c.source number (window_of f m k) → cut_block f m k image ≡ block_text c number k
cut_is_block c k number f m image limits plan place rows cols is e g shows =
    let p = parts c k is in
    let same = same_matrix c k p m e in
    let Q : Matrix → Type 0 = λ (x : Matrix). IsWindowOn x (tiles_of f x k) (window_of f x k) → (tiles_of f x k).row_min ≤ (tiles_of f x k).row_max → (tiles_of f x k).col_min ≤ (tiles_of f x k).col_max
    → image ≡ picture_in (Some (its_scene c k p c.source number)) (window_of f x k) → cut_block f x k image ≡ block_text c number k in
    let here : Q p.its_matrix = λ on rows cols shown.
    ap (λ (r : Image). cut_block f p.its_matrix k r) shown ∙ cut_on c k p number f on rows cols ∙ ap (λ (h : Factors). text_on c number k h p.its_matrix) g ∙ sym (block_is c k p number) in
    subst Q same here (window_on f m k limits plan place) rows cols (shows ∙ ap (λ (o : Option Scene). picture_in o (window_of f m k)) (scene_is c k p c.source number))

-- ---- the length of a blob, whatever the raster shows

part_length : (r : Image) (x y count : ℕ) → IsWhole r → x + count ≤ r.width → y < r.height → length (part_of_row r x y count) ≡ count * 3
part_length r x y count whole across down =
    let h : (y + 1) * (r.width * 3) ≤ r.height * (r.width * 3) = mul-le-mul_right (r.width * 3) (omega (arith, down)) in
    rw (length-take, length-drop, whole) (omega (arith, h, across))

cut_length : (m : Matrix) (t : Range) (w : Window) (r : Image) (row col : ℕ) → IsWhole r → r.width ≡ w.width → r.height ≡ w.height → IsWindowOn m t w → IsIn t row col → length (cut_text m w r row col) ≡ tile_len m
cut_length m t w r row col whole width height on is =
    let x = offset_inside col t.col_min t.col_max m.tile_w w.x w.width is.col_min is.col_max on.left on.right in
    let y = offset_inside row t.row_min t.row_max m.tile_h w.y w.height is.row_min is.row_max on.top on.bottom in
    let each = λ (j : ℕ) (least : 0 ≤ j) (most : j < 0 + m.tile_h).
    part_length r (col * m.tile_w - w.x) (row * m.tile_h - w.y + j) m.tile_w whole (rw width x.1) (let d : row * m.tile_h - w.y + j < w.height = omega (arith, most, y.1) in rw height d) in
    let pixels = length_within (λ j. part_of_row r (col * m.tile_w - w.x) (row * m.tile_h - w.y + j) m.tile_w) (m.tile_w * 3) 0 m.tile_h each in
    let e : m.tile_h * (m.tile_w * 3) ≡ 3 * m.tile_w * m.tile_h = grind arith in
    length-append (header m) (cut_pixels r (col * m.tile_w - w.x) (row * m.tile_h - w.y) m.tile_w m.tile_h) ∙ ap (λ (n : ℕ). length (header m) + n) (pixels ∙ e)

pub block_length : (f : Factors) (m : Matrix) (k : MetaKey) (r : Image) → IsWhole r → r.width ≡ (window_of f m k).width → r.height ≡ (window_of f m k).height → IsWindowOn m (tiles_of f m k) (window_of f m k)
    → (tiles_of f m k).row_min ≤ (tiles_of f m k).row_max → (tiles_of f m k).col_min ≤ (tiles_of f m k).col_max → length (cut_block f m k r) ≡ blob_len f m k
block_length f m k r whole width height on rows cols =
    let t = tiles_of f m k in let w = window_of f m k in
    let each = λ (row : ℕ) (first : t.row_min ≤ row) (last : row < t.row_min + down t).
    length_within (λ col. cut_text m w r row col) (tile_len m) t.col_min (across t)
    (λ col least most. cut_length m t w r row col whole width height on (record { row_min = first; row_max = row_in t row first last rows; col_min = least; col_max = col_in t col least most cols })) in
    let e : down t * (across t * tile_len m) ≡ across t * down t * tile_len m = grind arith in
    length_within (λ row. cut_row m w r row t.col_min (across t)) (across t * tile_len m) t.row_min (down t) each ∙ e

-- ---- a part of a blob

pub part_is_text : (c : Catalogue) (k : MetaKey) (number row col : ℕ) (f : Factors) (m : Matrix) → IsMeta c k → matrix_in c k.grid k.z ≡ Some m → f ≡ factors_at c k.theme → IsIn (tiles_of f m k) row col
    → part_of (span_of f m k row col) (block_text c number k) ≡ tile_text c number (tile_in k row col)
part_is_text c k number row col f m is e g within =
    let p = parts c k is in
    let here : IsIn (tiles_of (factors_at c k.theme) m k) row col = subst (λ (h : Factors). IsIn (tiles_of h m k) row col) g within in
    let there : IsIn (tiles_of (factors_at c k.theme) p.its_matrix k) row col = subst (λ (x : Matrix). IsIn (tiles_of (factors_at c k.theme) x k) row col) (sym (same_matrix c k p m e)) here in
    ap (λ (h : Factors). part_of (span_of h m k row col) (block_text c number k)) g
    ∙ sym (ap (λ (o : Option Matrix). option_map_or (λ x. part_of (span_of (factors_at c k.theme) x k row col) (block_text c number k)) o []) e)
    ∙ tile_part_is c k number row col is there
