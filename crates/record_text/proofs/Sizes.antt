-- How long spellings are.
use Rattle.std.proofs.Common.{◌≡◌, ℕ, suc, ◌-◌, ◌*◌, ◌≤◌, List, [], ◌∷◌, ◌++◌, length, map, replicate, Option, Some, None, refl, ap, ◌∙◌, arith, length-append}
use Rattle.std.proofs.lemmas.List.{length-replicate}
use Rattle.std.specs.List.{flat_map}
use Rattle.byteorder.specs.Endian.{big_bytes}
use Rattle.matrix_geometry.specs.declared.boxes.Box9.{Box9}
use Rattle.metatile_plan.specs.declared.metatile.MetaKey.{MetaKey}
use Rattle.truncation_list.specs.declared.cover.Cover.{Cover}
use Rattle.record_text.specs.declared.entries.Record.{Record}
use Rattle.record_text.specs.declared.entries.Record.TheVariants.{Opened, Stored, Dropped, Cut, Uses}
use Rattle.record_text.specs.Fits.{Fits, FitsCover, FitsMetatile}
use Rattle.record_text.specs.Spelling.{position, metatile, blob, counted, bounds, wanted, filter, cover, fields, filled, spelling}

length-values : (values : List ℕ) → length (flat_map (big_bytes 2) values) ≡ 2 * length values
length-values [] = refl
length-values (v ∷ values) = let rest = length-values values in omega (arith, rest)

pub length-metatile : (m : MetaKey) → FitsMetatile m → length (metatile m) ≡ 24
length-metatile m fits =
    let values = length-values m.theme.dims in
    let four = fits.theme.four in
    let rear = length-append (flat_map (big_bytes 2) m.theme.dims) (position m) in
    omega (arith, values, four, rear)

length-bounds : (edges : Option Box9) → length (bounds edges) ≡ 33
length-bounds None = refl
length-bounds (Some b) = refl

length-wanted : (ws : List (Option ℕ)) → length (map wanted ws) ≡ length ws
length-wanted [] = refl
length-wanted (w ∷ ws) = ap suc (length-wanted ws)

length-cover : (c : Cover) → FitsCover c → length (cover c) ≡ 47
length-cover c fits =
    let values = length-values (map wanted c.filter.dims) in
    let dims = length-wanted c.filter.dims in
    let four = fits.filter.four in
    let edges = length-bounds c.bounds in
    let rear = length-append (bounds c.bounds) (filter c.filter) in
    omega (arith, values, dims, four, edges, rear)

length-fields : (entry : Record) → Fits entry → length (fields entry) ≤ 63
length-fields (Opened opening floor) fits = omega arith
length-fields (Stored number key place size moment uses) fits =
    let key_size = length-metatile key fits.1 in
    let rear = length-append (metatile key) (blob place size ++ counted moment uses) in
    omega (arith, key_size, rear)
length-fields (Dropped number key) fits = let key_size = length-metatile key fits.1 in omega (arith, key_size)
length-fields (Cut number c) fits = let cover_size = length-cover c fits.1 in omega (arith, cover_size)
length-fields (Uses number key uses) fits =
    let key_size = length-metatile key fits.1 in
    let rear = length-append (metatile key) (big_bytes 8 uses) in
    omega (arith, key_size, rear)

length-filled : (front : List ℕ) → length front ≤ 63 → length (filled front) ≡ 63
length-filled front fits =
    let rear = length-replicate {A = ℕ} (63 - length front) 0 in
    length-append front (replicate (63 - length front) 0) ∙ omega (arith, rear, fits)

pub length-spelling : (entry : Record) → Fits entry → length (spelling entry) ≡ 63
length-spelling entry fits = length-filled (fields entry) (length-fields entry fits)
