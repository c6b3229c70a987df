-- The fields of a spelling, read at their places, make its record.
use Rattle.std.proofs.Common.{◌≡◌, ℕ, suc, ◌+◌, ◌-◌, ◌^◌, ◌<◌, ◌==◌, if◌then◌else◌, ℤ, List, [], ◌∷◌, ◌++◌, length, drop, map, replicate, Option, Some, None, IfSome, FitsSigned, refl, sym, ap, ◌∙◌, add-one, arith, append_assoc}
use Rattle.std.proofs.lemmas.List.{drop-drop}
use Rattle.std.proofs.Math.Facts.{Fits-of_z}
use Rattle.std.proofs.lemmas.Int.{to_z-of_z}
use Rattle.std.specs.Int.{w64, cast_signed, cast_unsigned}
use Rattle.std.specs.List.{AllByRecursion, flat_map}
use Rattle.byteorder.specs.Endian.{big_bytes, big_number}
use Rattle.byteorder.specs.Numbers.{big_number-reads_back}
use Rattle.matrix_geometry.specs.declared.boxes.Box9.{Box9}
use Rattle.matrix_geometry.specs.declared.theme.Filter.{Filter}
use Rattle.metatile_plan.specs.declared.metatile.MetaKey.{MetaKey}
use Rattle.truncation_list.specs.declared.cover.Cover.{Cover}
use Rattle.record_text.specs.declared.entries.Record.{Record}
use Rattle.record_text.specs.declared.entries.Record.TheVariants.{Opened, Stored, Dropped, Cut, Uses}
use Rattle.record_text.specs.Fits.{Fits, FitsBox, FitsCover, FitsFilter, FitsMetatile}
use Rattle.record_text.specs.Reading.{number_at, values_at, metatile_at, coordinate_at, box_at, bounds_at, wanted_of, filter_at, cover_at, entry_of}
use Rattle.record_text.specs.Spelling.{position, metatile, blob, counted, coordinate, bounds, wanted, filter, cover, fields, spelling}

-- a number stands where its bytes begin
reads : (width at x : ℕ) (bytes rest : List ℕ) → x < 256 ^ width → drop at bytes ≡ big_bytes width x ++ rest → number_at width at bytes ≡ x
reads width at x bytes rest fits same = ap (big_number width) same ∙ big_number-reads_back width x rest fits

-- what begins k bytes further
further : (from to k : ℕ) (bytes xs : List ℕ) → to ≡ from + k → drop from bytes ≡ xs → drop to bytes ≡ drop k xs
further from to k bytes xs on same = ap (λ (n : ℕ). drop n bytes) on ∙ sym (drop-drop k from bytes) ∙ ap (drop k) same

-- a number k bytes further
field : (width from to k x : ℕ) (bytes xs rest : List ℕ) → to ≡ from + k → x < 256 ^ width → drop from bytes ≡ xs → drop k xs ≡ big_bytes width x ++ rest → number_at width to bytes ≡ x
field width from to k x bytes xs rest on fits same begins = reads width to x bytes rest fits (further from to k bytes xs on same ∙ begins)

values_back : (at : ℕ) (bytes values rest : List ℕ) → length values ≡ 4 → AllByRecursion (λ v. v < 2 ^ 16) values → drop at bytes ≡ flat_map (big_bytes 2) values ++ rest → values_at at bytes ≡ values
values_back at bytes [] rest four fits same = absurd (omega arith)
values_back at bytes (a ∷ []) rest four fits same = absurd (omega arith)
values_back at bytes (a ∷ b ∷ []) rest four fits same = absurd (omega arith)
values_back at bytes (a ∷ b ∷ c ∷ []) rest four fits same = absurd (omega arith)
values_back at bytes (a ∷ b ∷ c ∷ d ∷ []) rest four fits same =
    let first = reads 2 at a bytes (big_bytes 2 b ++ (big_bytes 2 c ++ (big_bytes 2 d ++ rest))) fits.0 same in
    let second = field 2 at (at + 2) 2 b bytes _ (big_bytes 2 c ++ (big_bytes 2 d ++ rest)) refl fits.1.0 same refl in
    let third = field 2 at (at + 4) 4 c bytes _ (big_bytes 2 d ++ rest) refl fits.1.1.0 same refl in
    let fourth = field 2 at (at + 6) 6 d bytes _ rest refl fits.1.1.1.0 same refl in
    λ k. first k ∷ second k ∷ third k ∷ fourth k ∷ []
values_back at bytes (a ∷ b ∷ c ∷ d ∷ e ∷ es) rest four fits same = absurd (omega arith)

-- what stands after the values
after_values : (values rest : List ℕ) → length values ≡ 4 → drop 8 (flat_map (big_bytes 2) values ++ rest) ≡ rest
after_values [] rest four = absurd (omega arith)
after_values (a ∷ []) rest four = absurd (omega arith)
after_values (a ∷ b ∷ []) rest four = absurd (omega arith)
after_values (a ∷ b ∷ c ∷ []) rest four = absurd (omega arith)
after_values (a ∷ b ∷ c ∷ d ∷ []) rest four = refl
after_values (a ∷ b ∷ c ∷ d ∷ e ∷ es) rest four = absurd (omega arith)

pub metatile_back : (at : ℕ) (bytes rest : List ℕ) (m : MetaKey) → FitsMetatile m → drop at bytes ≡ metatile m ++ rest → metatile_at at bytes ≡ m
unfolding metatile_at
metatile_back at bytes rest m fits same =
    let layer = reads 2 at m.theme.layer bytes _ fits.theme.layer same in
    let style = field 1 at (at + 2) 2 m.theme.style bytes _ _ refl fits.theme.style same refl in
    let middle : drop (at + 3) bytes ≡ flat_map (big_bytes 2) m.theme.dims ++ (position m ++ rest) = further at (at + 3) 3 bytes _ refl same ∙ append_assoc (flat_map (big_bytes 2) m.theme.dims) (position m) rest in
    let dims = values_back (at + 3) bytes m.theme.dims (position m ++ rest) fits.theme.four fits.theme.values middle in
    let rear : drop (at + 11) bytes ≡ position m ++ rest = further (at + 3) (at + 11) 8 bytes _ (omega arith) middle ∙ after_values m.theme.dims (position m ++ rest) fits.theme.four in
    let grid = reads 1 (at + 11) m.grid bytes _ fits.grid rear in
    let z = field 1 (at + 11) (at + 12) 1 m.z bytes _ _ (omega arith) fits.z rear refl in
    let row = field 4 (at + 11) (at + 13) 2 m.row bytes _ _ (omega arith) fits.row rear refl in
    let col = field 4 (at + 11) (at + 17) 6 m.col bytes _ _ (omega arith) fits.col rear refl in
    λ k. record { theme = record { layer = layer k; style = style k; dims = dims k }; grid = grid k; z = z k; row = row k; col = col k }

coordinate_back : (at : ℕ) (bytes rest : List ℕ) (z : ℤ) → FitsSigned w64 z → drop at bytes ≡ coordinate z ++ rest → coordinate_at at bytes ≡ z
coordinate_back at bytes rest z fits same =
    ap (cast_signed w64) (reads 8 at (cast_unsigned w64 z) bytes rest (Fits-of_z fits).fits same) ∙ to_z-of_z w64 z fits

box_back : (at : ℕ) (bytes rest : List ℕ) (b : Box9) → FitsBox b → drop at bytes ≡ coordinate b.min_x ++ (coordinate b.min_y ++ (coordinate b.max_x ++ (coordinate b.max_y ++ rest))) → box_at at bytes ≡ b
box_back at bytes rest b fits same =
    let min_x = coordinate_back at bytes _ b.min_x fits.min_x same in
    let min_y = coordinate_back (at + 8) bytes _ b.min_y fits.min_y (further at (at + 8) 8 bytes _ refl same) in
    let max_x = coordinate_back (at + 16) bytes _ b.max_x fits.max_x (further at (at + 16) 16 bytes _ refl same) in
    let max_y = coordinate_back (at + 24) bytes rest b.max_y fits.max_y (further at (at + 24) 24 bytes _ refl same) in
    λ k. record { min_x = min_x k; min_y = min_y k; max_x = max_x k; max_y = max_y k }

bounds_back : (at : ℕ) (bytes rest : List ℕ) (edges : Option Box9) → IfSome edges FitsBox → drop at bytes ≡ bounds edges ++ rest → bounds_at at bytes ≡ edges
unfolding bounds_at
bounds_back at bytes rest None fits same =
    let flag = reads 1 at 0 bytes (replicate 32 0 ++ rest) (omega arith) same in
    ap (λ (n : ℕ). if n == 1 then Some (box_at (at + 1) bytes) else None) flag
bounds_back at bytes rest (Some b) fits same =
    let flag = reads 1 at 1 bytes (coordinate b.min_x ++ (coordinate b.min_y ++ (coordinate b.max_x ++ (coordinate b.max_y ++ rest)))) (omega arith) same in
    let edges = box_back (at + 1) bytes rest b fits (further at (at + 1) 1 bytes _ refl same) in
    ap (λ (n : ℕ). if n == 1 then Some (box_at (at + 1) bytes) else None) flag ∙ ap Some edges

wanted_back : (w : Option ℕ) → wanted_of (wanted w) ≡ w
wanted_back None = refl
wanted_back (Some number) = ap wanted_of (add-one number)

each_wanted_back : (ws : List (Option ℕ)) → map wanted_of (map wanted ws) ≡ ws
each_wanted_back [] = refl
each_wanted_back (w ∷ ws) = λ k. wanted_back w k ∷ each_wanted_back ws k

length_map_wanted : (ws : List (Option ℕ)) → length (map wanted ws) ≡ length ws
length_map_wanted [] = refl
length_map_wanted (w ∷ ws) = ap suc (length_map_wanted ws)

filter_back : (at : ℕ) (bytes rest : List ℕ) (f : Filter) → FitsFilter f → drop at bytes ≡ filter f ++ rest → filter_at at bytes ≡ f
unfolding filter_at
filter_back at bytes rest f fits same =
    let style = reads 1 at (wanted f.style) bytes _ fits.style same in
    let dims = values_back (at + 1) bytes (map wanted f.dims) rest (length_map_wanted f.dims ∙ fits.four) fits.values (further at (at + 1) 1 bytes _ refl same) in
    λ k. record { style = (ap wanted_of style ∙ wanted_back f.style) k; dims = (ap (map wanted_of) dims ∙ each_wanted_back f.dims) k }

-- a flag and four edges have 33 bytes
after_bounds : (edges : Option Box9) (rest : List ℕ) → drop 33 (bounds edges ++ rest) ≡ rest
after_bounds None rest = refl
after_bounds (Some b) rest = refl

pub cover_back : (at : ℕ) (bytes rest : List ℕ) (c : Cover) → FitsCover c → drop at bytes ≡ cover c ++ rest → cover_at at bytes ≡ c
unfolding cover_at
cover_back at bytes rest c fits same =
    let layer = reads 2 at c.layer bytes _ fits.layer same in
    let grid = field 1 at (at + 2) 2 c.grid bytes _ _ refl fits.grid same refl in
    let z_start = field 1 at (at + 3) 3 c.z_start bytes _ _ refl fits.z_start same refl in
    let z_stop = field 1 at (at + 4) 4 c.z_stop bytes _ _ refl fits.z_stop same refl in
    let middle : drop (at + 5) bytes ≡ bounds c.bounds ++ (filter c.filter ++ rest) = further at (at + 5) 5 bytes _ refl same ∙ append_assoc (bounds c.bounds) (filter c.filter) rest in
    let edges = bounds_back (at + 5) bytes (filter c.filter ++ rest) c.bounds fits.bounds middle in
    let rear : drop (at + 38) bytes ≡ filter c.filter ++ rest = further (at + 5) (at + 38) 33 bytes _ (omega arith) middle ∙ after_bounds c.bounds (filter c.filter ++ rest) in
    let which = filter_back (at + 38) bytes rest c.filter fits.filter rear in
    λ k. record { layer = layer k; grid = grid k; z_start = z_start k; z_stop = z_stop k; bounds = edges k; filter = which k }

-- what stands after a metatile
after_metatile : (m : MetaKey) (rest : List ℕ) → FitsMetatile m → drop 24 (metatile m ++ rest) ≡ rest
after_metatile m rest fits =
    let middle : drop 3 (metatile m ++ rest) ≡ flat_map (big_bytes 2) m.theme.dims ++ (position m ++ rest) = append_assoc (flat_map (big_bytes 2) m.theme.dims) (position m) rest in
    let rear : drop 11 (metatile m ++ rest) ≡ position m ++ rest = further 3 11 8 (metatile m ++ rest) _ refl middle ∙ after_values m.theme.dims (position m ++ rest) fits.theme.four in
    further 11 24 13 (metatile m ++ rest) _ refl rear

-- the zeros after the fields
abbrev zeros : Record → List ℕ
zeros entry = replicate (63 - length (fields entry)) 0

pub entry_back : (entry : Record) → Fits entry → entry_of (spelling entry) ≡ Some entry
unfolding entry_of
entry_back (Opened opening floor) fits =
    let body = spelling (Opened opening floor) in
    let first = reads 4 1 opening body (big_bytes 8 floor ++ zeros (Opened opening floor)) fits.0 refl in
    let second = reads 8 5 floor body (zeros (Opened opening floor)) fits.1 refl in
    λ k. Some (Opened (first k) (second k))
entry_back (Stored number key place size moment uses) fits =
    let body = spelling (Stored number key place size moment uses) in
    let end = zeros (Stored number key place size moment uses) in
    let after = blob place size ++ counted moment uses in
    let first = reads 8 1 number body ((metatile key ++ after) ++ end) fits.0 refl in
    let middle : drop 9 body ≡ metatile key ++ (after ++ end) = append_assoc (metatile key) after end in
    let second = metatile_back 9 body (after ++ end) key fits.1 middle in
    let rear : drop 33 body ≡ after ++ end = further 9 33 24 body _ refl middle ∙ after_metatile key (after ++ end) fits.1 in
    let third = reads 8 33 place body (big_bytes 4 size ++ (big_bytes 8 moment ++ (big_bytes 8 uses ++ end))) fits.2 rear in
    let fourth = field 4 33 41 8 size body _ (big_bytes 8 moment ++ (big_bytes 8 uses ++ end)) refl fits.3 rear refl in
    let fifth = field 8 33 45 12 moment body _ (big_bytes 8 uses ++ end) refl fits.4 rear refl in
    let sixth = field 8 33 53 20 uses body _ end refl fits.5 rear refl in
    λ k. Some (Stored (first k) (second k) (third k) (fourth k) (fifth k) (sixth k))
entry_back (Dropped number key) fits =
    let body = spelling (Dropped number key) in
    let end = zeros (Dropped number key) in
    let first = reads 8 1 number body (metatile key ++ end) fits.0 refl in
    let second = metatile_back 9 body end key fits.1 refl in
    λ k. Some (Dropped (first k) (second k))
entry_back (Uses number key uses) fits =
    let body = spelling (Uses number key uses) in
    let end = zeros (Uses number key uses) in
    let after = big_bytes 8 uses in
    let first = reads 8 1 number body ((metatile key ++ after) ++ end) fits.0 refl in
    let middle : drop 9 body ≡ metatile key ++ (after ++ end) = append_assoc (metatile key) after end in
    let second = metatile_back 9 body (after ++ end) key fits.1 middle in
    let rear : drop 33 body ≡ after ++ end = further 9 33 24 body _ refl middle ∙ after_metatile key (after ++ end) fits.1 in
    let third = reads 8 33 uses body end fits.2 rear in
    λ k. Some (Uses (first k) (second k) (third k))
entry_back (Cut number c) fits =
    let body = spelling (Cut number c) in
    let end = zeros (Cut number c) in
    let first = reads 8 1 number body (cover c ++ end) fits.0 refl in
    let second = cover_back 9 body end c fits.1 refl in
    λ k. Some (Cut (first k) (second k))
