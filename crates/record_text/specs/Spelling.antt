-- How a record of version 2 is spelled in the 63 bytes of a body: its kind, its fields one after the other, and zeros. Numbers are big
-- endian, and `big_bytes width number` are the bytes of one.
use Rattle.std.specs.Prelude.{ℕ, ◌+◌, ◌-◌, ℤ, List, ◌∷◌, ◌++◌, length, map, replicate, Option, Some, None}
use Rattle.std.specs.Int.{w64, cast_unsigned}
use Rattle.std.specs.List.{flat_map}
use Rattle.byteorder.specs.Endian.{big_bytes}
use Rattle.matrix_geometry.specs.declared.boxes.Box9.{Box9}
use Rattle.matrix_geometry.specs.declared.theme.Filter.{Filter}
use Rattle.matrix_geometry.specs.declared.theme.Theme.{Theme}
use Rattle.metatile_plan.specs.declared.metatile.MetaKey.{MetaKey}
use Rattle.truncation_list.specs.declared.cover.Cover.{Cover}
use Rattle.record_text.specs.declared.entries.Record.{Record}
use Rattle.record_text.specs.declared.entries.Record.TheVariants.{Opened, Stored, Dropped, Cut, Uses}

-- a theme in 11 bytes
abbrev pub theme : Theme → List ℕ
theme t = big_bytes 2 t.layer ++ big_bytes 1 t.style ++ flat_map (big_bytes 2) t.dims

-- the place of a metatile in its layer and three zeros, in 13 bytes
abbrev pub position : MetaKey → List ℕ
position m = big_bytes 1 m.grid ++ big_bytes 1 m.z ++ big_bytes 4 m.row ++ big_bytes 4 m.col ++ replicate 3 0

-- a metatile in 24 bytes
abbrev pub metatile : MetaKey → List ℕ
metatile m = theme m.theme ++ position m

-- the place and the length of a blob, in 12 bytes
abbrev pub blob : ℕ → ℕ → List ℕ
blob place size = big_bytes 8 place ++ big_bytes 4 size

-- the moment at which its render began and how often it was used, in 16 bytes
abbrev pub counted : ℕ → ℕ → List ℕ
counted moment uses = big_bytes 8 moment ++ big_bytes 8 uses

-- a coordinate in 8 bytes, as two's complement
abbrev pub coordinate : ℤ → List ℕ
coordinate z = big_bytes 8 (cast_unsigned w64 z)

-- a byte that is 1 where a box stands, and its edges; 33 zeros where none does
abbrev pub bounds : Option Box9 → List ℕ
bounds None = replicate 33 0
bounds (Some b) = 1 ∷ coordinate b.min_x ++ coordinate b.min_y ++ coordinate b.max_x ++ coordinate b.max_y

-- 0 for any, and else the number plus 1
abbrev pub wanted : Option ℕ → ℕ
wanted None = 0
wanted (Some number) = number + 1

-- a style and four values in 9 bytes
abbrev pub filter : Filter → List ℕ
filter f = big_bytes 1 (wanted f.style) ++ flat_map (big_bytes 2) (map wanted f.dims)

-- a cover in 47 bytes
abbrev pub cover : Cover → List ℕ
cover c =
    big_bytes 2 c.layer ++ big_bytes 1 c.grid ++ big_bytes 1 c.z_start ++ big_bytes 1 c.z_stop ++ bounds c.bounds ++ filter c.filter

-- the kind and the fields after it
abbrev pub fields : Record → List ℕ
fields (Opened opening floor) = 1 ∷ big_bytes 4 opening ++ big_bytes 8 floor
fields (Stored number key place size moment uses) = 2 ∷ big_bytes 8 number ++ metatile key ++ (blob place size ++ counted moment uses)
fields (Dropped number key) = 3 ∷ big_bytes 8 number ++ metatile key
fields (Cut number c) = 4 ∷ big_bytes 8 number ++ cover c
fields (Uses number key uses) = 5 ∷ big_bytes 8 number ++ metatile key ++ big_bytes 8 uses

-- zeros up to 63 bytes
abbrev pub filled : List ℕ → List ℕ
filled front = front ++ replicate (63 - length front) 0

-- the body of a record
abbrev pub spelling : Record → List ℕ
spelling entry = filled (fields entry)
