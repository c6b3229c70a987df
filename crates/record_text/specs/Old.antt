-- The records of version 1, which knows neither moments nor uses, and how they are spelled.
use Rattle.std.specs.Prelude.{ℕ, ◌≡◌, List, [], ◌∷◌, ◌++◌}
use Rattle.byteorder.specs.Endian.{big_bytes}
use Rattle.record_text.specs.declared.entries.Record.{Record}
use Rattle.record_text.specs.declared.entries.Record.TheVariants.{Opened, Stored, Dropped, Cut, Uses}
use Rattle.record_text.specs.Spelling.{blob, cover, filled, metatile}

-- A metatile that is stored in version 1 has the moment 0 and no uses, and uses have no record.
abbrev pub IsOld : Record → Type 0
IsOld (Opened opening floor) = Unit {0}
IsOld (Stored number key place size moment uses) = (moment ≡ 0) × (uses ≡ 0)
IsOld (Dropped number key) = Unit {0}
IsOld (Cut number c) = Unit {0}
IsOld (Uses number key uses) = ⊥

-- the kind and the fields after it
abbrev pub old_fields : Record → List ℕ
old_fields (Opened opening floor) = 1 ∷ big_bytes 4 opening ++ big_bytes 8 floor
old_fields (Stored number key place size moment uses) = 2 ∷ big_bytes 8 number ++ metatile key ++ blob place size
old_fields (Dropped number key) = 3 ∷ big_bytes 8 number ++ metatile key
old_fields (Cut number c) = 4 ∷ big_bytes 8 number ++ cover c
old_fields (Uses number key uses) = []

-- the body of a record of version 1
abbrev pub old_spelling : Record → List ℕ
old_spelling entry = filled (old_fields entry)
