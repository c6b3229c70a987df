-- What the bytes of a body say at the place of each field, whether or not the body is a spelling.
use Rattle.std.specs.Prelude.{ℕ, zero, suc, ◌+◌, ◌==◌, ℤ, if◌then◌else◌, List, [], ◌∷◌, drop, map, slice_index, Option, Some, None}
use Rattle.std.specs.Int.{w64, cast_signed}
use Rattle.byteorder.specs.Endian.{big_number}
use Rattle.matrix_geometry.specs.declared.boxes.Box9.{Box9}
use Rattle.matrix_geometry.specs.declared.theme.Filter.{Filter}
use Rattle.metatile_plan.specs.declared.metatile.MetaKey.{MetaKey}
use Rattle.truncation_list.specs.declared.cover.Cover.{Cover}
use Rattle.record_text.specs.declared.entries.Record.{Record}
use Rattle.record_text.specs.declared.entries.Record.TheVariants.{Opened, Stored, Dropped, Cut, Uses}

-- the number in so many bytes from a place
abbrev pub number_at : ℕ → ℕ → List ℕ → ℕ
number_at width at bytes = big_number width (drop at bytes)

abbrev pub values_at : ℕ → List ℕ → List ℕ
values_at at bytes =
    number_at 2 at bytes ∷ number_at 2 (at + 2) bytes ∷ number_at 2 (at + 4) bytes ∷ number_at 2 (at + 6) bytes ∷ []

unfoldable pub metatile_at : ℕ → List ℕ → MetaKey
metatile_at at bytes =
    record {
      theme = record { layer = number_at 2 at bytes; style = number_at 1 (at + 2) bytes; dims = values_at (at + 3) bytes };
      grid = number_at 1 (at + 11) bytes;
      z = number_at 1 (at + 12) bytes;
      row = number_at 4 (at + 13) bytes;
      col = number_at 4 (at + 17) bytes;
    }

abbrev pub coordinate_at : ℕ → List ℕ → ℤ
coordinate_at at bytes = cast_signed w64 (number_at 8 at bytes)

abbrev pub box_at : ℕ → List ℕ → Box9
box_at at bytes =
    record {
      min_x = coordinate_at at bytes;
      min_y = coordinate_at (at + 8) bytes;
      max_x = coordinate_at (at + 16) bytes;
      max_y = coordinate_at (at + 24) bytes;
    }

unfoldable pub bounds_at : ℕ → List ℕ → Option Box9
bounds_at at bytes = if number_at 1 at bytes == 1 then Some (box_at (at + 1) bytes) else None

-- 0 says any, and each other number the one before it
abbrev pub wanted_of : ℕ → Option ℕ
wanted_of zero = None
wanted_of (suc number) = Some number

unfoldable pub filter_at : ℕ → List ℕ → Filter
filter_at at bytes = record { style = wanted_of (number_at 1 at bytes); dims = map wanted_of (values_at (at + 1) bytes) }

unfoldable pub cover_at : ℕ → List ℕ → Cover
cover_at at bytes =
    record {
      layer = number_at 2 at bytes;
      grid = number_at 1 (at + 2) bytes;
      z_start = number_at 1 (at + 3) bytes;
      z_stop = number_at 1 (at + 4) bytes;
      bounds = bounds_at (at + 5) bytes;
      filter = filter_at (at + 38) bytes;
    }

unfoldable pub entry_of : List ℕ → Option Record
entry_of bytes =
    if slice_index bytes 0 == 1 then Some (Opened (number_at 4 1 bytes) (number_at 8 5 bytes))
    else if slice_index bytes 0 == 2 then Some (Stored (number_at 8 1 bytes) (metatile_at 9 bytes) (number_at 8 33 bytes) (number_at 4 41 bytes) (number_at 8 45 bytes) (number_at 8 53 bytes))
    else if slice_index bytes 0 == 3 then Some (Dropped (number_at 8 1 bytes) (metatile_at 9 bytes))
    else if slice_index bytes 0 == 4 then Some (Cut (number_at 8 1 bytes) (cover_at 9 bytes))
    else if slice_index bytes 0 == 5 then Some (Uses (number_at 8 1 bytes) (metatile_at 9 bytes) (number_at 8 33 bytes))
    else None
