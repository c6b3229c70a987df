-- Which records have numbers that fit their fields.
use Rattle.std.specs.Prelude.{◌≡◌, ◌<◌, ◌^◌, length, map, IfSome, FitsSigned}
use Rattle.std.specs.Int.{w64}
use Rattle.std.specs.List.{AllByRecursion}
use Rattle.matrix_geometry.specs.declared.boxes.Box9.{Box9}
use Rattle.matrix_geometry.specs.declared.theme.Filter.{Filter}
use Rattle.matrix_geometry.specs.declared.theme.Theme.{Theme}
use Rattle.metatile_plan.specs.declared.metatile.MetaKey.{MetaKey}
use Rattle.truncation_list.specs.declared.cover.Cover.{Cover}
use Rattle.record_text.specs.declared.entries.Record.{Record}
use Rattle.record_text.specs.declared.entries.Record.TheVariants.{Opened, Stored, Dropped, Cut, Uses}
use Rattle.record_text.specs.Spelling.{wanted}

pub record FitsTheme (t : Theme) : Type 0 where
  pub layer : t.layer < 2 ^ 16
  pub style : t.style < 2 ^ 8
  pub four : length t.dims ≡ 4
  pub values : AllByRecursion (λ v. v < 2 ^ 16) t.dims

pub record FitsMetatile (m : MetaKey) : Type 0 where
  pub theme : FitsTheme m.theme
  pub grid : m.grid < 2 ^ 8
  pub z : m.z < 2 ^ 8
  pub row : m.row < 2 ^ 32
  pub col : m.col < 2 ^ 32

pub record FitsBox (b : Box9) : Type 0 where
  pub min_x : FitsSigned w64 b.min_x
  pub min_y : FitsSigned w64 b.min_y
  pub max_x : FitsSigned w64 b.max_x
  pub max_y : FitsSigned w64 b.max_y

pub record FitsFilter (f : Filter) : Type 0 where
  pub style : wanted f.style < 2 ^ 8
  pub four : length f.dims ≡ 4
  pub values : AllByRecursion (λ v. v < 2 ^ 16) (map wanted f.dims)

pub record FitsCover (c : Cover) : Type 0 where
  pub layer : c.layer < 2 ^ 16
  pub grid : c.grid < 2 ^ 8
  pub z_start : c.z_start < 2 ^ 8
  pub z_stop : c.z_stop < 2 ^ 8
  pub bounds : IfSome c.bounds FitsBox
  pub filter : FitsFilter c.filter

abbrev pub Fits : Record → Type 0
Fits (Opened opening floor) = (opening < 2 ^ 32) × (floor < 2 ^ 64)
Fits (Stored number key place size moment uses) =
    (number < 2 ^ 64) × FitsMetatile key × (place < 2 ^ 64) × (size < 2 ^ 32) × (moment < 2 ^ 64) × (uses < 2 ^ 64)
Fits (Dropped number key) = (number < 2 ^ 64) × FitsMetatile key
Fits (Cut number c) = (number < 2 ^ 64) × FitsCover c
Fits (Uses number key uses) = (number < 2 ^ 64) × FitsMetatile key × (uses < 2 ^ 64)
