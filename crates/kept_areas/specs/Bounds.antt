-- The bounds of some keys.
use Rattle.std.specs.Prelude.{ℕ, ◌≡◌, ◌≤◌, ◌&&◌, Bool, false, nat_le, max, min, List, Option, Some, None}
use Rattle.std.specs.List.{AllByRecursion}
use Rattle.matrix_geometry.specs.declared.boxes.Range.{Range}
use Rattle.metatile_plan.specs.declared.metatile.MetaKey.{MetaKey}
use Rattle.truncation_list.specs.declared.cover.Cover.{Cover}
use Rattle.kept_areas.specs.declared.side.Side.{Side}
use Rattle.kept_areas.specs.declared.side.Sides.{Sides}
use Rattle.kept_areas.specs.declared.spot.KeptSpot.{KeptSpot}
use Rattle.kept_areas.specs.Areas.{least_in, lesser}

-- widened so that it has the number
abbrev pub widen : Side → ℕ → Side
widen s n = record { least = min s.least n; most = max s.most n }

abbrev pub widened : Sides → KeptSpot → Sides
widened b s =
    record {
      layer = widen b.layer s.meta.theme.layer;
      grid = widen b.grid s.meta.grid;
      z = widen b.z s.meta.z;
      row = widen b.row s.meta.row;
      col = widen b.col s.meta.col;
      number = lesser b.number s.number;
    }

-- the number lies between both
pub record IsOn (s : Side) (n : ℕ) : Type 0 where
  pub least : s.least ≤ n
  pub most : n ≤ s.most

pub record IsWithin (b : Sides) (m : MetaKey) : Type 0 where
  pub layer : IsOn b.layer m.theme.layer
  pub grid : IsOn b.grid m.grid
  pub z : IsOn b.z m.z
  pub row : IsOn b.row m.row
  pub col : IsOn b.col m.col

-- all keys are within the bounds, whose number is the least of theirs
pub record AreBounded (ss : List KeptSpot) (b : Sides) : Type 0 where
  pub within : AllByRecursion (λ s. IsWithin b s.meta) ss
  pub number : b.number ≡ least_in None ss

-- some layer, grid and zoom between the bounds is the cover's
abbrev pub is_near : Sides → Cover → Bool
is_near b cover =
    nat_le b.layer.least cover.layer && nat_le cover.layer b.layer.most && nat_le b.grid.least cover.grid && nat_le cover.grid b.grid.most && nat_le b.z.least cover.z_stop && nat_le cover.z_start b.z.most

-- some row and some column between the bounds is in reach
abbrev pub meets_sides : Option Range → Side → Side → Bool
meets_sides None rows cols = false
meets_sides (Some r) rows cols = nat_le r.row_min rows.most && nat_le rows.least r.row_max && nat_le r.col_min cols.most && nat_le cols.least r.col_max
