-- The cuts of a zoom as they are aimed at its metatiles.
use Rattle.std.specs.Prelude.{ℕ, ◌≡◌, ◌<◌, ◌≤◌, ◌==◌, ◌&&◌, Bool, nat_le, if◌then◌else◌, List, [], ◌∷◌, ◌++◌, length, drop, Some, slice_get, ⊤}
use Rattle.std.specs.List.{AllByRecursion, list_any}
use Rattle.catalog.specs.declared.grid.Grid.{Grid}
use Rattle.catalog.specs.Valid.{IsGrid}
use Rattle.matrix_geometry.specs.Admits.{admits}
use Rattle.matrix_geometry.specs.Limits.{IsWithinLimits}
use Rattle.matrix_geometry.specs.Ranges.{is_in_some_range}
use Rattle.metatile_locks.specs.Reach.{reach}
use Rattle.metatile_locks.specs.Running.{IsPlanOn}
use Rattle.metatile_plan.specs.declared.metatile.MetaKey.{MetaKey}
use Rattle.metatile_plan.specs.Plan.{IsPlan}
use Rattle.truncation_list.specs.declared.book.Cut.{Cut}
use Rattle.truncation_list.specs.declared.cover.Cover.{Cover}
use Rattle.truncation_list.specs.Covers.{is_in_zoom}
use Rattle.cabinet_records.specs.declared.replay.aimed.AimedCut.{AimedCut}
use Rattle.cabinet_records.specs.declared.replay.aimed.Aims.{Aims}
use Rattle.cabinet_records.specs.declared.replay.aimed.Zoom.{Zoom}

-- the cover is for the layer, the grid and the zoom
abbrev pub is_for : Zoom → Cover → Bool
is_for at cover = (cover.layer == at.layer) && (cover.grid == at.grid) && is_in_zoom cover at.z

-- a cut with the metatiles of the zoom that its cover reaches
abbrev pub aimed_at : Zoom → Cut → AimedCut
aimed_at at cut = record { number = cut.number; reach = reach at.factors at.matrix cut.cover; filter = cut.cover.filter }

-- those of the cuts that are for the zoom, aimed at it, the last one first
abbrev pub last_aimed : Zoom → List Cut → List AimedCut
last_aimed at [] = []
last_aimed at (cut ∷ later) = if is_for at cut.cover then last_aimed at later ++ aimed_at at cut ∷ [] else last_aimed at later

-- the list has all cuts of its zoom among those that were looked at
pub record AreAimed (cuts : List Cut) (aims : Aims) : Type 0 where
  pub within : aims.left ≤ length cuts
  pub cuts_are : aims.cuts.items ≡ last_aimed aims.zoom (drop aims.left cuts)

-- the zoom's matrix is that of the grid, and its factors are within the limits on all of them
pub record IsZoomOn (grid : Grid) (at : Zoom) : Type 0 where
  pub grid_is : IsGrid grid
  pub plan : IsPlanOn at.factors grid
  pub matrix : slice_get grid.matrices at.z ≡ Some at.matrix

-- the metatile is one of the zoom, whose matrix and factors are within the limits
pub record IsOfZoom (at : Zoom) (m : MetaKey) : Type 0 where
  pub layer : m.theme.layer ≡ at.layer
  pub grid : m.grid ≡ at.grid
  pub z : m.z ≡ at.z
  pub limits : IsWithinLimits at.matrix
  pub plan : IsPlan at.factors at.matrix

-- an aimed cut hits a metatile of its zoom
abbrev pub is_aimed_at : AimedCut → MetaKey → Bool
is_aimed_at cut m = is_in_some_range cut.reach m.row m.col && admits cut.filter m.theme

-- one of this number or a greater one does
abbrev pub is_aimed_since : List AimedCut → ℕ → MetaKey → Bool
is_aimed_since cuts number m = list_any (λ cut. nat_le number cut.number && is_aimed_at cut m) cuts

-- each has a greater number than those behind it
abbrev pub NumbersFall : List AimedCut → Type 0
NumbersFall [] = ⊤
NumbersFall (cut ∷ cuts) = AllByRecursion (λ other. other.number < cut.number) cuts × NumbersFall cuts
