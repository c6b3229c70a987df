use Rattle.std.proofs.Common.{◌≡◌, ◌<◌, length, slice_get}
use Rattle.std.specs.List.{flat_map}
use Rattle.job_forms.specs.Places.{metas_of, metas_on}
use Rattle.job_forms.proofs.ZoomSteps.{rest}
use Rattle.job_forms.proofs.zooms.meta_at.Given as goal

-- what is left of the place is that of the same metatile among those on the matrices that are left
abbrev pub invariant-zooms : goal.invariant-zooms
invariant-zooms l = record {
  within : l.left < length (flat_map (metas_on l.catalogue l.cover l.theme) (rest l.z l.end));
  same : slice_get (flat_map (metas_on l.catalogue l.cover l.theme) (rest l.z l.end)) l.left ≡ slice_get (metas_of l.catalogue l.cover l.theme) l.place;
}
