use Rattle.std.proofs.Common.{◌≡◌, ◌+◌, ◌-◌, ◌*◌, ◌^◌, ◌≤◌, length}
use Rattle.std.specs.List.{flat_map}
use Rattle.matrix_geometry.specs.declared.theme.Theme.{Theme}
use Rattle.job_forms.specs.Places.{metas_of, metas_on}
use Rattle.job_forms.proofs.ZoomSteps.{rest}
use Rattle.job_forms.proofs.zooms.how_many_each.Given as goal

-- those counted, and those on the matrices that are left, are all; the count has room for these
abbrev pub invariant-zooms : goal.invariant-zooms
invariant-zooms l = record {
  each : (theme : Theme) → length (metas_of l.catalogue l.cover theme) ≡ l.all + length (flat_map (metas_on l.catalogue l.cover theme) (rest l.z l.end));
  most : l.all + (l.end - l.z) * 2 ^ 62 ≤ 30 * 2 ^ 62;
}
