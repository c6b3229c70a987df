use Rattle.std.proofs.Common.{◌≡◌, ◌*◌, ◌≤◌, take, sum_by}
use Rattle.job_forms.specs.Places.{places}
use Rattle.job_sizes.specs.Sizes.{place_bytes}
use Rattle.job_sizes.proofs.sizes.size_of.Given as goal

-- the bytes of the places before this one, each of which has fewer than 2^32
abbrev pub invariant-loop-place : goal.invariant-loop-place
invariant-loop-place l = record {
  bytes : l.bytes ≡ sum_by (place_bytes l.catalogue) (take l.place (places l.catalogue l.job));
  most : l.bytes ≤ l.place * 4294967295;
}
