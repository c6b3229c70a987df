use Rattle.std.proofs.Common.{arith, ap, ◌+◌, ℕ}
use Rattle.job_forms.specs.Places.{places}
use Rattle.job_sizes.proofs.Adding.{sum_next}
use Rattle.job_sizes.specs.Sizes.{place_bytes}
use Rattle.job_sizes.proofs.sizes.size_of.Goals as goal

pub loop-place-preserved : goal.loop-place-preserved
loop-place-preserved c =
    let next = sum_next (place_bytes c.args.catalogue.now) (places c.args.catalogue.now c.args.job.now) c.loop-place.place c.bytes_at.result (omega (arith, c.loop-place-test.true, c.count-places.ensures.places)) c.bytes_at.ensures in
    record {
      bytes = rw next (rw c.from-bytes.ensures (ap (λ (n : ℕ). n + c.bytes_at.result) c.loop-place.invariant.bytes));
      most = omega (arith, c.loop-place.invariant.most, c.from-bytes.ensures);
    }
