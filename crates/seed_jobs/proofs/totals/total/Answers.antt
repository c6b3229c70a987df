use Rattle.std.proofs.Common.{arith, ap}
use Rattle.seed_jobs.proofs.Sums.{fits}
use Rattle.seed_jobs.proofs.totals.total.Goals as goal

pub overflow_add-places : goal.overflow_add-places
overflow_add-places g c =
    let all = fits (λ t. t.places) c.args.crew.now c.requires.size (λ k d below. (c.requires.few k d below).places) c.adding.member-index c.member-item.result c.adding-test.true in
    let item = ap (λ m. m.tally.places) c.member-item.is in
    rw c.adding.invariant.0 (rw item (omega (arith, all)))

pub overflow_add-done : goal.overflow_add-done
overflow_add-done g c =
    let all = fits (λ t. t.done) c.args.crew.now c.requires.size (λ k d below. (c.requires.few k d below).done) c.adding.member-index c.member-item.result c.adding-test.true in
    let item = ap (λ m. m.tally.done) c.member-item.is in
    rw c.adding.invariant.1 (rw item (omega (arith, all)))

pub overflow_add-failed : goal.overflow_add-failed
overflow_add-failed g c =
    let all = fits (λ t. t.failed) c.args.crew.now c.requires.size (λ k d below. (c.requires.few k d below).failed) c.adding.member-index c.member-item.result c.adding-test.true in
    let item = ap (λ m. m.tally.failed) c.member-item.is in
    rw c.adding.invariant.2 (rw item (omega (arith, all)))

pub overflow_add-unkept : goal.overflow_add-unkept
overflow_add-unkept g c =
    let all = fits (λ t. t.unkept) c.args.crew.now c.requires.size (λ k d below. (c.requires.few k d below).unkept) c.adding.member-index c.member-item.result c.adding-test.true in
    let item = ap (λ m. m.tally.unkept) c.member-item.is in
    rw c.adding.invariant.3 (rw item (omega (arith, all)))
