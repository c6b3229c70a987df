use Rattle.std.proofs.Common.{◌<◌, true, false, length, refl, Err, arith}
use Rattle.std.proofs.lemmas.Result.{err_from_is_err_and}
use Rattle.http_wire.proofs.TakesOn.{takes_none, takes_same, takes_more, handed_on}
use Rattle.http_wire.proofs.UpTo.{no_gain, same_gain, more_gain, ended_short, failed_short}
use Rattle.http_wire.proofs.filling.read_up_to.Goals as goal

pub returns-in_err-take_more : goal.returns-in_err-take_more
returns-in_err-take_more g c =
    let short : length c.reading.held.items < c.args.need = omega (arith, c.reading.held.ok.0, c.len.ensures, c.reading-test.true) in
    let p = err_from_is_err_and c.from_residual.result c.from_residual.ensures.1 in
    record {
      takes = handed_on p.1 p.2 (takes_more (Err _) c.reading.invariant.takes c.in_err-take_more.ensures.takes);
      brings = failed_short _ short c.in_err-take_more.ensures.brings p.1;
      untouched = λ fits. absurd (omega (arith, fits, short, c.reading.invariant.grown));
      gains = same_gain c.in_err-take_more.ensures.brings c.reading.invariant.gains;
    }

pub returns-then-not-branch : goal.returns-then-not-branch
returns-then-not-branch g c =
    let short : length c.reading.held.items < c.args.need = omega (arith, c.reading.held.ok.0, c.len.ensures, c.reading-test.true) in
    let ends = ended_short _ _ short c.if-not-branch.true c.in_ok-take_more.ensures.brings in
    record {
      takes = takes_same false (takes_more _ c.reading.invariant.takes c.in_ok-take_more.ensures.takes);
      brings = (ends.1, ends.2);
      untouched = λ fits. absurd (omega (arith, fits, short, c.reading.invariant.grown));
      gains = same_gain ends.0 c.reading.invariant.gains;
    }

pub returns : goal.returns
returns g c =
    record {
      takes = c.reading.invariant.takes;
      brings = omega (arith, c.reading.held.ok.0, c.len.ensures, c.reading-test.false);
      untouched = c.reading.invariant.untouched;
      gains = c.reading.invariant.gains;
    }

pub reading-init : goal.reading-init
reading-init g c = record { takes = takes_none _ _ _ _ true; grown = omega arith; gains = no_gain _ _; untouched = λ _. refl }

pub reading-preserved : goal.reading-preserved
reading-preserved g c =
    let short : length c.reading.held.items < c.args.need = omega (arith, c.reading.held.ok.0, c.len.ensures, c.reading-test.true) in
    let more = more_gain _ _ c.reading.invariant.gains short c.if-not-branch.false c.in_ok-take_more.ensures.brings in
    record {
      takes = takes_same true (takes_more _ c.reading.invariant.takes c.in_ok-take_more.ensures.takes);
      grown = omega (arith, more.0, c.reading.invariant.grown);
      gains = more.1;
      untouched = λ fits. absurd (omega (arith, fits, short, c.reading.invariant.grown));
    }
