use Rattle.std.proofs.Common.{true, Err, subst, arith}
use Rattle.std.proofs.lemmas.Result.{err_from_is_err_and}
use Rattle.http_wire.specs.Looks.{MayHaveHead}
use Rattle.http_wire.proofs.TakesOn.{takes_same, takes_none, takes_more, handed_on}
use Rattle.http_wire.proofs.HeadFound.{found_at_end, found_late, none_found, line_grows}
use Rattle.http_wire.proofs.filling.read_on.Goals as goal

pub returns-in_err-take_line-clause-takes : goal.returns-in_err-take_line-clause-takes
returns-in_err-take_line-clause-takes g c =
    let p = err_from_is_err_and c.from_residual.result c.from_residual.ensures.1 in handed_on p.1 p.2 (takes_more (Err _) c.reading.invariant.takes c.in_err-take_line.ensures.takes)

pub returns-in_err-take_line-clause-finds : goal.returns-in_err-take_line-clause-finds
returns-in_err-take_line-clause-finds g c =
    let p = err_from_is_err_and c.from_residual.result c.from_residual.ensures.1 in none_found c.reading.held.items _ _ _ _ _ c.reading.invariant.unsettled c.in_err-take_line.ensures.brings p.1

pub returns-then-not-branch-clause-takes : goal.returns-then-not-branch-clause-takes
returns-then-not-branch-clause-takes g c = takes_same _ (takes_more _ c.reading.invariant.takes c.in_ok-take_line.ensures.takes)

pub returns-then-not-branch-clause-finds : goal.returns-then-not-branch-clause-finds
returns-then-not-branch-clause-finds g c =
    found_at_end c.reading.held.items _ _ _ _ _ c.reading.invariant.unsettled c.if-not-branch.true c.in_ok-take_line.ensures.brings c.as_slice.ensures.value c.at_end.ensures

pub returns-in-Some-clause-takes : goal.returns-in-Some-clause-takes
returns-in-Some-clause-takes g c = takes_same _ (takes_more _ c.reading.invariant.takes c.in_ok-take_line.ensures.takes)

pub returns-in-Some-clause-finds : goal.returns-in-Some-clause-finds
returns-in-Some-clause-finds g c =
    found_late c.reading.held.items _ _ _ _ _ _ c.reading.invariant.unsettled c.if-not-branch.false c.in_ok-take_line.ensures.brings c.as_slice-in-reading.ensures.value c.in-Some.ensures

pub reading-init : goal.reading-init
reading-init g c = record { unsettled = c.requires.unsettled; takes = takes_none _ _ _ _ true }

pub reading-preserved : goal.reading-preserved
reading-preserved g c =
    record {
      unsettled = subst MayHaveHead c.as_slice-in-reading.ensures.value c.in_default.ensures;
      takes = takes_same true (takes_more _ c.reading.invariant.takes c.in_ok-take_line.ensures.takes);
    }

pub reading-smaller : goal.reading-smaller
reading-smaller g c =
    let grows = line_grows c.reading.held.items _ _ _ c.if-not-branch.false c.in_ok-take_line.ensures.brings in omega (arith, grows, c.reading.invariant.unsettled.short)
