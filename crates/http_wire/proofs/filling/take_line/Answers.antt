use Rattle.std.proofs.Common.{arith, ◌≡◌, true, false, ℕ, List, length, ap, Err}
use Rattle.std.proofs.lemmas.Result.{err_from_is_err_and}
use Rattle.http_wire.proofs.TakesOn.{takes_same, takes_more, handed_on}
use Rattle.http_wire.proofs.Searched.{still_blank, first_piece, next_piece, line_found, ended_behind, ended_before, failed_behind, failed_before}
use Rattle.http_wire.proofs.filling.take_line.Goals as goal

-- THE FIRST TAKE

pub returns-in_err-take_more-clause-takes : goal.returns-in_err-take_more-clause-takes
returns-in_err-take_more-clause-takes g c =
    let p = err_from_is_err_and c.from_residual.result c.from_residual.ensures.1 in handed_on p.1 p.2 c.in_err-take_more.ensures.takes

pub returns-in_err-take_more-clause-brings : goal.returns-in_err-take_more-clause-brings
returns-in_err-take_more-clause-brings g c =
    let p = err_from_is_err_and c.from_residual.result c.from_residual.ensures.1 in failed_before _ _ _ _ _ c.in_err-take_more.ensures.brings p.1

pub returns-then-not-branch-clause-takes : goal.returns-then-not-branch-clause-takes
returns-then-not-branch-clause-takes g c = takes_same false c.in_ok-take_more.ensures.takes

pub returns-then-not-branch-clause-brings : goal.returns-then-not-branch-clause-brings
returns-then-not-branch-clause-brings g c = ended_before _ _ _ _ c.if-not-branch.true c.in_ok-take_more.ensures.brings

-- THE TAKES AFTER IT
-- Whether a head may end in the last piece was asked before: it couldn't, so that none has ended in the bytes so far.

pub returns-in_err-take_more-2-clause-takes : goal.returns-in_err-take_more-2-clause-takes
returns-in_err-take_more-2-clause-takes g c =
    let p = err_from_is_err_and c.from_residual-in_err-take_more-2.result c.from_residual-in_err-take_more-2.ensures.1 in handed_on p.1 p.2 (takes_more (Err _) c.line.invariant.takes c.in_err-take_more-2.ensures.takes)

pub returns-in_err-take_more-2-clause-brings : goal.returns-in_err-take_more-2-clause-brings
returns-in_err-take_more-2-clause-brings g c =
    let p = err_from_is_err_and c.from_residual-in_err-take_more-2.result c.from_residual-in_err-take_more-2.ensures.1 in
    failed_behind _ c.line.held.items _ _ _ _ _ _ _ c.line.invariant.searched c.as_slice-in-line.ensures.value (c.may_end_head.ensures c.if-not-may_end_head.true) c.in_err-take_more-2.ensures.brings p.1

pub returns-then-not-branch-2-clause-takes : goal.returns-then-not-branch-2-clause-takes
returns-then-not-branch-2-clause-takes g c = takes_same true (takes_more _ c.line.invariant.takes c.in_ok-take_more-2.ensures.takes)

pub returns-then-not-branch-2-clause-brings : goal.returns-then-not-branch-2-clause-brings
returns-then-not-branch-2-clause-brings g c =
    ended_behind _ c.line.held.items _ _ _ _ _ _ c.line.invariant.searched c.as_slice-in-line.ensures.value (c.may_end_head.ensures c.if-not-may_end_head.true) c.if-not-branch-2.true c.in_ok-take_more-2.ensures.brings

pub returns-after-line-clause-takes : goal.returns-after-line-clause-takes
returns-after-line-clause-takes g c = c.line.invariant.takes

pub returns-after-line-clause-brings : goal.returns-after-line-clause-brings
returns-after-line-clause-brings g c = line_found _ _ _ _ c.line.invariant.searched

pub returns-else-not-may_end_head-clause-takes : goal.returns-else-not-may_end_head-clause-takes
returns-else-not-may_end_head-clause-takes g c = c.line.invariant.takes

pub returns-else-not-may_end_head-clause-brings : goal.returns-else-not-may_end_head-clause-brings
returns-else-not-may_end_head-clause-brings g c = line_found _ _ _ _ c.line.invariant.searched

-- THE LOOP

pub may_end_head-requires : goal.may_end_head-requires
may_end_head-requires g c =
    let same = c.as_slice-in-line.ensures.value in
    omega (arith, c.line.invariant.searched.so_far, ap (λ (l : List ℕ). length l) same)

pub blank_front-blank-requires-in-line-clause-blank : goal.blank_front-blank-requires-in-line-clause-blank
blank_front-blank-requires-in-line-clause-blank g c =
    still_blank c.line.blank c.line.held.items _ _ _ _ c.as_slice-in-line-2.ensures.value c.if-not-branch-2.false c.in_ok-take_more-2.ensures.brings c.line.invariant.searched.within c.line.invariant.searched.is_blank

pub line-init : goal.line-init
line-init g c =
    let at : c.len-seen.result ≡ length c.args.held.now.items = omega (arith, c.len-seen.ensures, c.args.held.now.ok.0) in
    record {
      takes = takes_same true c.in_ok-take_more.ensures.takes;
      searched = first_piece _ _ _ _ _ _ _ c.if-not-branch.false c.in_ok-take_more.ensures.brings at c.as_slice-2.ensures.value c.blank_front-blank-2.ensures.within c.blank_front-blank-2.ensures.blank;
    }

pub line-preserved : goal.line-preserved
line-preserved g c =
    let at : c.len-seen-in-line.result ≡ length c.line.held.items = omega (arith, c.len-seen-in-line.ensures, c.line.held.ok.0) in
    record {
      takes = takes_same true (takes_more _ c.line.invariant.takes c.in_ok-take_more-2.ensures.takes);
      searched = next_piece c.args.held.now.items c.line.held.items c.take_more-in-line.new.held.items c.as_slice-in-line.result.now c.as_slice-in-line-2.result.now _ c.in_ok-take_more-2.field-0 c.line.seen c.line.blank c.blank_front-blank-in-line.result c.len-seen-in-line.result c.line.invariant.searched c.as_slice-in-line.ensures.value (c.may_end_head.ensures c.if-not-may_end_head.true) c.if-not-branch-2.false c.in_ok-take_more-2.ensures.brings at c.as_slice-in-line-2.ensures.value c.blank_front-blank-in-line.ensures.grows c.blank_front-blank-in-line.ensures.within c.blank_front-blank-in-line.ensures.blank;
    }
