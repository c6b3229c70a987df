use Rattle.std.proofs.Common.{sym, ◌∙◌, arith}
use Rattle.exception_report.proofs.Escapes.{with_byte, with_noncharacter, at_the_end}
use Rattle.exception_report.proofs.escape.escape_onto.Goals as goal

pub loop-rest-preserved-then-begins_with_noncharacter :
    goal.loop-rest-preserved-then-begins_with_noncharacter
loop-rest-preserved-then-begins_with_noncharacter c =
    rw (c.in_ok-extend_from_slice.ensures.items)
    (with_noncharacter _ _ _ _ (omega arith) (sym c.begins_with_noncharacter.ensures ∙ c.if-begins_with_noncharacter.true) c.loop-rest.invariant)

pub loop-rest-preserved : goal.loop-rest-preserved
loop-rest-preserved c =
    rw (c.in_ok-push_escaped.ensures)
    (with_byte _ _ _ _ (omega arith) c.in-len1-up.len_at_least (sym c.begins_with_noncharacter.ensures ∙ c.if-begins_with_noncharacter.false) c.loop-rest.invariant)

pub returns : goal.returns
returns c = at_the_end _ _ _ c.in_default.len_below c.loop-rest.invariant
