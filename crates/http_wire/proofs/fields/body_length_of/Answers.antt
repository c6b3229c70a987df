use Rattle.std.proofs.Common.{◌∙◌}
use Rattle.http_wire.proofs.FieldValues.{wrong_length, second_of, first_of, other_of}
use Rattle.http_wire.proofs.fields.body_length_of.Goals as goal
use Rattle.http_wire.proofs.fields.body_length_of.Goals.{then-is_field+in_ok-length+else-is_some, else-is_field}

pub returns-in_err-length : goal.returns-in_err-length
returns-in_err-length c =
    c.from_residual.ensures ∙ wrong_length c.args.bytes.now c.args.headers.now c.loop-header.header-index _ c.loop-header.found c.of.result.now c.loop-header-test.true c.if-is_field.ensures c.loop-header.invariant c.of.ensures c.in_err-length.ensures

pub returns-then-is_some : goal.returns-then-is_some
returns-then-is_some c = second_of c.args.bytes.now c.args.headers.now c.loop-header.header-index _ c.loop-header.found c.loop-header-test.true c.if-is_field.ensures c.loop-header.invariant c.if-is_some.ensures

pub loop-header-preserved : goal.loop-header-preserved
loop-header-preserved c =
    elim c.if-is_field.branch [
      | then-is_field+in_ok-length+else-is_some w ↦
          first_of c.args.bytes.now c.args.headers.now c.loop-header.header-index _ c.loop-header.found c.if-is_field.found w.in_ok-length.length w.of.result.now c.loop-header-test.true w.if-is_field.ensures c.loop-header.invariant w.if-is_some.ensures w.of.ensures w.in_ok-length.ensures w.found-is
      | else-is_field w ↦ other_of c.args.bytes.now c.args.headers.now c.loop-header.header-index _ c.loop-header.found c.if-is_field.found c.loop-header-test.true w.if-is_field.ensures c.loop-header.invariant w.found-is
    ]
