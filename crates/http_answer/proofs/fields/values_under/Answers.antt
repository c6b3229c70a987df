use Rattle.httparse.specs.Spans.{header_bytes}
use Rattle.http_answer.proofs.FieldValues.{several, first_value, other_name}
use Rattle.http_answer.proofs.fields.values_under.Goals as goal
use Rattle.http_answer.proofs.fields.values_under.Goals.{then-is_field+else-is_some, else-is_field}

pub returns-then-is_some : goal.returns-then-is_some
returns-then-is_some c = several c.args.name.now (header_bytes c.args.bytes.now) c.args.headers.now c.loop-header.header-index _ c.loop-header.found c.loop-header-test.true c.if-is_field.ensures c.if-is_some.ensures c.loop-header.invariant

pub loop-header-preserved : goal.loop-header-preserved
loop-header-preserved c =
    elim c.if-is_field.branch [
      | then-is_field+else-is_some w ↦ first_value c.args.name.now (header_bytes c.args.bytes.now) c.args.headers.now c.loop-header.header-index _ c.loop-header.found c.if-is_field.found w.of.result c.loop-header-test.true w.if-is_field.ensures w.if-is_some.ensures w.of.ensures w.found-is c.loop-header.invariant
      | else-is_field w ↦ other_name c.args.name.now (header_bytes c.args.bytes.now) c.args.headers.now c.loop-header.header-index _ c.loop-header.found c.if-is_field.found c.loop-header-test.true w.if-is_field.ensures w.found-is c.loop-header.invariant
    ]
