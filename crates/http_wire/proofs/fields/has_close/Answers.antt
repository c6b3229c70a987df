use Rattle.http_wire.proofs.FieldValues.{close_at}
use Rattle.http_wire.proofs.fields.has_close.Goals as goal

pub returns-then-is_same : goal.returns-then-is_same
returns-then-is_same c = close_at c.args.bytes.now c.args.headers.now c.loop-header.header-index _ c.of.result.now c.loop-header-test.true c.if-is_field.ensures c.of.ensures c.if-is_same.ensures
