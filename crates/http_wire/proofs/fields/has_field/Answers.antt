use Rattle.std.proofs.Common.{sym}
use Rattle.http_wire.proofs.FieldValues.{any_at}
use Rattle.http_wire.specs.Fields.{is_named}
use Rattle.httparse.specs.Spans.{header_bytes}
use Rattle.http_wire.proofs.fields.has_field.Goals as goal

pub returns-then-is_field : goal.returns-then-is_field
returns-then-is_field c = any_at (is_named c.args.name.now) (header_bytes c.args.bytes.now) c.args.headers.now c.loop-header.header-index _ c.loop-header-test.true (sym c.if-is_field.ensures)
