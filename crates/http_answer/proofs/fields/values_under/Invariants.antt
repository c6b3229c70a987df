use Rattle.std.proofs.Common.{◌≡◌, take, map}
use Rattle.httparse.specs.Spans.{header_bytes}
use Rattle.http_answer.specs.Fields.{values}
use Rattle.http_answer.proofs.FieldValues.{listed}
use Rattle.http_answer.proofs.fields.values_under.Given as goal

-- the values so far are what was found
abbrev pub invariant-loop-header : goal.invariant-loop-header
invariant-loop-header l = values l.name (map (header_bytes l.bytes) (take l.header-index l.headers)) ≡ listed l.found
