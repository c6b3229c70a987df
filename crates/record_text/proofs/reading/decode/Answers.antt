use Rattle.std.proofs.Common.{◌∙◌, sym, subst}
use Rattle.std.specs.Cmp.Lexicographic.{same_text}
use Rattle.record_text.proofs.Decoded.{IsDecoded, decoded_none, decoded_other, decoded_some, other_bytes}
use Rattle.record_text.proofs.reading.decode.Goals as goal

pub returns-in_err-entry : goal.returns-in_err-entry
returns-in_err-entry c = subst (IsDecoded c.args.body.now) (sym c.from_residual.ensures) (decoded_none c.args.body.now (sym c.in_err-entry.ensures.value))

pub returns-then-eq : goal.returns-then-eq
returns-then-eq c =
    decoded_some c.args.body.now c.in_ok-entry.entry (sym c.in_ok-entry.ensures.value) c.in_ok-entry.ensures.fits (sym c.encode.ensures ∙ same_text c.encode.result c.args.body.now c.if-eq.ensures)

pub returns-else-eq : goal.returns-else-eq
returns-else-eq c =
    decoded_other c.args.body.now c.in_ok-entry.entry (sym c.in_ok-entry.ensures.value) (λ same. other_bytes c.encode.result c.args.body.now c.if-eq.ensures (c.encode.ensures ∙ same))
