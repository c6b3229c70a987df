use Rattle.std.proofs.Common.{subst, sym, ◌∙◌}
use Rattle.std.proofs.lemmas.Bool.{false≢true}
use Rattle.record_text.proofs.Older.{IsDecodedNew, old_none, old_other, old_some}
use Rattle.record_text.proofs.reading.decode_old.Goals as goal

pub returns-in-None : goal.returns-in-None
returns-in-None c = old_none c.args.body.now (subst (IsDecodedNew c.args.body.now) c.in-None.is c.decode.ensures)

pub returns-then-is_old : goal.returns-then-is_old
returns-then-is_old c =
    old_some c.args.body.now c.in-Some.entry (subst (IsDecodedNew c.args.body.now) c.in-Some.is c.decode.ensures) (c.is_old.ensures.0 c.if-is_old.true)

pub returns-else-is_old : goal.returns-else-is_old
returns-else-is_old c =
    old_other c.args.body.now c.in-Some.entry (subst (IsDecodedNew c.args.body.now) c.in-Some.is c.decode.ensures) (λ old. false≢true (sym c.if-is_old.false ∙ c.is_old.ensures.1 old))
