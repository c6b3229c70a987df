use Rattle.std.proofs.Common.{sym, ◌∙◌}
use Rattle.std.proofs.lemmas.Bool.{false≢true}
use Rattle.outbox.proofs.Packing.{reads_none, reads_out, reads_some}
use Rattle.outbox.proofs.reading.change_of.Goals as goal

pub returns-in-None : goal.returns-in-None
returns-in-None c = reads_none c.args.body.now c.decode-entry.result c.decode-entry.ensures c.in-None.ensures

pub returns-then-is_ranged : goal.returns-then-is_ranged
returns-then-is_ranged c = reads_some c.args.body.now c.decode-entry.result c.decode-entry.ensures (c.in-Some.number, c.in-Some.cover) c.in-Some.ensures (c.is_ranged.ensures.0 c.if-is_ranged.true)

pub returns-else-is_ranged : goal.returns-else-is_ranged
returns-else-is_ranged c =
    reads_out c.args.body.now c.decode-entry.result c.decode-entry.ensures (c.in-Some.number, c.in-Some.cover) c.in-Some.ensures (λ ranged. false≢true (sym c.if-is_ranged.false ∙ c.is_ranged.ensures.1 ranged))
