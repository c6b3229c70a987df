use Rattle.std.proofs.Common.{◌∙◌}
use Rattle.tile_service.proofs.Writing.{writes_answer, writes_front}
use Rattle.tile_service.proofs.one_line.run_line.Goals as goal

pub returns-in-Ok-clause-writes : goal.returns-in-Ok-clause-writes
returns-in-Ok-clause-writes g c =
    writes_answer _ _ _ _ 0 0 _ _ (g.C.Keeper.state c.args.counter.now.cabinet) c.args.counter.now.capabilities c.args.seats.now c.args.n c.args.line.now (g.C.Keeper.state c.perform.new.counter.cabinet) c.perform.new.seats _ (c.bytes-document.ensures ∙ c.in-Answers.ensures.capabilities) c.in-Answers.answer _ c.in-Ok.ensures.ok c.in-Answers.ensures.performs

pub returns-in-Err-clause-writes : goal.returns-in-Err-clause-writes
returns-in-Err-clause-writes g c =
    writes_front _ _ _ _ _ _ _ _ (g.C.Keeper.state c.args.counter.now.cabinet) c.args.counter.now.capabilities c.args.seats.now c.args.n c.args.line.now (g.C.Keeper.state c.perform.new.counter.cabinet) c.perform.new.seats _ (c.bytes-document.ensures ∙ c.in-Answers.ensures.capabilities) c.in-Answers.answer c.in-Err.ensures.err c.in-Err.ensures.cause.failed c.in-Answers.ensures.performs
