use Rattle.std.proofs.Common.{false, inr, refl, subst}
use Rattle.std.specs.Io.KnownBytes.{Appends}
use Rattle.tile_requests.specs.Response.{framed, response_text}
use Rattle.tile_requests.specs.Sent.{AppendsFront}
use Rattle.tile_service.proofs.answer.write_answer.Goals as goal

pub returns-in-Ok-send_answer-2-clause-ok : goal.returns-in-Ok-send_answer-2-clause-ok
returns-in-Ok-send_answer-2-clause-ok g c =
    inr (c.in-Err.ensures.made, (refl, subst (λ p. Appends (g.O.ByteSink.taken c.args.output.now) (g.O.ByteSink.taken c.send_answer-in-Err.new.output) (framed c.args.line c.args.answer.now.actor c.args.answer.now.start (response_text false p))) c.bare.ensures c.in-Ok-send_answer-2.ensures.ok))

pub returns-clause-err : goal.returns-clause-err
returns-clause-err g c =
    inr (c.in-Err.ensures.made, subst (λ p. AppendsFront (g.O.ByteSink.taken c.args.output.now) (g.O.ByteSink.taken c.send_answer-in-Err.new.output) (framed c.args.line c.args.answer.now.actor c.args.answer.now.start (response_text false p))) c.bare.ensures c.in-Err-send_answer-2.ensures.err)
