use Rattle.std.proofs.Common.{arith}
use Rattle.job_requests.proofs.Looking.{no_memory, one_more}
use Rattle.job_requests.proofs.listing.statuses.Goals as goal

pub returns-in_default-add_status-clause-serves : goal.returns-in_default-add_status-clause-serves
returns-in_default-add_status-clause-serves g c = no_memory c.looking.number c.looking.text.items c.in-Some.status c.args.pass.now c.looking.pass c.look.new.pass c.looking.invariant.looked c.in-Some.ensures.look

pub looking-preserved : goal.looking-preserved
looking-preserved g c = record {
  of = c.look.ensures.of;
  looked = one_more c.looking.number c.looking.text.items c.add_status.new.text.items c.in-Some.status c.args.pass.now c.looking.pass c.look.new.pass (omega (arith, c.looking-test.true)) c.looking.invariant.looked c.in-Some.ensures.look c.in-Ok.ensures;
}
