use Rattle.std.proofs.Common.{arith, ◌∙◌}
use Rattle.seed_jobs.proofs.Putting.{one_put}
use Rattle.seed_jobs.proofs.Swapping.{one_longer}
use Rattle.seed_jobs.proofs.runner.put_passes.Goals as goal

pub putting-preserved : goal.putting-preserved
putting-preserved g c =
    let i = c.putting.invariant in
    let member = c.in-Some.member in
    let left = one_longer c.putting.idle.items c.pop.new.self.items member c.in-Some.ensures.items in
    let more = one_longer c.push_reserved.new.self.items c.putting.passes.items member.pass c.push_reserved.ensures.items in
    let count = i.count in
    record {
      items = one_put g.S.Source.told g.S.Source.faults g.S.Source.gave c.putting.passes.items c.push_reserved.new.self.items _ c.putting.idle.items c.pop.new.self.items member c.in-Some.ensures.items c.push_reserved.ensures.items i.items;
      count = omega (arith, left, more, count);
      room = c.push_reserved.ensures.capacity ∙ i.room;
    }
