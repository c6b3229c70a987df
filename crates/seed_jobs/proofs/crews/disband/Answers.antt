use Rattle.std.proofs.Common.{arith, refl, ◌∙◌}
use Rattle.seed_jobs.proofs.Swapping.{one_longer, swapped}
use Rattle.seed_jobs.proofs.crews.disband.Goals as goal

pub disbanding-preserved : goal.disbanding-preserved
disbanding-preserved g c =
    let i = c.disbanding.invariant in
    let popped = c.in-Some.ensures.items in
    let pushed = c.push_reserved.ensures.items in
    let crew = one_longer c.disbanding.crew.items c.pop.new.self.items c.in-Some.member popped in
    let idle = one_longer _ _ _ pushed in
    let room = i.room in
    let capacity = c.push_reserved.ensures.capacity in
    record {
      room = omega (arith, crew, idle, capacity, room);
      whole = swapped g.S.Source.told g.S.Source.faults g.S.Source.gave c.disbanding.idle.items c.push_reserved.new.self.items c.disbanding.crew.items c.pop.new.self.items _ c.in-Some.member popped pushed refl ∙ i.whole;
      same = (c.pop.ensures.capacity ∙ i.same.0, c.push_reserved.ensures.capacity ∙ i.same.1);
    }
