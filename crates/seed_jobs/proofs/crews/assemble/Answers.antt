use Rattle.std.proofs.Common.{arith, length, refl, ap, sym, ◌∙◌}
use Rattle.seed_jobs.proofs.Swapping.{handed, none_handed, none_swapped, one_longer, swapped}
use Rattle.seed_jobs.proofs.crews.assemble.Goals as goal

pub assembling-init : goal.assembling-init
assembling-init g c =
    let rest = c.into_iter-hand-iterator.ensures.into_iter_gives.0 in
    let many = ap length rest in
    let none = ap length c.requires.none in
    let enough = c.requires.enough in
    let room = c.requires.room in
    record {
      enough = omega (arith, many, enough);
      room = omega (arith, many, none, room);
      hands = none_handed g.S.Source.told g.S.Source.faults g.S.Source.gave c.args.crew.now.items _ _ c.requires.none rest;
      whole = none_swapped g.S.Source.told g.S.Source.faults g.S.Source.gave c.args.idle.now.items c.args.crew.now.items c.requires.none;
      same = (refl, refl);
    }

pub assembling-preserved : goal.assembling-preserved
assembling-preserved g c =
    let i = c.assembling.invariant in
    let next = c.in-Some.ensures.steps.0 in
    let popped = c.in-Some-pop.ensures.items in
    let pushed = c.push_reserved.ensures.items in
    let left = ap length next in
    let idle = one_longer c.assembling.idle.items c.pop.new.self.items c.in-Some-pop.field-0 popped in
    let crew = one_longer _ _ _ pushed in
    let enough = i.enough in
    let room = i.room in
    let capacity = c.push_reserved.ensures.capacity in
    record {
      enough = omega (arith, left, idle, enough);
      room = omega (arith, left, crew, capacity, room);
      hands = handed g.S.Source.told g.S.Source.faults g.S.Source.gave c.assembling.crew.items c.push_reserved.new.self.items _ c.assembling.hand-iterator.rest.items c.next.new.self.rest.items _ pushed next i.hands;
      whole = sym (swapped g.S.Source.told g.S.Source.faults g.S.Source.gave c.pop.new.self.items c.assembling.idle.items c.push_reserved.new.self.items c.assembling.crew.items c.in-Some-pop.field-0 _ pushed popped refl) ∙ i.whole;
      same = (c.push_reserved.ensures.capacity ∙ i.same.0, c.pop.ensures.capacity ∙ i.same.1);
    }
