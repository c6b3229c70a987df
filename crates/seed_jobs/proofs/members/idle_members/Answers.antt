use Rattle.std.proofs.Common.{arith, rules}
use Rattle.seed_jobs.proofs.Pairing.{none_alike, none_join, one_alike, one_paired}
use Rattle.seed_jobs.proofs.Swapping.{one_longer}
use Rattle.seed_jobs.proofs.members.idle_members.Goals as goal

pub pairing-init : goal.pairing-init
pairing-init g c =
    record {
      sources = c.requires.sources;
      gates = c.requires.gates;
      some = omega arith;
      first = λ p alike. (alike, none_alike g.S.Source.told g.S.Source.faults g.S.Source.gave p c.new-members.result.items (search rules));
      of = λ table cat told of_hall marks renders. record { of_hall = of_hall; marks = marks; renders = renders; join = none_join g.S.Source.told g.S.Source.faults g.S.Source.gave table cat told c.new-members.result.items (search rules) };
    }

pub pairing-preserved : goal.pairing-preserved
pairing-preserved g c =
    let i = c.pairing.invariant in
    let passes = one_longer c.pairing.passes.items c.pop.new.self.items c.in-Some.pass c.in-Some.ensures.items in
    let sources = one_longer c.pairing.sources.items c.pop-in-Some.new.self.items c.in-Some-pop.source c.in-Some-pop.ensures.items in
    let gates = one_longer c.pairing.gates.items c.pop-in-Some-2.new.self.items c.in-Some-pop-2.gate c.in-Some-pop-2.ensures.items in
    let members = one_longer c.push.new.self.items c.pairing.members.items _ c.in_ok-push.ensures.items in
    let i_sources = i.sources in
    let i_gates = i.gates in
    let some = i.some in
    record {
      sources = omega (arith, passes, sources, i_sources);
      gates = omega (arith, passes, gates, i_gates);
      some = omega (arith, passes, members, some);
      first = λ p alike. one_alike g.S.Source.told g.S.Source.faults g.S.Source.gave p c.pairing.passes.items c.pop.new.self.items c.pairing.members.items c.push.new.self.items _ c.in-Some.ensures.items c.in_ok-push.ensures.items (i.first p alike);
      of = λ table cat told of_hall marks renders. one_paired g.S.Source.told g.S.Source.faults g.S.Source.gave table cat told c.pairing.passes.items c.pop.new.self.items c.pairing.sources.items c.pop-in-Some.new.self.items c.pairing.members.items c.push.new.self.items _ c.in-Some.ensures.items c.in-Some-pop.ensures.items c.in_ok-push.ensures.items (i.of table cat told of_hall marks renders);
    }

pub returns-clause-join : goal.returns-clause-join
returns-clause-join g c = λ table cat told of_hall marks renders. (c.pairing.invariant.of table cat told of_hall marks renders).join

pub returns-clause-first : goal.returns-clause-first
returns-clause-first g c = λ p alike. (c.pairing.invariant.first p alike).1
