use Rattle.seed_jobs.proofs.Heard.{alike_all, ended_all, theirs_of}
use Rattle.seed_jobs.proofs.gathering.gather.Goals as goal

pub gather_in-requires : goal.gather_in-requires
gather_in-requires g c = record { own = theirs_of g.S.Source.told g.S.Source.faults g.S.Source.gave c.args.sheet.now c.args.crew.now c.in-Some.others.now c.in-Some.first.now c.in-Some.ensures.cases.0 c.requires.own }

pub returns-clause-alike : goal.returns-clause-alike
returns-clause-alike g c =
    alike_all g.S.Source.told g.S.Source.faults g.S.Source.gave c.args.crew.now c.in-Some.others.now c.gather_in.new.others c.in-Some.first.now c.gather_in.new.first c.in-Some.ensures.cases.0 c.gather_in.ensures.same c.gather_in.ensures.alike

pub returns-clause-ended : goal.returns-clause-ended
returns-clause-ended g c =
    ended_all g.S.Source.told g.S.Source.faults g.S.Source.gave c.args.sheet.now c.args.crew.now c.in-Some.others.now c.gather_in.new.others c.in-Some.first.now c.gather_in.new.first c.gather_in.result c.in-Some.ensures.cases.0 c.gather_in.ensures.same c.gather_in.ensures.ended
