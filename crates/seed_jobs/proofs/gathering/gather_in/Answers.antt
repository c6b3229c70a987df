use Rattle.std.proofs.Common.{suc, arith}
use Rattle.seed_jobs.specs.Crews.{hands_of}
use Rattle.seed_jobs.specs.Members.{workers_of}
use Rattle.seed_jobs.proofs.Heard.{ended_by, shared_by}
use Rattle.seed_jobs.proofs.gathering.gather_in.Goals as goal

pub hear-watch-requires-clause-theirs : goal.hear-watch-requires-clause-theirs
hear-watch-requires-clause-theirs g c k d below = c.requires.own (suc k) d (omega (arith, below))

pub returns-clause-shared : goal.returns-clause-shared
returns-clause-shared g c all =
    shared_by c.args.sheet.now c.args.first.now.hand c.hear-watch.new.hand (hands_of (workers_of g.S.Source.told g.S.Source.faults g.S.Source.gave c.args.others.now)) (c.requires.own 0 c.args.first.now.hand (omega arith)) c.hear-watch.ensures.heard all c.laws.ensures.sound

pub returns-clause-ended : goal.returns-clause-ended
returns-clause-ended g c all =
    ended_by c.args.sheet.now c.args.first.now.hand c.hear-watch.new.hand (hands_of (workers_of g.S.Source.told g.S.Source.faults g.S.Source.gave c.args.others.now)) (c.requires.own 0 c.args.first.now.hand (omega arith)) c.hear-watch.ensures.heard all c.hear-watch.result c.hear-watch.ensures.watch c.laws.ensures.sound
