use Rattle.std.proofs.Common.{ap, refl}
use Rattle.twin_lines.specs.Steps.{carried}
use Rattle.twin_lines.proofs.Telling.{carries_some, disk_same, leaves_same, same_below, starves_carry, told_as}
use Rattle.twin_lines.proofs.line.run_carry.Goals as goal

pub returns-in-Ok-Some-clause-runs : goal.returns-in-Ok-Some-clause-runs
returns-in-Ok-Some-clause-runs g c = λ source failed.
    told_as _ source _ _ _ _ _ _ _ (carried c.args.place c.in-Ok-Some.carried) _
    (record { asked = refl; runs = λ told. carries_some _ _ _ _ _ _ _ c.in-Ok-Some.field-0-is c.in-Ok-Some.ensures.carries; posts = λ is. leaves_same _ _ _ (ap (λ d. g.N.Disk.state d) (disk_same _ _ c.carry.ensures.file)) })
    c.tell_carried.ensures.told

pub returns-in-Err-clause-runs : goal.returns-in-Err-clause-runs
returns-in-Err-clause-runs g c = λ source failed. (
  record {
    starves = starves_carry _ _ c.args.place c.in-Err.ensures.err;
    later = record {
      source = same_below _ _ refl;
      outbox = same_below _ _ (ap (λ d. g.N.Disk.faults d) (disk_same _ _ c.carry.ensures.file));
      marks = c.carry.ensures.later;
      cabinet = c.carry.ensures.cabinet_later;
    };
  },
  record { posts = λ is. leaves_same _ _ _ (ap (λ d. g.N.Disk.state d) (disk_same _ _ c.carry.ensures.file)); output = refl },
)
