use Rattle.std.proofs.Common.{ap, refl}
use Rattle.twin_lines.specs.Steps.{answered}
use Rattle.twin_lines.proofs.Telling.{disk_same, file_same, leaves_same, marks_same, same_below, starves_get, told_as}
use Rattle.twin_lines.proofs.line.run_get.Goals as goal

pub returns-in-Ok-clause-runs : goal.returns-in-Ok-clause-runs
returns-in-Ok-clause-runs g c =
    told_as _ _ _ _ _ _ _ _ _ (answered c.args.address.now c.in-Ok.reply) _
    (record {
      asked = refl;
      runs = λ told. c.in-Ok.ensures.gets;
      posts = λ is. leaves_same _ _ _ (ap (λ d. g.N.Disk.state d) (disk_same _ _ (file_same _ _ c.ask.ensures.outbox)));
    })
    c.tell_got.ensures.told

pub returns-in-Err-clause-runs : goal.returns-in-Err-clause-runs
returns-in-Err-clause-runs g c = (
  record {
    starves = starves_get _ _ _ _ c.args.address.now c.in-Err.ensures.err;
    later = record {
      source = c.ask.ensures.later;
      outbox = same_below _ _ (ap (λ d. g.N.Disk.faults d) (disk_same _ _ (file_same _ _ c.ask.ensures.outbox)));
      marks = same_below _ _ (ap (λ d. g.M.Disk.faults d) (disk_same _ _ (marks_same _ _ c.ask.ensures.feed)));
      cabinet = c.ask.ensures.cabinet_later;
    };
  },
  record { posts = λ is. leaves_same _ _ _ (ap (λ d. g.N.Disk.state d) (disk_same _ _ (file_same _ _ c.ask.ensures.outbox))); output = refl },
)
