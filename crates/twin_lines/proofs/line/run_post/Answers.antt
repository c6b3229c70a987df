use Rattle.std.proofs.Common.{refl}
use Rattle.disk_model.specs.Moments.{leaves_none}
use Rattle.twin_lines.specs.Steps.{posted}
use Rattle.twin_lines.proofs.Telling.{short_here, told_as}
use Rattle.twin_lines.proofs.line.run_post.Goals as goal

pub returns-in-Ok-clause-runs : goal.returns-in-Ok-clause-runs
returns-in-Ok-clause-runs g c = λ source failed.
    told_as _ source _ _ _ _ _ _ _ (posted c.args.cover.now c.in-Ok.reply) _ (record { asked = refl; runs = λ told. (c.in-Ok.ensures.row, c.in-Ok.ensures.leads); posts = c.post.ensures.posts }) c.tell_posted.ensures.told

pub returns-in-Err-clause-runs : goal.returns-in-Err-clause-runs
returns-in-Err-clause-runs g c = λ source failed. rw c.in-Err.ensures.err (short_here _, record { posts = λ is. leaves_none _ _; output = refl })
