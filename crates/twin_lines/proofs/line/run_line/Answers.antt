use Rattle.std.proofs.Common.{refl}
use Rattle.disk_model.specs.Moments.{leaves_none}
use Rattle.twin_lines.proofs.Telling.{short_here}
use Rattle.twin_lines.proofs.line.run_line.Goals as goal

pub returns-in-Err-OutOfMemory-clause-runs : goal.returns-in-Err-OutOfMemory-clause-runs
returns-in-Err-OutOfMemory-clause-runs g c = (short_here _, record { posts = λ is. leaves_none _ _; output = refl })
