use Rattle.std.proofs.Common.{sym, ◌∙◌}
use Rattle.metatile_locks.proofs.Runs.{first_is_least}
use Rattle.metatile_locks.proofs.table.least.Goals as goal

pub returns : goal.returns
returns c = first_is_least c.args.renders.now _ (sym c.is_empty.ensures ∙ c.if-is_empty.false) c.requires
