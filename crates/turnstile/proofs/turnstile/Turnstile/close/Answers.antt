use Rattle.std.proofs.Common.{rules}
use Rattle.turnstile.specs.Passes.{knows}
use Rattle.turnstile.specs.Views.{turns_in}
use Rattle.turnstile.proofs.Held.{line_of}
use Rattle.turnstile.proofs.turnstile.Turnstile.close.Goals as goal

pub returns-clause-closed : goal.returns-clause-closed
returns-clause-closed g c = (
  search rules,
  c.gather-all.ensures.known c.close.result c.close.ensures.found,
  line_of (turns_in (knows c.gather-all.result)) c.args.passes.items c.close.ensures.line c.gather-all.ensures.turns,
)
