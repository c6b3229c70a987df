use Rattle.http_wire.proofs.FrontGrows.{bad_hopeless, bad_many, bad_full}
use Rattle.http_wire.proofs.look.step.Goals as goal

pub returns-in-Hopeless : goal.returns-in-Hopeless
returns-in-Hopeless c = bad_hopeless _ _ c.front_of.ensures c.in-Hopeless.ensures

pub returns-in-TooMany : goal.returns-in-TooMany
returns-in-TooMany c = bad_many _ _ _ c.front_of.ensures c.requires c.in-TooMany.ensures

pub returns-else-held-lt-HEAD_LIMIT : goal.returns-else-held-lt-HEAD_LIMIT
returns-else-held-lt-HEAD_LIMIT c = bad_full _ _ c.front_of.ensures c.in-Unfinished.ensures.0 c.in-Unfinished.ensures.1 c.if-held-lt-HEAD_LIMIT.false
