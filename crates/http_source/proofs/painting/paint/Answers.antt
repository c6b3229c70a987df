use Rattle.std.proofs.Common.{refl}
use Rattle.http_source.proofs.Filling.{as_many}
use Rattle.http_source.proofs.painting.paint.Goals as goal

pub fill-requires-clause-pixels : goal.fill-requires-clause-pixels
fill-requires-clause-pixels c = as_many c.args.body.now c.in-Some.at c.width-width.result c.height-height.result _ _ c.in-Some.ensures.size c.width-width.ensures.width c.height-height.ensures.height

pub returns-in-None : goal.returns-in-None
returns-in-None c = (refl, rw (c.width-width.ensures.width, c.height-height.ensures.height) at c.in-None.ensures.form)
