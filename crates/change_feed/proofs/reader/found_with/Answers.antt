use Rattle.std.proofs.Common.{None, [], ◌∷◌, subst}
use Rattle.change_feed.specs.Marks.{StandsAt}
use Rattle.change_feed.proofs.Following.{bad_still}
use Rattle.change_feed.proofs.reader.found_with.Goals as goal

pub returns-in-Ok : goal.returns-in-Ok
returns-in-Ok c bodies is stands = c.with_next.ensures bodies is (subst (StandsAt bodies) c.in-Ok.is stands)

pub returns-in-Err : goal.returns-in-Err
returns-in-Err c bodies is stands = bad_still None bodies (c.args.body.now ∷ []) c.in-Err.bad (subst (StandsAt bodies) c.in-Err.is stands)
