use Rattle.std.proofs.Common.{None}
use Rattle.change_feed.proofs.Following.{bad_there, leads_on}
use Rattle.change_feed.proofs.reader.with_next.Goals as goal

pub returns-in-Some : goal.returns-in-Some
returns-in-Some c bodies is leads = leads_on None c.args.last bodies c.args.body.now c.in-Some.mark leads c.in-Some.ensures

pub returns-in-None : goal.returns-in-None
returns-in-None c bodies is leads = bad_there None c.args.last bodies c.args.body.now c.args.slot is leads c.in-None.ensures
