use Rattle.std.proofs.Common.{◌∙◌, ap, rules}
use Rattle.change_feed.specs.Marks.{mark_of}
use Rattle.change_feed.proofs.Spelling.{spelled}
use Rattle.change_feed.proofs.bodies.mark_body.Goals as goal

pub returns : goal.returns
returns c = ap mark_of c.mark_text.ensures ∙ spelled c.args.mark.number c.args.mark.cut (search rules) (search rules)
