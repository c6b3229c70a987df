use Rattle.truncation_list.proofs.Remaining.{entered_answers}
use Rattle.truncation_list.proofs.list.CutList.enter.Goals as goal

pub returns-clause-answers : goal.returns-clause-answers
returns-clause-answers c =
    rw (c.push.ensures, ← c.self.view_is)
    (entered_answers c.args.number c.args.cover.now (record { cuts = c.self.inside.cuts.cuts; floor = c.self.inside.floor }))
