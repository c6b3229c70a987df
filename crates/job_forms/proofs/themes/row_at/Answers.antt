use Rattle.std.proofs.Common.{rules}
use Rattle.job_forms.specs.Steps.{numbers}
use Rattle.job_forms.proofs.ThemeValues.{AreWanted, wanted_stands}
use Rattle.job_forms.proofs.themes.row_at.Goals as goal

pub returns : goal.returns
returns c =
    let w : AreWanted c.args.catalogue.now c.args.cover.now (numbers c.values-4.result) (numbers c.values-3.result) (numbers c.values-2.result) (numbers c.values.result) =
    record { dims = search rules; first = c.values-4.ensures.numbers; second = c.values-3.ensures.numbers; third = c.values-2.ensures.numbers; fourth = c.values.ensures.numbers } in
    wanted_stands c.args.catalogue.now c.args.cover.now _ _ _ _ c.args.place _ _ _ _ _ _ _ _ w c.pick-fourth.ensures c.pick-third.ensures c.pick-second.ensures c.pick-first.ensures
