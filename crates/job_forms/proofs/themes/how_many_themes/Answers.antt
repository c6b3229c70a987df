use Rattle.std.proofs.Common.{rules, ◌∙◌}
use Rattle.job_forms.specs.Steps.{numbers}
use Rattle.job_forms.proofs.ThemeValues.{AreWanted, themes_product}
use Rattle.job_forms.proofs.themes.how_many_themes.Goals as goal

pub returns-clause-value : goal.returns-clause-value
returns-clause-value c =
    let w : AreWanted c.args.catalogue.now c.args.cover.now (numbers c.values.result) (numbers c.values-2.result) (numbers c.values-3.result) (numbers c.values-4.result) =
    record { dims = search rules; first = c.values.ensures.numbers; second = c.values-2.ensures.numbers; third = c.values-3.ensures.numbers; fourth = c.values-4.ensures.numbers } in
    let e = themes_product c.args.catalogue.now c.args.cover.now (numbers c.styles.result) (numbers c.values.result) (numbers c.values-2.result) (numbers c.values-3.result) (numbers c.values-4.result) w c.styles.ensures.numbers in
    c.product.ensures.value ∙ rw (c.count-style.ensures, c.count-first.ensures, c.count-second.ensures, c.count-third.ensures, c.count-fourth.ensures) e
