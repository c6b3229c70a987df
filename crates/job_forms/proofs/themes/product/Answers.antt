use Rattle.std.proofs.Common.{arith}
use Rattle.job_forms.proofs.Products.{four_most, themes_most}
use Rattle.job_forms.proofs.themes.product.Goals as goal

pub overflow_mul-result-3 : goal.overflow_mul-result-3
overflow_mul-result-3 c =
    omega (arith, four_most c.args.first c.args.second c.args.third c.args.fourth c.requires.first c.requires.second c.requires.third c.requires.fourth)

pub overflow_mul-result-4 : goal.overflow_mul-result-4
overflow_mul-result-4 c =
    omega (arith, themes_most c.args.styles c.args.first c.args.second c.args.third c.args.fourth c.requires.styles c.requires.first c.requires.second c.requires.third c.requires.fourth)

pub returns-clause-most : goal.returns-clause-most
returns-clause-most c =
    themes_most c.args.styles c.args.first c.args.second c.args.third c.args.fourth c.requires.styles c.requires.first c.requires.second c.requires.third c.requires.fourth
