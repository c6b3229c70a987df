use Rattle.std.proofs.Common.{arith}
use Rattle.std.proofs.lemmas.Fmt.{length-decimal-le}
use Rattle.metatile_plan.proofs.spans.digits.Goals as goal

pub returns-clause-few : goal.returns-clause-few
returns-clause-few c = rw c.format.ensures.text (length-decimal-le 3 c.args.number (omega arith) (omega (arith, c.requires)) (omega (arith, c.requires)))
