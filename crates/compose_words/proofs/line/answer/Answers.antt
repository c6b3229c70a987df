use Rattle.std.specs.Prelude.{IfOk}
use Rattle.std.proofs.Common.{subst, sym}
use Rattle.composite_layers.specs.Parts.{moment}
use Rattle.compose_words.specs.declared.orders.CompositionOrder.{CompositionOrder}
use Rattle.compose_words.specs.Run.{Answers}
use Rattle.compose_words.proofs.line.answer.Goals as goal

pub returns-in-Truncate-clause-answers : goal.returns-in-Truncate-clause-answers
returns-in-Truncate-clause-answers g c =
    let told = g.S.Source.told c.args.source.now in
    let faults = g.S.Source.faults c.args.source.now in
    subst (λ (o : CompositionOrder). IfOk c.truncate.result (λ reply. Answers told c.args.recipe.now.parts.items (moment c.args.cabinet.now faults 0) o reply (moment c.truncate.new.cabinet faults 0)))
    (sym c.in-Truncate.is) (c.truncate.ensures.answers told c.args.recipe.now.parts.items faults)

pub returns-in-Truncate-clause-goes : goal.returns-in-Truncate-clause-goes
returns-in-Truncate-clause-goes g c = c.truncate.ensures.goes (g.S.Source.told c.args.source.now) (g.S.Source.faults c.args.source.now)
