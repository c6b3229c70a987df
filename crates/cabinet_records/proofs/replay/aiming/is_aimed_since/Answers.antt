use Rattle.std.proofs.Common.{◌+◌, ◌<◌, ◌∙◌, None, [], length, drop, get_or, sym, ap, subst, arith}
use Rattle.std.proofs.lemmas.List.{drop_more}
use Rattle.cabinet_records.specs.declared.replay.aimed.AimedCut.{AimedCut}
use Rattle.cabinet_records.specs.Aiming.{NumbersFall, is_aimed_since}
use Rattle.cabinet_records.proofs.AimedCuts.{none_from}
use Rattle.cabinet_records.proofs.replay.aiming.is_aimed_since.Goals as goal

pub returns-then-cut-number : goal.returns-then-cut-number
returns-then-cut-number c =
    let cuts = c.args.cuts.now in
    let i = c.looking.i in
    let within : i < length cuts = omega (arith, c.looking-test.true, c.looking.auto) in
    let none : AimedCut = record { number = 0; reach = None; filter = record { style = None; dims = [] } } in
    let here = drop_more cuts i none within in
    sym (none_from c.args.number c.args.meta.now (get_or cuts i none) (drop (i + 1) cuts) c.if-cut-number.true (subst NumbersFall here c.looking.invariant.fall)) ∙ sym (ap (λ xs. is_aimed_since xs c.args.number c.args.meta.now) here) ∙ c.looking.invariant.same
