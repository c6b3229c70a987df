use Rattle.std.proofs.Common.{rules, ◌≡◌, List, sym, subst}
use Rattle.cabinet.specs.Fresh.{MayBeginWith}
use Rattle.truncation_list.specs.declared.book.Cut.{Cut}
use Rattle.carry_over.specs.Chosen.{IsPartOf}
use Rattle.carry_over.specs.Taken.{opening_with}
use Rattle.carry_over.proofs.TakenImages.{part_begins}
use Rattle.carry_over.proofs.carrying.carry_into.Goals as goal

pub write_down-requires-clause-begins : goal.write_down-requires-clause-begins
write_down-requires-clause-begins g c =
    let plan = c.args.plan.now in
    let o = opening_with plan.number plan.floor plan.cuts.items plan.chosen.kept.items in
    let cuts : c.as_slice-cuts.result.now ≡ plan.cuts.items = search rules in
    let part : IsPartOf c.as_slice.result.now plan.chosen.kept.items = search rules in
    subst (λ (l : List Cut). MayBeginWith c.args.to.now (opening_with plan.number plan.floor l c.as_slice.result.now)) (sym cuts) (part_begins c.args.to.now o c.as_slice.result.now c.requires.begins part)
