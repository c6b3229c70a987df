use Rattle.std.proofs.Common.{rules, ◌≡◌, IsTrue, List, sym, subst}
use Rattle.std.specs.Prelude.{IfOk}
use Rattle.cabinet.specs.declared.kept.Kept.{Kept}
use Rattle.carry_over.specs.Planned.{IsPlanned}
use Rattle.carry_over.specs.Taken.{IsTakenFrom, opening_of}
use Rattle.carry_over.proofs.PlannedThen.{late_of_made, planned_begins, taken_from}
use Rattle.carry_over.proofs.carrying.carry_restored.Goals as goal

pub returns-in-Err-made_file-clause-cause : goal.returns-in-Err-made_file-clause-cause
returns-in-Err-made_file-clause-cause g c =
    late_of_made c.args.to.now c.args.restored.now.opening c.args.restored.now.cuts.book (g.E.Disk.told c.args.new) (g.E.Disk.faults c.args.new) (g.E.Disk.faults c.in-Err-made_file.new) c.in-Err-made_file.fault (search rules)
    (search rules) (search rules)

pub carry_into-end-requires-clause-begins : goal.carry_into-end-requires-clause-begins
carry_into-end-requires-clause-begins g c =
    let old = c.args.restored.now in
    let plan = c.in-Ok.plan in
    let same : c.as_slice.result.now ≡ old.kept.items = search rules in
    let planned : IsPlanned c.args.from.now c.args.to.now old.opening old.kept.items old.cuts.book plan.number plan.floor plan.cuts.items plan.chosen.kept.items plan.chosen.roomless =
    subst (λ (l : List Kept). IsPlanned c.args.from.now c.args.to.now old.opening l old.cuts.book plan.number plan.floor plan.cuts.items plan.chosen.kept.items plan.chosen.roomless) same c.in-Ok.ensures.planned in
    planned_begins c.args.from.now c.args.to.now old.opening old.kept.items old.cuts.book plan.number plan.floor plan.cuts.items plan.chosen.kept.items plan.chosen.roomless planned c.requires.opens

pub returns-clause-taken : goal.returns-clause-taken
returns-clause-taken g c old_told new_told =
    let old = c.args.restored.now in
    let plan = c.in-Ok.plan in
    let same : c.as_slice.result.now ≡ old.kept.items = search rules in
    let planned : IsPlanned c.args.from.now c.args.to.now old.opening old.kept.items old.cuts.book plan.number plan.floor plan.cuts.items plan.chosen.kept.items plan.chosen.roomless =
    subst (λ (l : List Kept). IsPlanned c.args.from.now c.args.to.now old.opening l old.cuts.book plan.number plan.floor plan.cuts.items plan.chosen.kept.items plan.chosen.roomless) same c.in-Ok.ensures.planned in
    let file_told : IsTrue (g.E.Disk.told c.in-Ok-made_file.file.disk) = search rules in
    let did = c.carry_into-end.ensures in
    let there = c.into_disk.ensures in
    let taken = taken_from c.args.from.now c.args.to.now old.opening old.kept.items old.cuts.book plan.number plan.floor plan.cuts.items plan.chosen.kept.items plan.chosen.roomless planned
    c.carry_into-end.result c.args.start (g.D.Disk.state c.args.old).seen (g.E.Disk.state c.carry_into-end.new.new.disk).may_leave c.requires.start (did.copied old_told file_told) did.cuts did.roomless in
    subst (λ x. IfOk c.carry_into-end.result (λ n. IsTakenFrom c.args.from.now c.args.to.now (opening_of old.opening old.kept.items old.cuts.book) (g.D.Disk.state c.args.old).seen (g.E.Disk.state x).may_leave n.kept n.cuts n.roomless n.unread)) (sym there) taken
