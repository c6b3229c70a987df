use Rattle.std.proofs.Common.{◌≡◌, ◌++◌, ◌∷◌, [], true, sym, subst, ◌∙◌}
use Rattle.cabinet_records.specs.Shows.{IsFirstLate, IsLateAt, is_late}
use Rattle.cabinet_records.proofs.Judged.{late_here, late_more}
use Rattle.cabinet_records.proofs.replay.judging.late_after.Goals as goal

pub returns-then-is_late : goal.returns-then-is_late
returns-then-is_late c = λ records e h.
    let is : is_late c.args.entry.now ≡ true = sym c.is_late.ensures ∙ c.if-is_late.true in
    subst (IsFirstLate (records ++ c.args.entry.now ∷ [])) (sym e) (late_here records c.args.entry.now (subst (IsLateAt records) c.in-None.is h) is)

pub returns-in-Some : goal.returns-in-Some
returns-in-Some c = λ records e h. late_more records c.args.entry.now c.in-Some.slot (subst (IsLateAt records) c.in-Some.is h)
