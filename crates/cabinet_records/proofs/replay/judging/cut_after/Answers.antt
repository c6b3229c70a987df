use Rattle.std.proofs.Common.{◌≡◌, ◌++◌, ◌∷◌, [], true, sym, subst, ◌∙◌}
use Rattle.cabinet_records.specs.Replay.{IsLastCut, is_cut}
use Rattle.cabinet_records.proofs.Judged.{cut_here, none_cut}
use Rattle.cabinet_records.proofs.replay.judging.cut_after.Goals as goal

pub returns-then-is_cut : goal.returns-then-is_cut
returns-then-is_cut c = λ records e h.
    let is : is_cut c.args.entry.now ≡ true = sym c.is_cut.ensures ∙ c.if-is_cut.true in
    subst (IsLastCut (records ++ c.args.entry.now ∷ [])) (sym e) (cut_here records c.args.entry.now is)

pub returns : goal.returns
returns c = λ records e h. none_cut records c.args.entry.now c.args.last (sym c.is_cut.ensures ∙ c.if-is_cut.false) h
