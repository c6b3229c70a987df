use Rattle.std.proofs.Common.{arith}
use Rattle.opened_cache.proofs.Unsaved.{later_by, saves_all}
use Rattle.opened_cache.proofs.saving.save_all.Goals as goal

pub returns-clause-saves : goal.returns-clause-saves
returns-clause-saves g c =
    let K = g.C.Keeper in
    let kept = c.kept.ensures in
    let most = c.from-most.ensures in
    saves_all K.state K.faults K.outlasts _ _ _ c.save_uses_of.result (omega (arith, kept, most)) c.save_uses_of.ensures.keeps_up

pub returns-clause-later : goal.returns-clause-later
returns-clause-later g c = let K = g.C.Keeper in later_by K.state K.faults K.outlasts _ _ _ c.save_uses_of.result c.save_uses_of.ensures.keeps_up
