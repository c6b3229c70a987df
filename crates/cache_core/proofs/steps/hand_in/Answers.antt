use Rattle.std.proofs.Common.{true, ap, arith}
use Rattle.cache_core.specs.declared.actor.Actor.TheVariants.{Rendered}
use Rattle.cache_core.specs.declared.outcome.TileOutcome.TheVariants.{Tile}
use Rattle.cache_core.proofs.Endings.{ending, extends_fresh, finish_cause, finishes_catalogue, finishes_grow, finishes_is, went_unwritten}
use Rattle.cabinet.specs.State.{State}
use Rattle.cache_core.specs.Steps.{ends}
use Rattle.cache_core.proofs.Truth.{part_true}
use Rattle.cache_core.proofs.Lasting.{finish_lasts}
use Rattle.cache_core.proofs.steps.hand_in.Goals as goal

pub returns-clause-advances : goal.returns-clause-advances
returns-clause-advances g c told n =
    let s = g.C.Keeper.state c.args.cabinet.now in let t = g.C.Keeper.state c.finish.new.self in let b = g.C.Keeper.faults c.args.cabinet.now in let a = g.C.Keeper.faults c.finish.new.self in let k = c.args.ticket in let x = c.args.tile in
    let blob = c.args.blob in let row = c.finish.ensures.finished in
    let r = c.finish.result in
    let is = finishes_is s t k blob r row in
    let cause = finish_cause b a s t k blob r c.finish.ensures.later row c.finish.ensures.counted in
    let grows = finishes_grow s t k blob c.finish.result row in
    ending told n n b a (omega arith) c.finish.ensures.later s t (Rendered k c.args.blob x) c.ends.result (Tile x) true (went_unwritten r) cause c.ends.ensures.actor c.ends.ensures.outcome (ap (λ (u : State). ends u (Tile x)) is)
    grows (finishes_catalogue s t k blob c.finish.result row) (search Rattle.std.proofs.Common.rules)
    (λ a fit l. part_true s.catalogue a k c.args.blob x c.known.ensures.valid fit.tile fit.work (c.laws_of_metatiles.ensures.part s.catalogue a x.number c.known.ensures.valid fit.tile) l)
    (λ a p fit within young. extends_fresh s.catalogue s.history t.history p a x.number grows within young)

pub returns-clause-lasts : goal.returns-clause-lasts
returns-clause-lasts g c =
    let K = g.C.Keeper in
    finish_lasts (K.outlasts c.args.cabinet.now c.finish.new.self) (K.state c.args.cabinet.now) (K.state c.finish.new.self) c.finish.ensures.lasts c.known.ensures c.args.ticket c.args.blob c.finish.result
    (search Rattle.std.proofs.Common.rules) c.finish.ensures.finished
