use Rattle.std.proofs.Common.{true, false, arith}
use Rattle.cache_core.specs.declared.actor.Actor.TheVariants.{Failed}
use Rattle.cache_core.specs.declared.outcome.TileOutcome.TheVariants.{SourceFailed}
use Rattle.cache_core.proofs.Endings.{abandons_catalogue, abandons_grow, ending}
use Rattle.cache_core.proofs.Truth.{abandoned_sound}
use Rattle.cache_core.proofs.Lasting.{abandon_lasts}
use Rattle.cache_core.proofs.steps.give_back.Goals as goal

pub returns-clause-advances : goal.returns-clause-advances
returns-clause-advances g c told n =
    let s = g.C.Keeper.state c.args.cabinet.now in let t = g.C.Keeper.state c.abandon.new.self in let k = c.args.ticket in let row = c.abandon.ensures.abandons in
    let b = g.C.Keeper.faults c.args.cabinet.now in let a = g.C.Keeper.faults c.abandon.new.self in let same = c.abandon.ensures.same in
    ending told n n b a (omega arith) (omega arith) s t (Failed k) c.ends.result SourceFailed true false (omega arith) c.ends.ensures.actor c.ends.ensures.outcome (search Rattle.std.proofs.Common.rules)
    (abandons_grow s t k row) (abandons_catalogue s t k row) (λ h sound l. abandoned_sound s t k row sound) (λ a fit l. tt) (λ a p fit within young. tt)

pub returns-clause-lasts : goal.returns-clause-lasts
returns-clause-lasts g c =
    let K = g.C.Keeper in
    abandon_lasts (K.outlasts c.args.cabinet.now c.abandon.new.self) (K.state c.args.cabinet.now) (K.state c.abandon.new.self) c.abandon.ensures.lasts c.known.ensures c.args.ticket c.abandon.ensures.abandons
