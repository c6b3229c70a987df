use Rattle.std.proofs.Common.{ap, refl, subst, sym}
use Rattle.std.specs.Prelude.{IsSome}
use Rattle.cabinet.specs.Consistent.{Parts}
use Rattle.cabinet.specs.History.{kept_of}
use Rattle.cabinet.specs.Started.{opening_of}
use Rattle.cabinet.specs.State.{State, now}
use Rattle.cabinet.specs.Steps.{Cored}
use Rattle.cabinet.proofs.Answered.{on_shelf}
use Rattle.cabinet.proofs.Consistent.{after_dropped}
use Rattle.cabinet.proofs.cabinet_core.Core.drop_kept.Goals as goal

pub invariant_of-self : goal.invariant_of-self
invariant_of-self c =
    let i = c.self.inside in
    let p : Parts = record { opening = opening_of i.start; shelf = i.shelf; last = i.last; moment = i.moment; clock = i.clock; renders = i.locks.renders; book = i.cuts.book } in
    let h = i.past.entries in
    let state_is = ap (λ (v : Cored). v.state) c.self.view_is in
    let some = on_shelf p h c.self.invariant c.args.meta.now (subst (λ (v : State). IsSome (kept_of c.args.meta.now (now v))) (sym state_is) c.requires) in
    after_dropped p h c.self.invariant c.args.meta.now c.and-self-inside.result.entries _ c.and-self-inside.ensures c.drop_kept.ensures.forgets refl some c.drop_kept.ensures.room
