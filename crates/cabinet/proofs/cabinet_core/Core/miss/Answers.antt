use Rattle.std.proofs.Common.{◌≡◌, Some, ap, refl, subst, sym}
use Rattle.cabinet.specs.Consistent.{Parts}
use Rattle.cabinet.specs.History.{next}
use Rattle.cabinet.specs.Started.{opening_of}
use Rattle.cabinet.specs.State.{State, now}
use Rattle.cabinet.specs.Steps.{Cored}
use Rattle.cabinet.proofs.Answered.{number_is}
use Rattle.cabinet.proofs.Consistent.{after_missed}
use Rattle.cabinet.proofs.cabinet_core.Core.miss.Goals as goal

pub invariant_of-self : goal.invariant_of-self
invariant_of-self c =
    let i = c.self.inside in
    let p : Parts = record { opening = opening_of i.start; shelf = i.shelf; last = i.last; moment = i.moment; clock = i.clock; renders = i.locks.renders; book = i.cuts.book } in
    let h = i.past.entries in
    let state_is = ap (λ (v : Cored). v.state) c.self.view_is in
    let n = number_is p h c.self.invariant c.args.number (subst (λ (v : State). next v.opening (now v) ≡ Some c.args.number) (sym state_is) c.requires) in
    after_missed p h c.self.invariant c.args.number c.and-self-inside.result.entries _ c.and-self-inside.ensures refl n.number n.left
