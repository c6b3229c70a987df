use Rattle.std.proofs.Common.{ap, subst}
use Rattle.cabinet.specs.Consistent.{Parts}
use Rattle.cabinet.specs.Started.{opening_of}
use Rattle.cabinet.specs.State.{State}
use Rattle.cabinet.specs.Steps.{Cored, GoesFirst}
use Rattle.cabinet.proofs.Answered.{goes_row}
use Rattle.cabinet.proofs.cabinet_core.Core.first_to_go.Goals as goal

pub returns : goal.returns
returns c =
    let i = c.self.inside in
    let p : Parts = record { opening = opening_of i.start; shelf = i.shelf; last = i.last; moment = i.moment; clock = i.clock; renders = i.locks.renders; book = i.cuts.book } in
    let h = i.past.entries in
    let state_is = ap (λ (v : Cored). v.state) c.self.view_is in
    subst (λ (v : State). GoesFirst v c.first_to_go.result) state_is (goes_row p h c.self.invariant c.first_to_go.result c.first_to_go.ensures)
