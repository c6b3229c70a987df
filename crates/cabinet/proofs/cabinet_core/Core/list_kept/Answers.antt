use Rattle.std.proofs.Common.{ap, subst}
use Rattle.std.proofs.lemmas.List.Sorted.{IsPermutation-sym}
use Rattle.cabinet.specs.Consistent.{Parts}
use Rattle.cabinet.specs.Shelved.{listed}
use Rattle.cabinet.specs.Started.{opening_of}
use Rattle.cabinet.specs.State.{State}
use Rattle.cabinet.specs.Steps.{Cored}
use Rattle.cabinet.specs.Writing.{IsInWritingOrder}
use Rattle.cabinet.proofs.Writing.{cabinet_order}
use Rattle.cabinet.proofs.cabinet_core.Core.list_kept.Goals as goal

pub returns-clause-order : goal.returns-clause-order
returns-clause-order c =
    let i = c.self.inside in
    let p : Parts = record { opening = opening_of i.start; shelf = i.shelf; last = i.last; moment = i.moment; clock = i.clock; renders = i.locks.renders; book = i.cuts.book } in
    let kept = c.list_kept.new.list.kept in
    let e = c.list_kept.ensures in
    subst (λ (v : State). IsInWritingOrder v kept) (ap (λ (v : Cored). v.state) c.self.view_is) (cabinet_order p i.past.entries c.self.invariant kept (IsPermutation-sym kept (listed i.shelf.blobs) e.all) e.order)
