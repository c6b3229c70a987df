use Rattle.std.proofs.Common.{◌<◌, ◌≤◌, Some, length, ap, refl, subst, sym, ◌∙◌}
use Rattle.catalog.specs.declared.catalogue.Catalogue.{Catalogue}
use Rattle.truncation_list.specs.Purge.{purged}
use Rattle.cabinet.specs.declared.judged.Admitted.TheVariants as admitted
use Rattle.cabinet.specs.Consistent.{Parts}
use Rattle.cabinet.specs.Started.{opening_of}
use Rattle.cabinet.specs.History.{next}
use Rattle.cabinet.specs.State.{State, now}
use Rattle.cabinet.specs.Steps.{Admits, Cored}
use Rattle.cabinet.proofs.Answered.{admits_full, admits_number, below_limit, least_is}
use Rattle.cabinet.proofs.cabinet_core.Core.admit.Goals as goal

pub returns-then-full-clause-admits : goal.returns-then-full-clause-admits
returns-then-full-clause-admits c =
    let i = c.self.inside in
    let p : Parts = record { opening = opening_of i.start; shelf = i.shelf; last = i.last; moment = i.moment; clock = i.clock; renders = i.locks.renders; book = i.cuts.book } in
    let h = i.past.entries in
    let state_is = ap (λ (v : Cored). v.state) c.self.view_is in
    let cover = c.args.cover.now in
    let next_is = ap (λ (v : Cored). next v.state.opening (now v.state)) c.self.view_is ∙ sym c.next.ensures ∙ c.in-Some.is in
    let least = least_is c.least_with-lowest.result c.least.result i.locks.renders i.shelf.blobs i.shelf.blobs c.least.ensures c.least_with-lowest.ensures refl in
    let full = subst (λ (x : Catalogue). x.cut_limit ≤ length (purged (Some cover) c.least_with-lowest.result c.reserve.new.self.book).cuts) c.catalogue.ensures.catalogue (c.full.ensures.0 c.if-full.true) in
    subst (λ (v : State). Admits v cover admitted.Full) state_is (admits_full p h c.self.invariant cover c.least_with-lowest.result c.reserve.new.self.book c.in-Some.number next_is least c.reserve.ensures.book full)

pub returns-clause-admits : goal.returns-clause-admits
returns-clause-admits c =
    let i = c.self.inside in
    let p : Parts = record { opening = opening_of i.start; shelf = i.shelf; last = i.last; moment = i.moment; clock = i.clock; renders = i.locks.renders; book = i.cuts.book } in
    let h = i.past.entries in
    let state_is = ap (λ (v : Cored). v.state) c.self.view_is in
    let cover = c.args.cover.now in
    let next_is = ap (λ (v : Cored). next v.state.opening (now v.state)) c.self.view_is ∙ sym c.next.ensures ∙ c.in-Some.is in
    let least = least_is c.least_with-lowest.result c.least.result i.locks.renders i.shelf.blobs i.shelf.blobs c.least.ensures c.least_with-lowest.ensures refl in
    let few = subst (λ (x : Catalogue). length (purged (Some cover) c.least_with-lowest.result c.reserve.new.self.book).cuts < x.cut_limit) c.catalogue.ensures.catalogue
    (below_limit (length (purged (Some cover) c.least_with-lowest.result c.reserve.new.self.book).cuts) c.catalogue.result.now.cut_limit c.full.result c.if-full.false c.full.ensures.1) in
    subst (λ (v : State). Admits v cover (admitted.Number c.in-Some.number)) state_is (admits_number p h c.self.invariant cover c.least_with-lowest.result c.reserve.new.self.book c.in-Some.number next_is least c.reserve.ensures.book few)
