use Rattle.std.proofs.Common.{◌≡◌, Some, ap, refl, sym, subst, ◌∙◌}
use Rattle.catalog.specs.declared.catalogue.Catalogue.{Catalogue}
use Rattle.raster_field.specs.Blocks.{IsMeta}
use Rattle.cabinet.specs.Commands.{IsForcedOf}
use Rattle.cabinet.specs.Consistent.{Parts}
use Rattle.cabinet.specs.History.{next, whole}
use Rattle.cabinet.specs.Started.{opening_of}
use Rattle.cabinet.specs.Steps.{Cored}
use Rattle.cabinet.specs.State.{State, asked_at, now}
use Rattle.cabinet.specs.Turns.{Progress}
use Rattle.cabinet.proofs.Answered.{taken_row}
use Rattle.cabinet.proofs.Consistent.{after_asked, after_taken, asked_is, turn_ready}
use Rattle.cabinet.proofs.cabinet_core.Core.force.Goals as goal

pub take_turn-requires : goal.take_turn-requires
take_turn-requires c =
    let i = c.self.inside in
    let p : Parts = record { opening = opening_of i.start; shelf = i.shelf; last = i.last; moment = i.moment; clock = i.clock; renders = i.locks.renders; book = i.cuts.book } in
    let h = i.past.entries in
    let n = c.now-self-inside.result in
    let g = c.and-self-inside.result.entries in
    let locks = c.turn_for.new.locks in
    let l = c.turn_for.ensures.shelf in
    let q : Parts = record { opening = opening_of i.start; shelf = c.turn_for.new.shelf; last = i.last; moment = n; clock = c.now-self-inside.new.self; renders = locks.renders; book = i.cuts.book } in
    let asked : Parts = record { opening = opening_of i.start; shelf = c.turn_for.new.shelf; last = i.last; moment = n; clock = c.now-self-inside.new.self; renders = i.locks.renders; book = i.cuts.book } in
    let e : q ≡ asked = λ j. record { opening = opening_of i.start; shelf = c.turn_for.new.shelf; last = i.last; moment = n; clock = c.now-self-inside.new.self; renders = c.turn_for.ensures.renders j; book = i.cuts.book } in
    let k = after_asked p h c.self.invariant n g q c.and-self-inside.ensures l e c.turn_for.ensures.no_less in
    let from = c.next-next.ensures ∙ sym (ap (λ (v : State). next v.opening (now v)) (ap (λ (v : Cored). v.state) c.self.view_is)) ∙ ap (next (opening_of i.start)) c.self.invariant.stands in
    turn_ready q g k c.args.meta.now c.next-next.result locks refl from c.in_ok-turn.turn c.in_ok-turn.ensures.turn

pub invariant_of-self-2 : goal.invariant_of-self-2
invariant_of-self-2 c =
    let i = c.self.inside in
    let p : Parts = record { opening = opening_of i.start; shelf = i.shelf; last = i.last; moment = i.moment; clock = i.clock; renders = i.locks.renders; book = i.cuts.book } in
    let h = i.past.entries in
    let n = c.now-self-inside.result in
    let g = c.and-self-inside.result.entries in
    let locks = c.turn_for.new.locks in
    let l = c.turn_for.ensures.shelf in
    let q : Parts = record { opening = opening_of i.start; shelf = c.turn_for.new.shelf; last = i.last; moment = n; clock = c.now-self-inside.new.self; renders = locks.renders; book = i.cuts.book } in
    let asked : Parts = record { opening = opening_of i.start; shelf = c.turn_for.new.shelf; last = i.last; moment = n; clock = c.now-self-inside.new.self; renders = i.locks.renders; book = i.cuts.book } in
    let e : q ≡ asked = λ j. record { opening = opening_of i.start; shelf = c.turn_for.new.shelf; last = i.last; moment = n; clock = c.now-self-inside.new.self; renders = c.turn_for.ensures.renders j; book = i.cuts.book } in
    let k = after_asked p h c.self.invariant n g q c.and-self-inside.ensures l e c.turn_for.ensures.no_less in
    let from = c.next-next.ensures ∙ sym (ap (λ (v : State). next v.opening (now v)) (ap (λ (v : Cored). v.state) c.self.view_is)) ∙ ap (next (opening_of i.start)) c.self.invariant.stands in
    let new : Progress = record { renders = c.take_turn.new.locks.renders; last = c.take_turn.new.last; past = c.take_turn.new.past.entries } in
    let meta = subst (λ (x : Catalogue). IsMeta x c.args.meta.now) (sym l.catalogue) (subst (λ (v : State). IsMeta v.catalogue c.args.meta.now) (sym (ap (λ (v : Cored). v.state) c.self.view_is)) c.requires) in
    after_taken q g k c.args.meta.now c.next-next.result locks refl from c.in_ok-turn.turn c.take_turn.result new _ meta c.in_ok-turn.ensures.turn c.take_turn.ensures refl

pub returns-clause-forced : goal.returns-clause-forced
returns-clause-forced c =
    let i = c.self.inside in
    let p : Parts = record { opening = opening_of i.start; shelf = i.shelf; last = i.last; moment = i.moment; clock = i.clock; renders = i.locks.renders; book = i.cuts.book } in
    let h = i.past.entries in
    let n = c.now-self-inside.result in
    let g = c.and-self-inside.result.entries in
    let locks = c.turn_for.new.locks in
    let l = c.turn_for.ensures.shelf in
    let q : Parts = record { opening = opening_of i.start; shelf = c.turn_for.new.shelf; last = i.last; moment = n; clock = c.now-self-inside.new.self; renders = locks.renders; book = i.cuts.book } in
    let asked : Parts = record { opening = opening_of i.start; shelf = c.turn_for.new.shelf; last = i.last; moment = n; clock = c.now-self-inside.new.self; renders = i.locks.renders; book = i.cuts.book } in
    let e : q ≡ asked = λ j. record { opening = opening_of i.start; shelf = c.turn_for.new.shelf; last = i.last; moment = n; clock = c.now-self-inside.new.self; renders = c.turn_for.ensures.renders j; book = i.cuts.book } in
    let k = after_asked p h c.self.invariant n g q c.and-self-inside.ensures l e c.turn_for.ensures.no_less in
    let from = c.next-next.ensures ∙ sym (ap (λ (v : State). next v.opening (now v)) (ap (λ (v : Cored). v.state) c.self.view_is)) ∙ ap (next (opening_of i.start)) c.self.invariant.stands in
    let new : Progress = record { renders = c.take_turn.new.locks.renders; last = c.take_turn.new.last; past = c.take_turn.new.past.entries } in
    let t : State = record { catalogue = c.turn_for.new.shelf.catalogue; opening = opening_of i.start; history = whole (opening_of i.start) new.past; since = new.past; blobs = Some c.turn_for.new.shelf.blobs; clock = c.now-self-inside.new.self } in
    let there = asked_is p h c.self.invariant n g q c.and-self-inside.ensures l e c.now-self-inside.ensures ∙ ap (asked_at q.clock.moment) (ap (λ (v : Cored). v.state) c.self.view_is) in
    subst (λ (s : State). IsForcedOf s c.args.meta.now c.take_turn.result t) there
    (taken_row q g k c.args.meta.now c.next-next.result locks refl from c.in_ok-turn.turn c.take_turn.result new t c.in_ok-turn.ensures.turn c.take_turn.ensures refl)
