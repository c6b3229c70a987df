use Rattle.std.proofs.Common.{◌≡◌, List, Option, Some, find, ap, refl, sym, subst, ◌∙◌}
use Rattle.std.specs.Prelude.{IfSome, IsSome}
use Rattle.catalog.specs.declared.catalogue.Catalogue.{Catalogue}
use Rattle.metatile_plan.specs.declared.metatile.MetaKey.{MetaKey}
use Rattle.raster_field.specs.Blocks.{IsMeta, block_of}
use Rattle.cabinet.specs.declared.entry.HistoryEntry.TheVariants as entry
use Rattle.cabinet.specs.declared.kept.KeptBlob.{KeptBlob}
use Rattle.cabinet.specs.declared.turns.Turn.{Turn}
use Rattle.cabinet.specs.Commands.{IsForcedOf, IsUnkept, answering}
use Rattle.cabinet.specs.Consistent.{Parts, seen}
use Rattle.cabinet.specs.Fresh.{limit_for}
use Rattle.cabinet.specs.History.{is_of, next, whole}
use Rattle.cabinet.specs.Shelved.{listed}
use Rattle.cabinet.specs.Started.{opening_of}
use Rattle.cabinet.specs.State.{State, asked_at, now, with_entry}
use Rattle.cabinet.specs.Steps.{Cored}
use Rattle.cabinet.specs.Turns.{IsTurn, Progress}
use Rattle.cabinet.proofs.Answered.{older_unkept, some_answers, taken_row, used_row}
use Rattle.cabinet.proofs.Consistent.{after_asked, after_taken, after_used, asked_is, turn_ready}
use Rattle.cabinet.proofs.OnShelf.{some_blob}
use Rattle.cabinet.proofs.cabinet_core.Core.ask_kept.Goals as goal

pub touch-requires : goal.touch-requires
touch-requires c =
    let i = c.self.inside in
    let p : Parts = record { opening = opening_of i.start; shelf = i.shelf; last = i.last; moment = i.moment; clock = i.clock; renders = i.locks.renders; book = i.cuts.book } in
    let h = i.past.entries in
    let state_is = ap (λ (v : Cored). v.state) c.self.view_is in
    let m = c.block_of-meta.result in
    let t = c.in-Some.kept in
    let l = c.turn_where.ensures.shelf in
    let there : find (is_of m) (listed c.turn_where.new.shelf.blobs) ≡ Some t = ap (λ (bs : List KeptBlob). find (is_of m) (listed bs)) l.blobs ∙ sym c.kept_of.ensures ∙ c.in-Some.is in
    some_blob _ c.turn_where.new.shelf.blobs t there

pub invariant_of-self-then-is_within : goal.invariant_of-self-then-is_within
invariant_of-self-then-is_within c =
    let i = c.self.inside in
    let p : Parts = record { opening = opening_of i.start; shelf = i.shelf; last = i.last; moment = i.moment; clock = i.clock; renders = i.locks.renders; book = i.cuts.book } in
    let h = i.past.entries in
    let state_is = ap (λ (v : Cored). v.state) c.self.view_is in
    let m = c.block_of-meta.result in
    let t = c.in-Some.kept in
    let l = c.turn_where.ensures.shelf in
    let there : find (is_of m) (listed c.turn_where.new.shelf.blobs) ≡ Some t = ap (λ (bs : List KeptBlob). find (is_of m) (listed bs)) l.blobs ∙ sym c.kept_of.ensures ∙ c.in-Some.is in
    let n = c.now-self-inside.result in
    let g = c.and-self-inside.result.entries in
    let locks = c.turn_where.new.locks in
    let q : Parts = record { opening = opening_of i.start; shelf = c.turn_where.new.shelf; last = i.last; moment = n; clock = c.now-self-inside.new.self; renders = locks.renders; book = i.cuts.book } in
    let asked : Parts = record { opening = opening_of i.start; shelf = c.turn_where.new.shelf; last = i.last; moment = n; clock = c.now-self-inside.new.self; renders = i.locks.renders; book = i.cuts.book } in
    let e : q ≡ asked = λ j. record { opening = opening_of i.start; shelf = c.turn_where.new.shelf; last = i.last; moment = n; clock = c.now-self-inside.new.self; renders = c.turn_where.ensures.renders j; book = i.cuts.book } in
    let k = after_asked p h c.self.invariant n g q c.and-self-inside.ensures l e c.turn_where.ensures.no_less in
    after_used q g k m c.and-self-inside-then-is_within.result.entries _ c.and-self-inside-then-is_within.ensures c.touch.ensures.touched refl c.touch.ensures.room (rw there refl)

pub returns-then-is_within-clause-asks : goal.returns-then-is_within-clause-asks
returns-then-is_within-clause-asks c =
    let i = c.self.inside in
    let p : Parts = record { opening = opening_of i.start; shelf = i.shelf; last = i.last; moment = i.moment; clock = i.clock; renders = i.locks.renders; book = i.cuts.book } in
    let h = i.past.entries in
    let state_is = ap (λ (v : Cored). v.state) c.self.view_is in
    let m = c.block_of-meta.result in
    let t = c.in-Some.kept in
    let l = c.turn_where.ensures.shelf in
    let there : find (is_of m) (listed c.turn_where.new.shelf.blobs) ≡ Some t = ap (λ (bs : List KeptBlob). find (is_of m) (listed bs)) l.blobs ∙ sym c.kept_of.ensures ∙ c.in-Some.is in
    let n = c.now-self-inside.result in
    let g = c.and-self-inside.result.entries in
    let locks = c.turn_where.new.locks in
    let q : Parts = record { opening = opening_of i.start; shelf = c.turn_where.new.shelf; last = i.last; moment = n; clock = c.now-self-inside.new.self; renders = locks.renders; book = i.cuts.book } in
    let asked : Parts = record { opening = opening_of i.start; shelf = c.turn_where.new.shelf; last = i.last; moment = n; clock = c.now-self-inside.new.self; renders = i.locks.renders; book = i.cuts.book } in
    let e : q ≡ asked = λ j. record { opening = opening_of i.start; shelf = c.turn_where.new.shelf; last = i.last; moment = n; clock = c.now-self-inside.new.self; renders = c.turn_where.ensures.renders j; book = i.cuts.book } in
    let k = after_asked p h c.self.invariant n g q c.and-self-inside.ensures l e c.turn_where.ensures.no_less in
    let a = c.args.address.now in
    let is = c.block_of-meta.ensures.meta ∙ ap (λ (x : Catalogue). block_of x a) (c.catalogue.ensures.catalogue ∙ sym l.catalogue) in
    let its = subst (λ (o : MetaKey). find (is_of o) (listed q.shelf.blobs) ≡ Some t) is there in
    let limit = c.limit_for-limit.ensures ∙ ap (λ (x : Catalogue). limit_for x a) (c.catalogue-2.ensures.catalogue ∙ sym l.catalogue) in
    let then = asked_is p h c.self.invariant n g q c.and-self-inside.ensures l e c.now-self-inside.ensures ∙ ap (asked_at q.clock.moment) state_is in
    let touched = c.touch.ensures.touched in
    let entries = c.and-self-inside-then-is_within.result.entries in
    let new : State = record { catalogue = c.touch.new.self.catalogue; opening = opening_of i.start; history = whole (opening_of i.start) entries; since = entries; blobs = Some c.touch.new.self.blobs; clock = c.now-self-inside.new.self } in
    let some = some_answers q g k a t c.limit_for-limit.result its limit (sym c.is_within.ensures ∙ c.if-is_within.true) in
    let row = used_row q g k a m new entries is c.and-self-inside-then-is_within.ensures
    (λ j. record { catalogue = touched.catalogue j; opening = opening_of i.start; history = whole (opening_of i.start) entries; since = entries; blobs = Some (touched.blobs j); clock = c.now-self-inside.new.self }) in
    (subst (λ (s : State). IsSome (answering s a)) then some, subst (λ (s : State). new ≡ with_entry s (entry.Used (block_of s.catalogue a))) then row)

pub take_turn-forced-requires : goal.take_turn-forced-requires
take_turn-forced-requires c =
    let i = c.self.inside in
    let p : Parts = record { opening = opening_of i.start; shelf = i.shelf; last = i.last; moment = i.moment; clock = i.clock; renders = i.locks.renders; book = i.cuts.book } in
    let h = i.past.entries in
    let state_is = ap (λ (v : Cored). v.state) c.self.view_is in
    let m = c.block_of-meta.result in
    let t = c.in-Some.kept in
    let l = c.turn_where.ensures.shelf in
    let there : find (is_of m) (listed c.turn_where.new.shelf.blobs) ≡ Some t = ap (λ (bs : List KeptBlob). find (is_of m) (listed bs)) l.blobs ∙ sym c.kept_of.ensures ∙ c.in-Some.is in
    let n = c.now-self-inside.result in
    let g = c.and-self-inside.result.entries in
    let locks = c.turn_where.new.locks in
    let q : Parts = record { opening = opening_of i.start; shelf = c.turn_where.new.shelf; last = i.last; moment = n; clock = c.now-self-inside.new.self; renders = locks.renders; book = i.cuts.book } in
    let asked : Parts = record { opening = opening_of i.start; shelf = c.turn_where.new.shelf; last = i.last; moment = n; clock = c.now-self-inside.new.self; renders = i.locks.renders; book = i.cuts.book } in
    let e : q ≡ asked = λ j. record { opening = opening_of i.start; shelf = c.turn_where.new.shelf; last = i.last; moment = n; clock = c.now-self-inside.new.self; renders = c.turn_where.ensures.renders j; book = i.cuts.book } in
    let k = after_asked p h c.self.invariant n g q c.and-self-inside.ensures l e c.turn_where.ensures.no_less in
    let from = c.next-next.ensures ∙ sym (ap (λ (v : State). next v.opening (now v)) state_is) ∙ ap (next (opening_of i.start)) c.self.invariant.stands in
    let turns = subst (λ (o : Option Turn). IfSome o (IsTurn m c.next-next.result locks c.turn_where.new.shelf)) c.in-Some-turn.is c.in_ok-turn.ensures.turn in
    turn_ready q g k m c.next-next.result locks refl from c.in-Some-turn.turn turns

pub invariant_of-self-2 : goal.invariant_of-self-2
invariant_of-self-2 c =
    let i = c.self.inside in
    let p : Parts = record { opening = opening_of i.start; shelf = i.shelf; last = i.last; moment = i.moment; clock = i.clock; renders = i.locks.renders; book = i.cuts.book } in
    let h = i.past.entries in
    let state_is = ap (λ (v : Cored). v.state) c.self.view_is in
    let m = c.block_of-meta.result in
    let t = c.in-Some.kept in
    let l = c.turn_where.ensures.shelf in
    let there : find (is_of m) (listed c.turn_where.new.shelf.blobs) ≡ Some t = ap (λ (bs : List KeptBlob). find (is_of m) (listed bs)) l.blobs ∙ sym c.kept_of.ensures ∙ c.in-Some.is in
    let n = c.now-self-inside.result in
    let g = c.and-self-inside.result.entries in
    let locks = c.turn_where.new.locks in
    let q : Parts = record { opening = opening_of i.start; shelf = c.turn_where.new.shelf; last = i.last; moment = n; clock = c.now-self-inside.new.self; renders = locks.renders; book = i.cuts.book } in
    let asked : Parts = record { opening = opening_of i.start; shelf = c.turn_where.new.shelf; last = i.last; moment = n; clock = c.now-self-inside.new.self; renders = i.locks.renders; book = i.cuts.book } in
    let e : q ≡ asked = λ j. record { opening = opening_of i.start; shelf = c.turn_where.new.shelf; last = i.last; moment = n; clock = c.now-self-inside.new.self; renders = c.turn_where.ensures.renders j; book = i.cuts.book } in
    let k = after_asked p h c.self.invariant n g q c.and-self-inside.ensures l e c.turn_where.ensures.no_less in
    let from = c.next-next.ensures ∙ sym (ap (λ (v : State). next v.opening (now v)) state_is) ∙ ap (next (opening_of i.start)) c.self.invariant.stands in
    let turns = subst (λ (o : Option Turn). IfSome o (IsTurn m c.next-next.result locks c.turn_where.new.shelf)) c.in-Some-turn.is c.in_ok-turn.ensures.turn in
    let new : Progress = record { renders = c.take_turn-forced.new.locks.renders; last = c.take_turn-forced.new.last; past = c.take_turn-forced.new.past.entries } in
    let meta = subst (λ (x : Catalogue). IsMeta x m) (c.catalogue.ensures.catalogue ∙ sym l.catalogue) c.block_of-meta.ensures.is_meta in
    after_taken q g k m c.next-next.result locks refl from c.in-Some-turn.turn c.take_turn-forced.result new _ meta turns c.take_turn-forced.ensures refl

pub returns-clause-asks : goal.returns-clause-asks
returns-clause-asks c =
    let i = c.self.inside in
    let p : Parts = record { opening = opening_of i.start; shelf = i.shelf; last = i.last; moment = i.moment; clock = i.clock; renders = i.locks.renders; book = i.cuts.book } in
    let h = i.past.entries in
    let state_is = ap (λ (v : Cored). v.state) c.self.view_is in
    let m = c.block_of-meta.result in
    let t = c.in-Some.kept in
    let l = c.turn_where.ensures.shelf in
    let there : find (is_of m) (listed c.turn_where.new.shelf.blobs) ≡ Some t = ap (λ (bs : List KeptBlob). find (is_of m) (listed bs)) l.blobs ∙ sym c.kept_of.ensures ∙ c.in-Some.is in
    let n = c.now-self-inside.result in
    let g = c.and-self-inside.result.entries in
    let locks = c.turn_where.new.locks in
    let q : Parts = record { opening = opening_of i.start; shelf = c.turn_where.new.shelf; last = i.last; moment = n; clock = c.now-self-inside.new.self; renders = locks.renders; book = i.cuts.book } in
    let asked : Parts = record { opening = opening_of i.start; shelf = c.turn_where.new.shelf; last = i.last; moment = n; clock = c.now-self-inside.new.self; renders = i.locks.renders; book = i.cuts.book } in
    let e : q ≡ asked = λ j. record { opening = opening_of i.start; shelf = c.turn_where.new.shelf; last = i.last; moment = n; clock = c.now-self-inside.new.self; renders = c.turn_where.ensures.renders j; book = i.cuts.book } in
    let k = after_asked p h c.self.invariant n g q c.and-self-inside.ensures l e c.turn_where.ensures.no_less in
    let from = c.next-next.ensures ∙ sym (ap (λ (v : State). next v.opening (now v)) state_is) ∙ ap (next (opening_of i.start)) c.self.invariant.stands in
    let turns = subst (λ (o : Option Turn). IfSome o (IsTurn m c.next-next.result locks c.turn_where.new.shelf)) c.in-Some-turn.is c.in_ok-turn.ensures.turn in
    let a = c.args.address.now in
    let is = c.block_of-meta.ensures.meta ∙ ap (λ (x : Catalogue). block_of x a) (c.catalogue.ensures.catalogue ∙ sym l.catalogue) in
    let its = subst (λ (o : MetaKey). find (is_of o) (listed q.shelf.blobs) ≡ Some t) is there in
    let limit = c.limit_for-limit.ensures ∙ ap (λ (x : Catalogue). limit_for x a) (c.catalogue-2.ensures.catalogue ∙ sym l.catalogue) in
    let then = asked_is p h c.self.invariant n g q c.and-self-inside.ensures l e c.now-self-inside.ensures ∙ ap (asked_at q.clock.moment) state_is in
    let new : Progress = record { renders = c.take_turn-forced.new.locks.renders; last = c.take_turn-forced.new.last; past = c.take_turn-forced.new.past.entries } in
    let left : State = record { catalogue = c.turn_where.new.shelf.catalogue; opening = opening_of i.start; history = whole (opening_of i.start) new.past; since = new.past; blobs = Some c.turn_where.new.shelf.blobs; clock = c.now-self-inside.new.self } in
    let row = taken_row q g k m c.next-next.result locks refl from c.in-Some-turn.turn c.take_turn-forced.result new left turns c.take_turn-forced.ensures refl in
    let unkept = older_unkept q g k a t c.limit_for-limit.result its limit (sym c.is_within.ensures ∙ c.if-is_within.false) in (
      subst (λ (s : State). IsUnkept s a) then unkept,
      subst (λ (s : State). IsForcedOf s (block_of s.catalogue a) c.take_turn-forced.result left) then (subst (λ (o : MetaKey). IsForcedOf (seen q g) o c.take_turn-forced.result left) is row),
    )
