use Rattle.std.proofs.Common.{ℕ, ◌≡◌, ◌∙◌, ap, inl, refl, subst, sym, IsTrue, List}
use Rattle.std.specs.Prelude.{nat_le}
use Rattle.truncation_list.specs.declared.book.Cut.{Cut}
use Rattle.truncation_list.specs.Index.{list_of, listed}
use Rattle.truncation_list.specs.Listed.{Indexed}
use Rattle.truncation_list.specs.Purge.{IsByNumber, RisesPast, is_outdone_among}
use Rattle.truncation_list.specs.Slots.{cuts_in, no_cut}
use Rattle.truncation_list.proofs.Outdone.{outdone_at, outdone_in_list, rises_in_list, rises_since}
use Rattle.truncation_list.proofs.indexed.IndexedCuts.is_outdone.Goals as goal

pub is_outdone-requires-clause-order : goal.is_outdone-requires-clause-order
is_outdone-requires-clause-order c =
    let slots = c.self.inside.slots in
    let order = c.self.inside.order.items in
    let number = c.cut-cut.result.now.number in
    subst (λ (xs : List ℕ). RisesPast number (cuts_in slots xs)) (sym c.deref.ensures.value) (rises_since slots slots number order c.self.invariant.0.in_order.by_number (λ k d l. inl refl))

pub is_outdone-requires-clause-list : goal.is_outdone-requires-clause-list
is_outdone-requires-clause-list c =
    let slots = c.self.inside.slots in
    let h = c.self.invariant.0 in
    rises_in_list slots slots c.self.inside.order.items c.self.inside.index.shelves.items h.index c.cut-cut.result.now (λ k d l. inl refl) h.in_order.by_number

pub is_outdone-requires-clause-same : goal.is_outdone-requires-clause-same
is_outdone-requires-clause-same c =
    let slots = c.self.inside.slots in
    let shelves = c.self.inside.index.shelves.items in
    let cut = c.cut-cut.result.now in
    let list = listed shelves cut.cover.layer cut.cover.grid (list_of cut.cover.z_start) in
    subst (λ (xs : List ℕ). IsTrue (nat_le cut.cover.z_start cut.cover.z_stop) → is_outdone_among (cuts_in slots list) cut ≡ is_outdone_among (cuts_in slots xs) cut) (sym c.deref.ensures.value)
    (outdone_in_list slots slots c.self.inside.order.items shelves c.self.invariant.0.index cut (λ k d l. inl refl))

pub returns : goal.returns
returns c =
    let slots = c.self.inside.slots in
    let cut = c.cut-cut.result.now in
    let cuts = c.args.self.now.cuts in
    let by_number = subst (λ (v : Indexed). IsByNumber v.cuts) c.self.view_is c.self.invariant.0.in_order.by_number in
    c.is_outdone.ensures
    ∙ ap (λ (xs : List ℕ). is_outdone_among (cuts_in slots xs) cut) c.deref.ensures.value
    ∙ ap (λ (v : Indexed). is_outdone_among v.cuts cut) c.self.view_is
    ∙ ap (λ (k : Cut). is_outdone_among cuts k) c.cut-cut.ensures ∙ outdone_at cuts c.args.i no_cut c.requires by_number
