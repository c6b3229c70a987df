use Rattle.std.proofs.Common.{ℕ, ◌≡◌, ◌≤◌, ◌<◌, ap, arith, get_or, subst, sym, false, length, List, IsTrue}
use Rattle.std.specs.List.{All, Contains}
use Rattle.std.proofs.lemmas.List.{length-map}
use Rattle.std.proofs.lemmas.List.Elements.{All-map}
use Rattle.truncation_list.specs.declared.book.Cut.{Cut}
use Rattle.truncation_list.specs.Contains.{contains}
use Rattle.truncation_list.specs.Listed.{Indexed}
use Rattle.truncation_list.specs.Slots.{cut_in, cuts_in, no_cut}
use Rattle.truncation_list.proofs.Along.{place_is}
use Rattle.truncation_list.proofs.indexed.IndexedCuts.one_within.Goals as goal

pub returns-in-None : goal.returns-in-None
returns-in-None c =
    let slots = c.self.inside.slots in
    let cover = c.args.cover.now in
    subst (λ (i : Indexed). All (λ cut. contains cover cut.cover ≡ false) i.cuts) c.self.view_is
    (All-map (λ cut. contains cover cut.cover ≡ false) (cut_in slots) c.self.inside.order.items
    (subst (λ (order : List ℕ). All (λ slot. contains cover (cut_in slots slot).cover ≡ false) order) c.deref.ensures.value c.in-None.ensures))

pub returns-in-Some : goal.returns-in-Some
returns-in-Some c =
    let slots = c.self.inside.slots in
    let cover = c.args.cover.now in
    let order = c.self.inside.order.items in
    let slot = c.in-Some.slot in
    let i = c.place_of.result in
    let number = ap (λ (cut : Cut). cut.number) c.cut_in.ensures in
    let list = c.deref-in-Some.ensures.value in
    let before = subst (λ (xs : List ℕ). (j : ℕ) → j < i → (get_or (cuts_in slots xs) j no_cut).number < c.cut_in.result.now.number) list c.place_of.ensures.before in
    let from = subst (λ (xs : List ℕ). (j : ℕ) → i ≤ j → j < length xs → c.cut_in.result.now.number ≤ (get_or (cuts_in slots xs) j no_cut).number) list c.place_of.ensures.from in
    let there = subst (λ (xs : List ℕ). Contains xs slot) c.deref.ensures.value c.in-Some.ensures.0 in
    let at = place_is (cut_in slots) order slot i no_cut c.self.invariant.0.in_order.by_number there (λ j b. let l = before j b in omega (arith, l, number)) (λ j b l. let m = from j b l in omega (arith, m, number)) in
    let long = ap (λ (v : Indexed). length v.cuts) c.self.view_is in
    let n = length-map order (cut_in slots) in
    let within = at.0 in (
      omega (arith, within, long, n),
      subst (λ (v : Indexed). IsTrue (contains cover (get_or v.cuts i no_cut).cover)) c.self.view_is (subst (λ (cut : Cut). IsTrue (contains cover cut.cover)) (sym at.1) c.in-Some.ensures.1),
    )
