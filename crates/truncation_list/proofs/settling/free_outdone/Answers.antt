use Rattle.std.proofs.Common.{ℕ, ◌≡◌, ◌∙◌, ap, arith, get_or, is_some, subst, sym, IsTrue, Option, List}
use Rattle.std.specs.Prelude.{nat_le}
use Rattle.std.specs.List.{All}
use Rattle.std.proofs.lemmas.List.{take_all}
use Rattle.truncation_list.specs.declared.book.Cut.{Cut}
use Rattle.truncation_list.specs.Index.{list_of, listed}
use Rattle.truncation_list.specs.Purge.{RisesPast, is_outdone_among}
use Rattle.truncation_list.specs.Slots.{cut_in, cuts_in}
use Rattle.truncation_list.proofs.Freeing.{Passed, all_since, freed_next, left_next, own_same}
use Rattle.truncation_list.proofs.Outdone.{outdone_in_list, outdone_since, rises_in_list, rises_since, same_cut}
use Rattle.truncation_list.proofs.settling.free_outdone.Goals as goal
use Rattle.truncation_list.proofs.settling.free_outdone.Goals.{else-is_outdone, then-is_outdone}

pub cut_in-requires : goal.cut_in-requires
cut_in-requires c =
    let same = own_same c.args.slots.now c.args.order.now c.freeing.slots c.freeing.i 0 (omega arith) c.requires.in_order.by_number c.freeing.invariant in
    subst (λ (o : Option Cut). IsTrue (is_some o)) (sym same) (c.requires.taken c.freeing.i 0 (omega arith))

pub remove-requires : goal.remove-requires
remove-requires c =
    let same = own_same c.args.slots.now c.args.order.now c.freeing.slots c.freeing.i 0 (omega arith) c.requires.in_order.by_number c.freeing.invariant in
    subst (λ (o : Option Cut). IsTrue (is_some o)) (sym same) (c.requires.taken c.freeing.i 0 (omega arith))

pub is_outdone-requires-clause-order : goal.is_outdone-requires-clause-order
is_outdone-requires-clause-order c =
    let old = c.args.slots.now in
    let new = c.freeing.slots in
    let order = c.args.order.now in
    let i = c.freeing.i in
    let by_number = c.requires.in_order.by_number in
    let same = own_same old order new i 0 (omega arith) by_number c.freeing.invariant in
    let since = all_since old order new i 0 (omega arith) by_number c.freeing.invariant in
    subst (λ (k : Cut). RisesPast k.number (cuts_in new order)) (sym (c.cut_in.ensures ∙ same_cut old new (get_or order i 0) same)) (rises_since old new (cut_in old (get_or order i 0)).number order by_number since)

pub is_outdone-requires-clause-list : goal.is_outdone-requires-clause-list
is_outdone-requires-clause-list c =
    let old = c.args.slots.now in
    let new = c.freeing.slots in
    let order = c.args.order.now in
    let i = c.freeing.i in
    let shelves = c.args.index.now.shelves.items in
    let by_number = c.requires.in_order.by_number in
    let same = own_same old order new i 0 (omega arith) by_number c.freeing.invariant in
    let since = all_since old order new i 0 (omega arith) by_number c.freeing.invariant in
    subst (λ (k : Cut). RisesPast k.number (cuts_in new (listed shelves k.cover.layer k.cover.grid (list_of k.cover.z_start)))) (sym (c.cut_in.ensures ∙ same_cut old new (get_or order i 0) same))
    (rises_in_list old new order shelves c.requires.index (cut_in old (get_or order i 0)) since by_number)

pub is_outdone-requires-clause-same : goal.is_outdone-requires-clause-same
is_outdone-requires-clause-same c =
    let old = c.args.slots.now in
    let new = c.freeing.slots in
    let order = c.args.order.now in
    let i = c.freeing.i in
    let shelves = c.args.index.now.shelves.items in
    let by_number = c.requires.in_order.by_number in
    let same = own_same old order new i 0 (omega arith) by_number c.freeing.invariant in
    let since = all_since old order new i 0 (omega arith) by_number c.freeing.invariant in
    subst (λ (k : Cut). IsTrue (nat_le k.cover.z_start k.cover.z_stop) → is_outdone_among (cuts_in new (listed shelves k.cover.layer k.cover.grid (list_of k.cover.z_start))) k ≡ is_outdone_among (cuts_in new order) k)
    (sym (c.cut_in.ensures ∙ same_cut old new (get_or order i 0) same)) (outdone_in_list old new order shelves c.requires.index (cut_in old (get_or order i 0)) since)

pub freeing-preserved : goal.freeing-preserved
freeing-preserved c =
    let old = c.args.slots.now in
    let new = c.freeing.slots in
    let order = c.args.order.now in
    let i = c.freeing.i in
    let by_number = c.requires.in_order.by_number in
    let same = own_same old order new i 0 (omega arith) by_number c.freeing.invariant in
    let since = all_since old order new i 0 (omega arith) by_number c.freeing.invariant in
    let told = sym (outdone_since old new (cut_in old (get_or order i 0)) order since) ∙ ap (λ (k : Cut). is_outdone_among (cuts_in new order) k) (sym (c.cut_in.ensures ∙ same_cut old new (get_or order i 0) same)) ∙ sym c.is_outdone.ensures in
    elim c.if-is_outdone.branch [
      | then-is_outdone w ↦
          let gone = w.remove.ensures in
          rw w.slots-is (freed_next old order new i 0 (omega arith) by_number c.freeing.invariant w.remove.new.self gone.updates (told ∙ w.if-is_outdone.true) gone.capacity gone.len)
      | else-is_outdone w ↦ rw w.slots-is (left_next old order new i 0 (omega arith) by_number c.freeing.invariant (told ∙ w.if-is_outdone.false))
    ]

pub returns-clause-slots : goal.returns-clause-slots
returns-clause-slots c =
    subst (λ (xs : List ℕ). All (Passed c.args.slots.now c.args.order.now c.freeing.slots) xs) (take_all c.freeing.i c.args.order.now (omega arith)) c.freeing.invariant.passed
