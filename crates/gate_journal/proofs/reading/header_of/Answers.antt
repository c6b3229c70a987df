use Rattle.std.proofs.Common.{◌≡◌, nat_eq, true, false, List, ℕ, get_or, take, drop, replicate, refl, sym, ◌∙◌, ap}
use Rattle.std.specs.Cmp.Lexicographic.{pointwise}
use Rattle.gate_journal.proofs.Choosing.{slot_counts, slot_version, slot_number, slot_digest, generation_by}
use Rattle.gate_journal.proofs.Gates.{is_one, not_one}
use Rattle.gate_journal.proofs.reading.header_of.Goals as goal

pub returns-then-slot-ne1 : goal.returns-then-slot-ne1
returns-then-slot-ne1 c d at is = slot_counts d at c.args.slot.now is false _ _ (not_one (get_or c.args.slot.now 63 0) c.if-slot-ne1.true) refl refl

pub returns-then-not-ends : goal.returns-then-not-ends
returns-then-not-ends c d at is =
    let ends : pointwise nat_eq (take 15 (drop 48 c.args.slot.now)) (replicate 15 0) ≡ false = sym (c.eq-ends.ensures ∙ ap (λ (l : List ℕ). pointwise nat_eq (take 15 (drop 48 c.args.slot.now)) l) c.as_slice.ensures) ∙ c.if-not-ends.true in
    slot_counts d at c.args.slot.now is true true false (is_one (get_or c.args.slot.now 63 0) c.if-slot-ne1.false) c.in-Some.ensures.0 ends

pub returns : goal.returns
returns c d at is =
    let ends : pointwise nat_eq (take 15 (drop 48 c.args.slot.now)) (replicate 15 0) ≡ true = sym (c.eq-ends.ensures ∙ ap (λ (l : List ℕ). pointwise nat_eq (take 15 (drop 48 c.args.slot.now)) l) c.as_slice.ensures) ∙ c.if-not-ends.false in (
      slot_counts d at c.args.slot.now is true true true (is_one (get_or c.args.slot.now 63 0) c.if-slot-ne1.false) c.in-Some.ensures.0 ends,
      c.from_be_bytes.ensures ∙ generation_by d at c.copy_from_slice.new.self (c.copy_from_slice.ensures.after ∙ slot_number d at c.args.slot.now is),
      c.copy_from_slice-2.ensures.after ∙ slot_digest d at c.args.slot.now is,
      c.in-Some.ensures.1 ∙ slot_version d at c.args.slot.now is,
    )

pub returns-in_default : goal.returns-in_default
returns-in_default c d at is = slot_counts d at c.args.slot.now is true false _ (is_one (get_or c.args.slot.now 63 0) c.if-slot-ne1.false) c.in_default.ensures refl
