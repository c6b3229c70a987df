use Rattle.std.proofs.Common.{◌≡◌, ℕ, List, take, drop, nat_eq, replicate, true, false, sym, ◌∙◌, ap, Some, Option}
use Rattle.std.specs.Cmp.Lexicographic.{pointwise}
use Rattle.change_feed.specs.declared.mark.Mark.{Mark}
use Rattle.change_feed.specs.Marks.{mark_of}
use Rattle.change_feed.proofs.Spelling.{spells_none, spells_some}
use Rattle.change_feed.proofs.bodies.mark_of.Goals as goal

pub returns-then-not-ends : goal.returns-then-not-ends
returns-then-not-ends c =
    spells_none c.args.body.now (sym (c.eq-ends.ensures ∙ ap (λ (l : List ℕ). pointwise nat_eq (take 47 (drop 16 c.args.body.now)) l) c.as_slice.ensures) ∙ c.if-not-ends.true)

pub returns : goal.returns
returns c =
    let ends : pointwise nat_eq (take 47 (drop 16 c.args.body.now)) (replicate 47 0) ≡ true = sym (c.eq-ends.ensures ∙ ap (λ (l : List ℕ). pointwise nat_eq (take 47 (drop 16 c.args.body.now)) l) c.as_slice.ensures) ∙ c.if-not-ends.false in
    (λ k. Some (record { number = c.number_at.ensures k; cut = c.number_at-2.ensures k })) ∙ spells_some c.args.body.now ends
