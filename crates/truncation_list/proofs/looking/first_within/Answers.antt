use Rattle.std.proofs.Common.{ℕ, ◌≡◌, ◌∙◌, arith, subst, sym, false, List, ap}
use Rattle.std.specs.List.{All}
use Rattle.std.proofs.lemmas.List.{take_all}
use Rattle.std.proofs.lemmas.List.Elements.{All-more}
use Rattle.truncation_list.specs.declared.book.Cut.{Cut}
use Rattle.truncation_list.specs.Contains.{contains}
use Rattle.truncation_list.specs.Slots.{cut_in}
use Rattle.truncation_list.proofs.looking.first_within.Goals as goal

pub looking-preserved : goal.looking-preserved
looking-preserved c = record {
  none = All-more (λ slot. contains c.args.cover.now (cut_in c.args.slots.now slot).cover ≡ false) c.args.list.now c.looking.p 0 (omega arith) c.looking.invariant.none (ap (λ (k : Cut). contains c.args.cover.now k.cover) (sym c.cut_in.ensures) ∙ sym c.contains.ensures ∙ c.if-contains.false);
}

pub returns : goal.returns
returns c =
    subst (λ (list : List ℕ). All (λ slot. contains c.args.cover.now (cut_in c.args.slots.now slot).cover ≡ false) list) (take_all c.looking.p c.args.list.now (omega arith)) c.looking.invariant.none
