use Rattle.std.proofs.Common.{ℕ, ◌≡◌, ◌∙◌, arith, inl, inr, subst, sym, false, List}
use Rattle.std.specs.List.{All, Contains}
use Rattle.std.proofs.lemmas.Bool.{cases_eq}
use Rattle.std.proofs.lemmas.List.Elements.{All-filter}
use Rattle.slab.specs.Slab.{ContainsKey}
use Rattle.truncation_list.specs.Contains.{contains}
use Rattle.truncation_list.specs.Index.{slots_in, stands}
use Rattle.truncation_list.specs.Slots.{AreTaken, cut_in}
use Rattle.truncation_list.proofs.Along.{none_is_within}
use Rattle.truncation_list.proofs.Filters.{filter_within}
use Rattle.truncation_list.proofs.looking.some_within.Goals as goal

pub first_within-requires-in-looking : goal.first_within-requires-in-looking
first_within-requires-in-looking c =
    let cover = c.args.cover.now in
    let slots = c.args.slots.now in
    subst (AreTaken slots) (sym (c.list_in.ensures ∙ c.requires.lists c.looking.k)) (All-filter (λ slot. stands cover.layer cover.grid c.looking.k (cut_in slots slot).cover) (ContainsKey slots) c.args.order.now c.requires.taken)

pub returns-in-Some : goal.returns-in-Some
returns-in-Some c =
    let cover = c.args.cover.now in
    let slots = c.args.slots.now in
    let found = c.in-Some.ensures in
    (filter_within (λ slot. stands cover.layer cover.grid c.looking.k (cut_in slots slot).cover) c.args.order.now c.in-Some.slot (subst (λ (list : List ℕ). Contains list c.in-Some.slot) (c.list_in.ensures ∙ c.requires.lists c.looking.k) found.0), found.1)

pub looking-preserved : goal.looking-preserved
looking-preserved c =
    let cover = c.args.cover.now in
    let slots = c.args.slots.now in
    let here = subst (λ (list : List ℕ). All (λ slot. contains cover (cut_in slots slot).cover ≡ false) list) c.list_in.ensures c.in-None.ensures in
    record {
      none = λ k f b.
          elim (cases_eq k c.looking.k) [
            | inl s ↦ subst (λ (j : ℕ). All (λ slot. contains cover (cut_in slots slot).cover ≡ false) (slots_in c.args.lists.now j)) (sym s) here
            | inr ne ↦ c.looking.invariant.none k f (omega arith)
          ];
    }

pub returns : goal.returns
returns c =
    let cover = c.args.cover.now in
    let slots = c.args.slots.now in
    let end = c.last_list-last.ensures.list in
    none_is_within slots c.args.order.now cover (λ k f l. subst (λ (list : List ℕ). All (λ slot. contains cover (cut_in slots slot).cover ≡ false) list) (c.requires.lists k) (c.looking.invariant.none k f (omega arith)))
