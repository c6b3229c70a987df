use Rattle.std.proofs.Common.{◌-◌, ◌∙◌, arith, max, sym, ap, ℕ}
use Rattle.truncation_list.specs.declared.book.Cut.{Cut}
use Rattle.truncation_list.specs.Books.{last_seen}
use Rattle.truncation_list.specs.Listed.{Listed}
use Rattle.truncation_list.specs.Slots.{no_cut}
use Rattle.truncation_list.proofs.Last.{greatest_is_last}
use Rattle.truncation_list.proofs.list.CutList.seen.Goals as goal

pub returns : goal.returns
returns c =
    let cuts = c.self.inside.cuts.cuts in
    let count = c.len-count.result in
    let top = greatest_is_last cuts (count - 1) no_cut c.len-count.ensures.order.by_number (omega arith) in
    c.max.ensures
    ∙ ap (λ (n : ℕ). max c.self.inside.floor n) (ap (λ (cut : Cut). cut.number) c.cut.ensures ∙ sym top)
    ∙ ap (λ (l : Listed). last_seen l.book) c.self.view_is
