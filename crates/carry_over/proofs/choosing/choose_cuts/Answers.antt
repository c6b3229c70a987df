use Rattle.std.proofs.Common.{rules, ◌+◌, List, drop, subst}
use Rattle.truncation_list.specs.declared.book.Cut.{Cut}
use Rattle.carry_over.proofs.Choices.{WillChooseCuts, cuts_now, cuts_with, cuts_without, drop_at, drop_end}
use Rattle.carry_over.proofs.choosing.choose_cuts.Goals as goal
use Rattle.carry_over.proofs.choosing.choose_cuts.Goals.{then-is_cover_of+in-Ok, else-is_cover_of}

pub choosing-preserved : goal.choosing-preserved
choosing-preserved c =
    let d = c.args.to.now in
    let all = c.args.cuts.now.book.cuts in
    let at = c.choosing.at in
    let k : Cut = record { number = c.cut_at-number.result.0; cover = c.cut_at-number.result.1 } in
    let us = c.choosing.chosen.items in
    let will = subst (λ (l : List Cut). WillChooseCuts d all l us) (drop_at all at k c.cut_at-number.ensures) c.choosing.invariant in
    elim c.if-is_cover_of.branch [
      | then-is_cover_of+in-Ok w ↦ cuts_with d all (drop (at + 1) all) k us c.if-is_cover_of.chosen.items (search rules) (search rules) will
      | else-is_cover_of w ↦ subst (λ (l : List Cut). WillChooseCuts d all (drop (at + 1) all) l) (search rules) (cuts_without d all (drop (at + 1) all) k us (search rules) will)
    ]

pub returns : goal.returns
returns c =
    let all = c.args.cuts.now.book.cuts in
    cuts_now c.args.to.now all (drop c.choosing.at all) c.choosing.chosen.items (drop_end all c.choosing.at (search rules)) c.choosing.invariant
