use Rattle.std.proofs.Common.{rules, ◌+◌, List, drop, subst}
use Rattle.cabinet.specs.declared.kept.Kept.{Kept}
use Rattle.carry_over.proofs.Choices.{WillChoose, adds_few, choose_more, chosen_now, drop_at, drop_end}
use Rattle.carry_over.proofs.choosing.choose.Goals as goal

pub choosing-preserved : goal.choosing-preserved
choosing-preserved c =
    let from = c.args.from.now in
    let to = c.args.to.now in
    let all = c.args.kept.now in
    let at = c.choosing.at in
    let t = c.kept_at-t.result in
    let us = c.choosing.chosen.items in
    let n = c.choosing.roomless in
    let next = drop_at all at t c.kept_at-t.ensures in
    record {
      will = choose_more from to all (drop (at + 1) all) t c.choice_of-choice.result us c.add.new.chosen.items n c.add.new.roomless c.choice_of-choice.ensures c.in-Ok.ensures
          (subst (λ (l : List Kept). WillChoose from to all l us n) next c.choosing.invariant.will);
      few = adds_few t c.choice_of-choice.result us c.add.new.chosen.items n c.add.new.roomless at c.in-Ok.ensures c.choosing.invariant.few;
    }

pub returns : goal.returns
returns c =
    let all = c.args.kept.now in
    chosen_now c.args.from.now c.args.to.now all (drop c.choosing.at all) c.choosing.chosen.items c.choosing.roomless (drop_end all c.choosing.at (search rules)) c.choosing.invariant.will
