use Rattle.std.proofs.Common.{◌≡◌, ◌-◌, ◌<◌, suc, arith}
use Rattle.std.proofs.lemmas.Bool.Decides.{nat_tests}
use Rattle.truncation_list.specs.declared.book.Cut.{Cut}
use Rattle.cabinet_records.proofs.AimedCuts.{lesser_before}
use Rattle.cabinet_records.proofs.replay.aiming.goes_down_to.Goals as goal

pub returns : goal.returns
returns c = λ is.
    let left = c.args.aims.now.left in
    let less : c.cut_at-last.result.0 < c.args.number = grind (arith, nat_tests) in
    let last : Cut = record { number = c.cut_at-last.result.0; cover = c.cut_at-last.result.1 } in
    let some : left ≡ suc (left - 1) = omega (arith, c.if-aims-eq0.false) in
    lesser_before c.args.number c.args.cuts.now.book.cuts left (left - 1) last some c.count-count.ensures.order.by_number c.cut_at-last.ensures less
