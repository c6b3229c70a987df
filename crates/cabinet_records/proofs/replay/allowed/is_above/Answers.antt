use Rattle.std.proofs.Common.{◌≡◌, ◌<◌, arith}
use Rattle.std.proofs.lemmas.Bool.Decides.{nat_tests}
use Rattle.truncation_list.specs.Books.{greatest_number}
use Rattle.cabinet_records.proofs.Allowing.{above_is}
use Rattle.cabinet_records.proofs.replay.allowed.is_above.Goals as goal

pub returns : goal.returns
returns c =
    let cuts = c.args.cuts.now.book.cuts in
    let seen : c.seen.result ≡ greatest_number cuts = omega (arith, c.seen.ensures, c.requires) in
    let s = above_is c.args.number cuts (λ none. omega (arith, none, c.count.ensures.count, c.if-count-eq0.false)) in
    (λ is. s.0 (let l : c.seen.result < c.args.number = grind (arith, nat_tests) in omega (arith, l, seen)), λ all. let l = s.1 all in let m : c.seen.result < c.args.number = omega (arith, l, seen) in grind (arith, nat_tests))
