use Rattle.std.proofs.Common.{◌≡◌, ℕ, ◌/◌, ◌<◌, ◌∙◌, IsTrue, List, length, subst, sym, arith}
use Rattle.disk_model.specs.Content.{Content}
use Rattle.summed_disk.proofs.Keeping.{AreSummedTo, summed_all, summed_more}
use Rattle.summed_disk.proofs.entries.write_sums.Goals as goal

pub loop-i-preserved : goal.loop-i-preserved
loop-i-preserved g c =
    let inv = c.loop-i.invariant in
    let part = c.args.part in
    let wide = c.requires.piece in
    let some : 0 < c.args.grain = let least = c.requires.grain in omega arith in
    record {
      same_told = c.write_piece.ensures.told ∙ inv.same_told;
      summed = λ told.
          let later = subst IsTrue (sym inv.same_told) told in
          summed_more c.loop-i.i c.args.grain part.number part.from c.args.piece c.args.at c.args.bytes.now (g.S.Disk.state c.args.sums.now).seen (g.S.Disk.state c.loop-i.sums).seen (g.S.Disk.state c.write_piece.new.sums).seen some wide
          (inv.summed told) (c.in_ok-write_piece.ensures.sum later) (c.in_ok-write_piece.ensures.others later);
      faults = omega (arith, inv.faults, c.write_piece.ensures.cause.later);
    }

pub returns-clause-sums : goal.returns-clause-sums
returns-clause-sums g c told =
    let part = c.args.part in
    let bytes : List ℕ = c.args.bytes.now in
    let piece : ℕ = c.args.piece in
    let old : Content = (g.S.Disk.state c.args.sums.now).seen in
    let new : Content = (g.S.Disk.state c.loop-i.sums).seen in
    let some : 0 < piece = let least = c.requires.grain in let wide = c.requires.piece in omega arith in
    let all : c.loop-i.i ≡ length bytes / piece = let end = c.loop-i.auto.i-end in let not = c.loop-i-test.false in omega arith in
    summed_all c.args.grain part.number part.from piece c.args.at bytes old new some
    (subst (λ (n : ℕ). AreSummedTo n c.args.grain part.number part.from piece c.args.at bytes old new) all (c.loop-i.invariant.summed told))
