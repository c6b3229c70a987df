use Rattle.std.proofs.Common.{rules, ◌≡◌, ◌+◌, ◌++◌, IsTrue, sym, subst, ◌∙◌}
use Rattle.disk_model.specs.Content.{bytes_at}
use Rattle.carry_over.proofs.Pieces.{bytes_on, quiet_then}
use Rattle.carry_over.proofs.reading.read_blob.Goals as goal
use Rattle.carry_over.proofs.reading.read_blob.Goals.{then-piece-left, else-piece-left}

pub reading-preserved : goal.reading-preserved
reading-preserved g c =
    let told = g.D.Disk.told in
    let state = g.D.Disk.state in
    let first = c.args.disk.now in
    let before = c.reading.disk in
    let from = c.reading.from in
    let count = c.if-piece-left.count in
    let at = c.args.at in
    let inv = c.reading.invariant in
    let called = c.in-Ok.ensures in
    record {
      told = c.read_more.ensures.told ∙ inv.told;
      quiet = λ is. quiet_then (state first) (state before) (state c.read_more.new.disk) (inv.quiet is) (c.read_more.ensures.quiet (subst IsTrue (sym inv.told) is));
      long = search rules;
      read = λ is.
          let same : (state before).seen ≡ (state first).seen = (inv.quiet is).reads in
          let more : c.read_more.new.blob.items ≡ c.reading.blob.items ++ bytes_at (state before).seen (at + from) count = search rules in
          more ∙ ((λ k. inv.read is k ++ bytes_at (same k) (at + from) count) ∙ bytes_on (state first).seen at from count);
      within = elim c.if-piece-left.branch [
        | then-piece-left w ↦ search rules
        | else-piece-left w ↦ search rules
      ];
      later = search rules;
    }
