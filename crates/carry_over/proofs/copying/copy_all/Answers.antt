use Rattle.std.proofs.Common.{rules, ◌≡◌, ◌+◌, ◌∷◌, IsTrue, List, ℕ, drop, sym, subst, ◌∙◌, arith}
use Rattle.cabinet.specs.declared.kept.Kept.{Kept}
use Rattle.cache_file.specs.File.{HoldsBlob}
use Rattle.disk_model.specs.Content.{Content}
use Rattle.carry_over.specs.Copied.{IsCopyOn}
use Rattle.carry_over.proofs.Choices.{drop_at, drop_end}
use Rattle.carry_over.proofs.Copies.{WillBePart, copied_more, count_more, part_more, part_now, unread_more}
use Rattle.carry_over.proofs.Pieces.{quiet_then}
use Rattle.carry_over.proofs.copying.copy_all.Goals as goal

pub copying-preserved : goal.copying-preserved
copying-preserved g c =
    let chosen = c.args.chosen.now in
    let at = c.copying.at in
    let ts = drop (at + 1) chosen in
    let one = c.kept_at-one.result in
    let is = c.in-Ok.is' in
    let us = c.copying.kept.items in
    let vs = c.note.new.kept.items in
    let n = c.copying.unread in
    let m = c.note.new.unread in
    let inv = c.copying.invariant in
    let did = c.copy_one.ensures in
    let notes = c.in-Ok-note.ensures.noted in
    let first = g.D.Disk.state c.args.old.now in
    let before = g.D.Disk.state c.copying.old in
    let start = c.args.new.now.start in
    let mid = g.E.Disk.state c.copying.new.disk in
    let after = g.E.Disk.state c.copy_one.new.new.disk in
    let will : WillBePart us (one ∷ ts) chosen = subst (λ (l : List Kept). WillBePart us l chosen) (drop_at chosen at one c.kept_at-one.ensures) inv.part in
    record {
      old_told = did.old_told ∙ inv.old_told;
      quiet = λ told. quiet_then first before (g.D.Disk.state c.copy_one.new.old) (inv.quiet told) (did.quiet (subst IsTrue (sym inv.old_told) told));
      old_later = let a = did.old_later in let b = inv.old_later in omega (arith, a, b);
      told = did.told ∙ inv.told;
      start = did.start ∙ inv.start;
      journal = did.journal ∙ inv.journal;
      whole = did.whole;
      part = part_more chosen ts one is us vs n m notes will;
      count = count_more one is us vs n m at notes inv.count;
      unread = unread_more one is us vs n m (g.D.Disk.faults c.args.old.now) (g.D.Disk.faults c.copying.old) (g.D.Disk.faults c.copy_one.new.old) notes inv.old_later did.old_later inv.unread c.in-Ok.ensures.unread;
      copied = λ old_told new_told.
          let told_then : IsTrue (g.D.Disk.told c.copying.old) = subst IsTrue (sym inv.old_told) old_told in
          let told_new : IsTrue (g.E.Disk.told c.copying.new.disk) = subst IsTrue (sym inv.told) new_told in
          let same : before.seen ≡ first.seen = (inv.quiet old_told).reads in
          copied_more c.args.start first.seen start mid after one
          (λ place blob apart holds. subst (λ (s : ℕ). HoldsBlob s place blob after) inv.start (did.keeps place blob told_new apart (subst (λ (s : ℕ). HoldsBlob s place blob mid) (sym inv.start) holds)))
          chosen ts us vs is n m c.requires.disjoint will notes
          (λ yes. subst (λ (x : Content). IsCopyOn c.args.start x start after one) same (subst (λ (s : ℕ). IsCopyOn c.args.start before.seen s after one) inv.start (c.in-Ok.ensures.copied told_then told_new yes)))
          (inv.copied old_told new_told);
      later = let a = did.later in let b = inv.later in omega (arith, a, b);
    }

pub returns-clause-part : goal.returns-clause-part
returns-clause-part g c =
    part_now c.args.chosen.now (drop c.copying.at c.args.chosen.now) c.copying.kept.items (drop_end c.args.chosen.now c.copying.at (search rules)) c.copying.invariant.part
