use Rattle.std.proofs.Common.{rules, ◌≡◌, ℕ, ◌+◌, ◌*◌, ◌≤◌, List, length, sym, ◌∙◌, subst, arith, IsTrue}
use Rattle.gate_journal.specs.Layout.{half_at, other_half}
use Rattle.gate_journal.proofs.Filling.{slots_more, torn_piece}
use Rattle.gate_journal.proofs.journal.Journal.fill_other.Goals as goal

pub loop-done-preserved : goal.loop-done-preserved
loop-done-preserved g c =
    let inv = c.loop-done.invariant in
    let j = c.args.self.now in
    let old = g.D.Disk.state c.args.disk.now in
    let mid = g.D.Disk.state c.loop-done.disk in
    let new = g.D.Disk.state c.write_at.new.self in
    let done : ℕ = c.loop-done.done in
    let count : ℕ = c.min-count.result in
    let upto : done + count ≤ j.slots = let lt = c.loop-done-test.true in let least = c.min-count.ensures in omega arith in
    let start : ℕ = half_at j.slots (other_half j.half) in
    let begins : c.start-start.result ≡ start = cc in
    let piece : List ℕ = c.fill_piece.new.piece in
    let size : length piece ≡ 64 * count = search rules in
    let later : IsTrue (g.D.Disk.told c.args.disk.now) → IsTrue (g.D.Disk.told c.loop-done.disk) = λ told. subst IsTrue (sym inv.same_told) told in
    record {
      same_told = c.write_at.ensures.told ∙ inv.same_told;
      changes = λ told. torn_piece start c.start-start.result (length piece) done count j.slots old mid new begins upto size (inv.changes told) (c.write_at.ensures.steps (later told));
      filled = λ told. slots_more start c.start-start.result done count c.args.bodies.now piece mid.seen new.seen begins size c.fill_piece.ensures (c.in_ok-write_at.ensures.written (later told)) (inv.filled told);
      within = upto;
      faults = omega (arith, inv.faults, c.write_at.ensures.cause.later);
    }

pub returns-in_err-write_at-clause-changes : goal.returns-in_err-write_at-clause-changes
returns-in_err-write_at-clause-changes g c told =
    let inv = c.loop-done.invariant in
    let j = c.args.self.now in
    let done : ℕ = c.loop-done.done in
    let count : ℕ = c.min-count.result in
    let upto : done + count ≤ j.slots = let lt = c.loop-done-test.true in let least = c.min-count.ensures in omega arith in
    let start : ℕ = half_at j.slots (other_half j.half) in
    let begins : c.start-start.result ≡ start = cc in
    let size : length c.fill_piece.new.piece ≡ 64 * count = search rules in
    torn_piece start c.start-start.result (length c.fill_piece.new.piece) done count j.slots (g.D.Disk.state c.args.disk.now) (g.D.Disk.state c.loop-done.disk) (g.D.Disk.state c.write_at.new.self) begins upto size (inv.changes told)
    (c.write_at.ensures.steps (subst IsTrue (sym inv.same_told) told))
