use Rattle.std.proofs.Common.{◌≡◌, ◌≢◌, ℕ, ◌+◌, List, get_or, sym, ◌∙◌, ap, subst, IsTrue}
use Rattle.disk_model.specs.Content.{byte_at, TornWrite}
use Rattle.disk_model.specs.Images.{ChangesBy, Every}
use Rattle.gate_journal.specs.Layout.{header_at, header_gate, other_half}
use Rattle.gate_journal.specs.Sound.{layout_of}
use Rattle.gate_journal.proofs.Switching.{only_read, closing_other, shut_by_write, shut_in_each}
use Rattle.gate_journal.proofs.journal.Journal.close_other.Goals as goal

pub returns-in_err-close_gate-clause-keeps : goal.returns-in_err-close_gate-clause-keeps
returns-in_err-close_gate-clause-keeps g c told =
    let j = c.args.self.now in
    let old = g.D.Disk.state c.args.disk.now in
    let mid = g.D.Disk.state c.read.new.self in
    let new = g.D.Disk.state c.close_gate.new.disk in
    let told1 = subst IsTrue (sym c.read.ensures.told) told in
    let here : c.header-gate.result + 63 ≡ header_gate (other_half j.half) = ap (λ (n : ℕ). n + 63) (c.header-gate.ensures ∙ ap header_at c.other.ensures) in
    let held : byte_at old.seen (header_gate (other_half j.half)) ≡ 1 = ap (byte_at old.seen) (sym here) ∙ ap (λ (l : List ℕ). get_or l 0 0) (sym (c.in_ok-read.ensures.bytes told)) ∙ c.if-byte-eq1.true in
    closing_other (layout_of j) j.within j.gate old mid (g.met.D.Disk.lawful c.args.disk.now told) (g.met.D.Disk.lawful c.read.new.self told1) (c.requires told) (c.read.ensures.steps told) held new
    (subst (λ (n : ℕ). ChangesBy (TornWrite n 1) mid new) here (c.close_gate.ensures.changes told1))

pub returns-in_ok-close_gate-clause-keeps : goal.returns-in_ok-close_gate-clause-keeps
returns-in_ok-close_gate-clause-keeps g c told =
    let j = c.args.self.now in
    let old = g.D.Disk.state c.args.disk.now in
    let mid = g.D.Disk.state c.read.new.self in
    let new = g.D.Disk.state c.close_gate.new.disk in
    let told1 = subst IsTrue (sym c.read.ensures.told) told in
    let here : c.header-gate.result + 63 ≡ header_gate (other_half j.half) = ap (λ (n : ℕ). n + 63) (c.header-gate.ensures ∙ ap header_at c.other.ensures) in
    let held : byte_at old.seen (header_gate (other_half j.half)) ≡ 1 = ap (byte_at old.seen) (sym here) ∙ ap (λ (l : List ℕ). get_or l 0 0) (sym (c.in_ok-read.ensures.bytes told)) ∙ c.if-byte-eq1.true in
    closing_other (layout_of j) j.within j.gate old mid (g.met.D.Disk.lawful c.args.disk.now told) (g.met.D.Disk.lawful c.read.new.self told1) (c.requires told) (c.read.ensures.steps told) held new
    (subst (λ (n : ℕ). ChangesBy (TornWrite n 1) mid new) here (c.close_gate.ensures.changes told1))

pub returns-else-byte-eq1-clause-keeps : goal.returns-else-byte-eq1-clause-keeps
returns-else-byte-eq1-clause-keeps g c told =
    let j = c.args.self.now in
    let told1 = subst IsTrue (sym c.read.ensures.told) told in
    only_read (layout_of j) j.within j.gate (g.D.Disk.state c.args.disk.now) (g.D.Disk.state c.read.new.self) (g.met.D.Disk.lawful c.args.disk.now told) (g.met.D.Disk.lawful c.read.new.self told1) (c.requires told) (c.read.ensures.steps told)

pub returns-in_ok-close_gate-clause-shut : goal.returns-in_ok-close_gate-clause-shut
returns-in_ok-close_gate-clause-shut g c told =
    let j = c.args.self.now in
    let mid = g.D.Disk.state c.read.new.self in
    let new = g.D.Disk.state c.close_gate.new.disk in
    let told1 = subst IsTrue (sym c.read.ensures.told) told in
    let here : c.header-gate.result + 63 ≡ header_gate (other_half j.half) = ap (λ (n : ℕ). n + 63) (c.header-gate.ensures ∙ ap header_at c.other.ensures) in
    subst (λ (n : ℕ). Every new.may_leave (λ d. byte_at d n ≢ 1)) here
    (shut_by_write (c.header-gate.result + 63) mid new (c.in_ok-close_gate.ensures.written told1) (c.in_ok-close_gate.ensures.durable told1))

pub returns-in_err-read-clause-keeps : goal.returns-in_err-read-clause-keeps
returns-in_err-read-clause-keeps g c told =
    let j = c.args.self.now in
    let told1 = subst IsTrue (sym c.read.ensures.told) told in
    only_read (layout_of j) j.within j.gate (g.D.Disk.state c.args.disk.now) (g.D.Disk.state c.read.new.self) (g.met.D.Disk.lawful c.args.disk.now told) (g.met.D.Disk.lawful c.read.new.self told1) (c.requires told) (c.read.ensures.steps told)

pub returns-else-byte-eq1-clause-shut : goal.returns-else-byte-eq1-clause-shut
returns-else-byte-eq1-clause-shut g c told =
    let j = c.args.self.now in
    let old = g.D.Disk.state c.args.disk.now in
    let told1 = subst IsTrue (sym c.read.ensures.told) told in
    let here : c.header-gate.result + 63 ≡ header_gate (other_half j.half) = ap (λ (n : ℕ). n + 63) (c.header-gate.ensures ∙ ap header_at c.other.ensures) in
    let shut : byte_at old.seen (header_gate (other_half j.half)) ≢ 1 = λ is. c.if-byte-eq1.false (ap (λ (l : List ℕ). get_or l 0 0) (c.in_ok-read.ensures.bytes told) ∙ ap (byte_at old.seen) here ∙ is) in
    shut_in_each (layout_of j) j.within j.gate old (g.D.Disk.state c.read.new.self) (g.met.D.Disk.lawful c.args.disk.now told) (g.met.D.Disk.lawful c.read.new.self told1) (c.requires told) (c.read.ensures.steps told) shut
