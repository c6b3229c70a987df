use Rattle.std.proofs.Common.{◌≡◌, ◌+◌, ◌*◌, ℕ, length, sym, ◌∙◌, ap, subst, arith, IsTrue}
use Rattle.disk_model.specs.Content.{Content, byte_at, resized}
use Rattle.gate_journal.specs.Layout.{new_layout}
use Rattle.gate_journal.specs.Sound.{IsLaidOut}
use Rattle.gate_journal.proofs.Gates.{laid_out_opens}
use Rattle.gate_journal.proofs.Made.{all_zeros, laid_out}
use Rattle.gate_journal.proofs.making.make.Goals as goal

pub returns-clause-first : goal.returns-clause-first
returns-clause-first g c told =
    let told1 = subst IsTrue (sym c.cut.ensures.told) told in
    let told2 = subst IsTrue (sym c.cut-2.ensures.told) told1 in
    let told3 = subst IsTrue (sym c.write_at.ensures.told) told2 in
    let size : length c.args.digest.now ≡ 32 = omega arith in
    let long : length c.header_body.result ≡ 63 = omega arith in
    let end : ℕ = 128 + 128 * c.args.slots in
    let old : Content = (g.D.Disk.state c.args.disk.now).seen in
    let grown : (g.D.Disk.state c.cut-2.new.self).seen ≡ resized end (resized 0 old) = c.in_ok-cut-2.ensures.resized told1 ∙ ap (resized end) (c.in_ok-cut.ensures.resized told) in
    let zeros : (place : ℕ) → byte_at (g.D.Disk.state c.cut-2.new.self).seen place ≡ 0 = λ place. ap (λ (d : Content). byte_at d place) grown ∙ all_zeros end old place in
    λ d now.
    subst (λ (e : Content). IsLaidOut (new_layout c.args.digest.now c.args.slots) e) (sym (c.in_ok-open_gate.ensures.durable told3 d now))
    (laid_out c.args.slots c.args.digest.now c.header_body.result (g.D.Disk.state c.cut-2.new.self).seen (g.D.Disk.state c.write_at.new.self).seen (g.D.Disk.state c.open_gate.new.disk).seen size zeros long c.header_body.ensures
    (c.in_ok-write_at.ensures.written told2) (c.in_ok-open_gate.ensures.written told3))

pub returns-clause-made : goal.returns-clause-made
returns-clause-made g c told =
    λ d now. laid_out_opens (new_layout c.args.digest.now c.args.slots) d (omega arith) (returns-clause-first g c told d now)
