use Rattle.std.proofs.Common.{◌≡◌, ◌<◌, ◌+◌, ◌%◌, ◌^◌, ℕ, List, [], ◌∷◌, length, sym, ◌∙◌, ap, subst, arith, IsTrue, Ok}
use Rattle.std.proofs.lemmas.Result.{err_from_is_err_and}
use Rattle.disk_model.specs.Content.{bytes_at, written, TornWrite}
use Rattle.disk_model.specs.Images.{ChangesBy}
use Rattle.disk_model.specs.declared.disk.Failed.{Failed}
use Rattle.gate_journal.specs.declared.half.Half.{Half}
use Rattle.gate_journal.specs.declared.standing.Standing.TheVariants.{Settled, Undecided}
use Rattle.gate_journal.specs.Calls.{MovesAs}
use Rattle.gate_journal.specs.Layout.{Layout, header_at, other_half}
use Rattle.gate_journal.specs.Opened.{records}
use Rattle.gate_journal.specs.Sound.{layout_of}
use Rattle.gate_journal.proofs.Switching.{title_failed, mark_failed, is_switched}
use Rattle.gate_journal.proofs.journal.Journal.switch.Goals as goal

pub returns-in_err-write_body-clause-moves : goal.returns-in_err-write_body-clause-moves
returns-in_err-write_body-clause-moves g c told =
    let j = c.args.self.now in
    let old = g.D.Disk.state c.args.disk.now in
    let mid = g.D.Disk.state c.write_body.new.disk in
    let here : c.header-header.result ≡ header_at (other_half j.half) = c.header-header.ensures ∙ ap header_at c.other-half.ensures in
    let title : List ℕ = c.header_body.result in
    let small : j.generation < 2 ^ 64 = omega arith in
    let names : length j.digest ≡ 32 = omega arith in
    let first = subst (λ (p : ℕ). ChangesBy (TornWrite p 63) old mid) here (c.write_body.ensures.changes told) in
    let fault = err_from_is_err_and c.from_residual.result c.from_residual.ensures.1 in
    title_failed (layout_of j) j.within small names c.args.bodies.now c.requires.fits (λ i lt. omega (arith, c.told-bodies i)) old mid (g.met.D.Disk.lawful c.args.disk.now told) (c.requires.filled told) j.gate title first c.from_residual.result fault.0 fault.1

pub returns-in_err-open_gate-clause-moves : goal.returns-in_err-open_gate-clause-moves
returns-in_err-open_gate-clause-moves g c told =
    let j = c.args.self.now in
    let l = layout_of j in
    let old = g.D.Disk.state c.args.disk.now in
    let mid = g.D.Disk.state c.write_body.new.disk in
    let new = g.D.Disk.state c.open_gate.new.disk in
    let told1 = subst IsTrue (sym c.write_body.ensures.told) told in
    let header : ℕ = header_at (other_half j.half) in
    let here : c.header-header.result ≡ header = c.header-header.ensures ∙ ap header_at c.other-half.ensures in
    let mark : c.header-header.result + 63 ≡ header + 63 = ap (λ (n : ℕ). n + 63) here in
    let title : List ℕ = c.header_body.result in
    let small : j.generation < 2 ^ 64 = omega arith in
    let names : length j.digest ≡ 32 = omega arith in
    let first = subst (λ (p : ℕ). ChangesBy (TornWrite p 63) old mid) here (c.write_body.ensures.changes told) in
    let second = subst (λ (p : ℕ). ChangesBy (TornWrite p 1) mid new) mark (c.open_gate.ensures.changes told1) in
    let put = subst (λ (p : ℕ). bytes_at mid.seen p 63 ≡ title) here (c.in_ok-write_body.ensures.body told) in
    let fault = err_from_is_err_and c.from_residual-in_err-open_gate.result c.from_residual-in_err-open_gate.ensures.1 in
    subst (λ (p : ℕ). MovesAs c.from_residual-in_err-open_gate.result c.args.bodies.now (records 2 c.args.bodies.now) l l Undecided p old new) (sym mark)
    (mark_failed l j.within small names c.args.bodies.now c.requires.fits (λ i lt. omega (arith, c.told-bodies i)) old mid (g.met.D.Disk.lawful c.args.disk.now told) (c.requires.filled told) j.gate title first
    c.header_body.ensures put (c.in_ok-write_body.ensures.durable told) (g.met.D.Disk.lawful c.write_body.new.disk told1) new second c.from_residual-in_err-open_gate.result fault.0 fault.1)

pub returns-clause-moves : goal.returns-clause-moves
returns-clause-moves g c told =
    let j = c.args.self.now in
    let l = layout_of j in
    let old = g.D.Disk.state c.args.disk.now in
    let mid = g.D.Disk.state c.write_body.new.disk in
    let new = g.D.Disk.state c.open_gate.new.disk in
    let told1 = subst IsTrue (sym c.write_body.ensures.told) told in
    let header : ℕ = header_at (other_half j.half) in
    let here : c.header-header.result ≡ header = c.header-header.ensures ∙ ap header_at c.other-half.ensures in
    let mark : c.header-header.result + 63 ≡ header + 63 = ap (λ (n : ℕ). n + 63) here in
    let title : List ℕ = c.header_body.result in
    let small : j.generation < 2 ^ 64 = omega arith in
    let names : length j.digest ≡ 32 = omega arith in
    let first = subst (λ (p : ℕ). ChangesBy (TornWrite p 63) old mid) here (c.write_body.ensures.changes told) in
    let second = subst (λ (p : ℕ). ChangesBy (TornWrite p 1) mid new) mark (c.open_gate.ensures.changes told1) in
    let put = subst (λ (p : ℕ). bytes_at mid.seen p 63 ≡ title) here (c.in_ok-write_body.ensures.body told) in
    let opened = subst (λ (p : ℕ). new.seen ≡ written p (1 ∷ []) mid.seen) mark (c.in_ok-open_gate.ensures.written told1) in
    let switched : Half → Layout = λ half. record { slots = j.slots; half = half; count = length c.args.bodies.now; version = 2; generation = (j.generation + 1) % 2 ^ 64; digest = j.digest } in
    subst (λ (half : Half). MovesAs {T = Unit {0}} {E = Failed} (Ok tt) c.args.bodies.now (records 2 c.args.bodies.now) l (switched half) Settled (c.header-header.result + 63) old new) (sym c.other-half.ensures)
    (subst (λ (p : ℕ). MovesAs {T = Unit {0}} {E = Failed} (Ok tt) c.args.bodies.now (records 2 c.args.bodies.now) l (switched (other_half j.half)) Settled p old new) (sym mark)
    (is_switched l j.within small names c.args.bodies.now c.requires.fits (λ i lt. omega (arith, c.told-bodies i)) old mid (g.met.D.Disk.lawful c.args.disk.now told) (c.requires.filled told) j.gate title first
    c.header_body.ensures put (c.in_ok-write_body.ensures.durable told) (g.met.D.Disk.lawful c.write_body.new.disk told1) new second tt opened (c.in_ok-open_gate.ensures.durable told1)))
