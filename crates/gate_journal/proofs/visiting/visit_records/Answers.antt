use Rattle.std.proofs.Common.{rules, ◌≡◌, ◌+◌, ◌*◌, ℕ, List, length, refl, sym, ◌∙◌, ap, subst, arith, IsTrue}
use Rattle.std.proofs.lemmas.Result.{err_from_is_err_and}
use Rattle.disk_model.specs.Content.{Content, bytes_at}
use Rattle.gate_journal.specs.Visiting.{VisitsFirst, IsStopped}
use Rattle.gate_journal.proofs.Causing.{disk_cause, visit_cause}
use Rattle.gate_journal.proofs.Leading.{half_none, half_stops, half_more, half_stopped, stops_as, read_bytes}
use Rattle.gate_journal.proofs.Steps.{quiet_none, quiet_at, quiet_then}
use Rattle.gate_journal.proofs.visiting.visit_records.Goals as goal

pub returns-in_err-buffer-clause-comes : goal.returns-in_err-buffer-clause-comes
returns-in_err-buffer-clause-comes g c =
    let told = g.D.Disk.told c.args.disk.now in
    let seen : Content = (g.D.Disk.state c.args.disk.now).seen in
    let fault = err_from_is_err_and c.from_residual.result c.from_residual.ensures.1 in
    stops_as g.V.Visit.visits g.V.Visit.leaves told seen c.args.start c.args.slots c.args.visit.now c.args.visit.now c.from_residual.result fault.0 fault.1
    (half_stops g.V.Visit.visits g.V.Visit.leaves told seen c.args.start c.args.visit.now 0 0 c.args.visit.now (half_none g.V.Visit.visits g.V.Visit.leaves told seen c.args.start c.args.visit.now) c.args.slots fault.0 (omega arith)
    (subst (IsStopped seen c.args.start c.args.slots) (sym fault.2) tt))

pub loop-done-init : goal.loop-done-init
loop-done-init g c = record {
  same_told = refl;
  quiet = λ told. quiet_none (g.D.Disk.state c.args.disk.now);
  faults = omega arith;
  size = c.in_ok-buffer.ensures.len;
  within = omega arith;
  first = half_none g.V.Visit.visits g.V.Visit.leaves (g.D.Disk.told c.args.disk.now) (g.D.Disk.state c.args.disk.now).seen c.args.start c.args.visit.now;
}

pub returns-in_err-read-clause-reads : goal.returns-in_err-read-clause-reads
returns-in_err-read-clause-reads g c =
    let inv = c.loop-done.invariant in
    let fault = err_from_is_err_and c.from_residual-in_err-read.result c.from_residual-in_err-read.ensures.1 in
    record {
      same_told = c.read.ensures.told ∙ inv.same_told;
      quiet = λ told. quiet_then (g.D.Disk.state c.args.disk.now) (g.D.Disk.state c.loop-done.disk) (g.D.Disk.state c.read.new.self) (inv.quiet told)
          (quiet_at (g.D.Disk.state c.loop-done.disk) (g.D.Disk.state c.read.new.self) (c.read.ensures.steps (subst IsTrue (sym inv.same_told) told)));
      cause = disk_cause (g.D.Disk.faults c.args.disk.now) (g.D.Disk.faults c.loop-done.disk) (g.D.Disk.faults c.read.new.self) c.from_residual-in_err-read.result fault.0 fault.1 fault.2 inv.faults
          c.read.ensures.cause.later c.in_err-read.ensures.cause.failed;
    }

pub returns-in_err-read-clause-comes : goal.returns-in_err-read-clause-comes
returns-in_err-read-clause-comes g c =
    let inv = c.loop-done.invariant in
    let told = g.D.Disk.told c.args.disk.now in
    let seen : Content = (g.D.Disk.state c.args.disk.now).seen in
    let fault = err_from_is_err_and c.from_residual-in_err-read.result c.from_residual-in_err-read.ensures.1 in
    stops_as g.V.Visit.visits g.V.Visit.leaves told seen c.args.start c.args.slots c.args.visit.now c.loop-done.visit c.from_residual-in_err-read.result fault.0 fault.1
    (half_stops g.V.Visit.visits g.V.Visit.leaves told seen c.args.start c.args.visit.now c.loop-done.done c.loop-done.found c.loop-done.visit inv.first c.args.slots fault.0 inv.within
    (subst (IsStopped seen c.args.start c.args.slots) (sym fault.2) tt))

pub returns-in-Err-clause-reads : goal.returns-in-Err-clause-reads
returns-in-Err-clause-reads g c =
    let inv = c.loop-done.invariant in
    record {
      same_told = c.read.ensures.told ∙ inv.same_told;
      quiet = λ told. quiet_then (g.D.Disk.state c.args.disk.now) (g.D.Disk.state c.loop-done.disk) (g.D.Disk.state c.read.new.self) (inv.quiet told)
          (quiet_at (g.D.Disk.state c.loop-done.disk) (g.D.Disk.state c.read.new.self) (c.read.ensures.steps (subst IsTrue (sym inv.same_told) told)));
      cause = record {
        later = let first = inv.faults in let then = c.read.ensures.cause.later in omega arith;
        failed = visit_cause (g.D.Disk.faults c.args.disk.now) (g.D.Disk.faults c.read.new.self) c.in-Err.fault c.in-Err.ensures.narrow;
      };
    }

pub returns-in-Err-clause-comes : goal.returns-in-Err-clause-comes
returns-in-Err-clause-comes g c =
    let inv = c.loop-done.invariant in
    let told = g.D.Disk.told c.args.disk.now in
    let seen : Content = (g.D.Disk.state c.args.disk.now).seen in
    let mid : Content = (g.D.Disk.state c.loop-done.disk).seen in
    let done : ℕ = c.loop-done.done in
    let count : ℕ = c.min-count.result in
    let part : List ℕ = c.read.new.into in
    let long : length part ≡ 64 * count = search rules in
    let is : IsTrue told → part ≡ bytes_at seen (c.args.start + 64 * done) (64 * count) = λ t.
    read_bytes mid (c.args.start + 64 * done) _ (64 * count) part (c.in_ok-read.ensures.bytes (subst IsTrue (sym inv.same_told) t)) long ∙ ap (λ (d : Content). bytes_at d (c.args.start + 64 * done) (64 * count)) (inv.quiet t).reads in
    half_stopped g.V.Visit.visits g.V.Visit.leaves told seen c.args.start c.args.visit.now done c.loop-done.found c.loop-done.visit inv.first count part c.visit_part.new.visit is c.args.slots c.in-Err.fault
    (let lt = c.loop-done-test.true in let least = c.min-count.ensures in omega arith) c.in-Err.ensures

pub loop-done-preserved : goal.loop-done-preserved
loop-done-preserved g c =
    let inv = c.loop-done.invariant in
    let told = g.D.Disk.told c.args.disk.now in
    let seen : Content = (g.D.Disk.state c.args.disk.now).seen in
    let mid : Content = (g.D.Disk.state c.loop-done.disk).seen in
    let done : ℕ = c.loop-done.done in
    let count : ℕ = c.min-count.result in
    let part : List ℕ = c.read.new.into in
    let long : length part ≡ 64 * count = search rules in
    let is : IsTrue told → part ≡ bytes_at seen (c.args.start + 64 * done) (64 * count) = λ t.
    read_bytes mid (c.args.start + 64 * done) _ (64 * count) part (c.in_ok-read.ensures.bytes (subst IsTrue (sym inv.same_told) t)) long ∙ ap (λ (d : Content). bytes_at d (c.args.start + 64 * done) (64 * count)) (inv.quiet t).reads in
    record {
      same_told = c.read.ensures.told ∙ inv.same_told;
      quiet = λ t. quiet_then (g.D.Disk.state c.args.disk.now) (g.D.Disk.state c.loop-done.disk) (g.D.Disk.state c.read.new.self) (inv.quiet t)
          (quiet_at (g.D.Disk.state c.loop-done.disk) (g.D.Disk.state c.read.new.self) (c.read.ensures.steps (subst IsTrue (sym inv.same_told) t)));
      faults = let first = inv.faults in let then = c.read.ensures.cause.later in omega arith;
      size = inv.size;
      within = let lt = c.loop-done-test.true in let least = c.min-count.ensures in omega arith;
      first = half_more g.V.Visit.visits g.V.Visit.leaves told seen c.args.start c.args.visit.now done c.loop-done.found c.loop-done.visit inv.first count part c.visit_part.new.visit is c.in-Ok.records c.in-Ok.ensures;
    }

pub returns-clause-comes : goal.returns-clause-comes
returns-clause-comes g c =
    let inv = c.loop-done.invariant in
    let all : c.loop-done.done ≡ c.args.slots = let not = c.loop-done-test.false in let within = inv.within in omega arith in
    subst (λ (n : ℕ). VisitsFirst g.V.Visit.visits (g.D.Disk.told c.args.disk.now) (g.D.Disk.state c.args.disk.now).seen c.args.start n c.args.visit.now c.loop-done.visit c.loop-done.found) all inv.first
