use Rattle.std.proofs.Common.{◌≡◌, ◌+◌, ◌-◌, ◌*◌, ◌≤◌, ℕ, sym, subst, arith}
use Rattle.gate_journal.specs.Visiting.{VisitsPart}
use Rattle.gate_journal.proofs.Leading.{part_none, part_shut, part_open, part_disorder, part_refused}
use Rattle.gate_journal.proofs.visiting.visit_part.Goals as goal
use Rattle.gate_journal.proofs.visiting.visit_part.Goals.{then-slot-eq1+else-records-before+in-Ok, else-slot-eq1}

pub loop-k-init : goal.loop-k-init
loop-k-init g c = part_none g.V.Visit.visits g.V.Visit.leaves c.args.found c.args.before c.args.count c.args.slots.now c.args.visit.now c.requires.few

pub returns-then-records-before : goal.returns-then-records-before
returns-then-records-before g c =
    let k : ℕ = c.loop-k.k in
    part_disorder g.V.Visit.visits g.V.Visit.leaves c.args.found c.args.before c.args.count c.args.slots.now c.args.visit.now k (64 * k + 64 - 64 * k) c.loop-k.visit c.loop-k.records c.loop-k-test.true (omega arith) c.loop-k.invariant
    c.if-slot-eq1.true c.if-records-before.true

pub overflow_add-records : goal.overflow_add-records
overflow_add-records g c = let few = c.loop-k.invariant.few in let lt = c.loop-k-test.true in let limit = c.requires.limit in omega arith

pub returns-in-Err : goal.returns-in-Err
returns-in-Err g c =
    let k : ℕ = c.loop-k.k in
    part_refused g.V.Visit.visits g.V.Visit.leaves c.args.found c.args.before c.args.count c.args.slots.now c.args.visit.now k (64 * k + 64 - 64 * k) c.loop-k.visit c.loop-k.records c.loop-k-test.true (omega arith) c.loop-k.invariant
    c.body.new.self c.in-Err.ensures.left

pub loop-k-preserved : goal.loop-k-preserved
loop-k-preserved g c =
    let k : ℕ = c.loop-k.k in
    let before : ℕ = c.args.before in
    elim c.if-slot-eq1.branch [
      | then-slot-eq1+else-records-before+in-Ok w ↦
          let full : before + k ≤ c.loop-k.records = let not_fewer = w.if-records-before.false in omega arith in
          subst (λ v. VisitsPart g.V.Visit.visits c.args.found before (k + 1) c.args.count c.args.slots.now c.args.visit.now v c.if-slot-eq1.records) (sym w.visit-is)
          (subst (λ (n : ℕ). VisitsPart g.V.Visit.visits c.args.found before (k + 1) c.args.count c.args.slots.now c.args.visit.now w.body.new.self n) (sym w.records-is)
          (part_open g.V.Visit.visits g.V.Visit.leaves c.args.found before c.args.count c.args.slots.now c.args.visit.now k (64 * k + 64 - 64 * k) c.loop-k.visit c.loop-k.records c.loop-k-test.true (omega arith) c.loop-k.invariant
          w.body_of.result w.body.new.self w.if-slot-eq1.true full w.body_of.ensures w.in-Ok.ensures.visited))
      | else-slot-eq1 w ↦
          subst (λ v. VisitsPart g.V.Visit.visits c.args.found before (k + 1) c.args.count c.args.slots.now c.args.visit.now v c.if-slot-eq1.records) (sym w.visit-is)
          (subst (λ (n : ℕ). VisitsPart g.V.Visit.visits c.args.found before (k + 1) c.args.count c.args.slots.now c.args.visit.now c.loop-k.visit n) (sym w.records-is)
          (part_shut g.V.Visit.visits g.V.Visit.leaves c.args.found before c.args.count c.args.slots.now c.args.visit.now k (64 * k + 64 - 64 * k) c.loop-k.visit c.loop-k.records c.loop-k-test.true (omega arith) c.loop-k.invariant
          w.if-slot-eq1.false))
    ]

pub returns : goal.returns
returns g c =
    let all : c.loop-k.k ≡ c.args.count = let end = c.loop-k.auto.k-end in let not = c.loop-k-test.false in omega arith in
    subst (λ (n : ℕ). VisitsPart g.V.Visit.visits c.args.found c.args.before n c.args.count c.args.slots.now c.args.visit.now c.loop-k.visit c.loop-k.records) all c.loop-k.invariant
