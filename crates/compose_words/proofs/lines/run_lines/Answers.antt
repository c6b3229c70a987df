use Rattle.std.specs.Prelude.{⊤}
use Rattle.std.proofs.Common.{rules, ap, arith, refl, ◌∙◌}
use Rattle.compose_words.proofs.Going.{far_cut, far_done, far_next, far_refused, far_start, far_starved}
use Rattle.compose_words.proofs.lines.run_lines.Goals as goal

pub loop-rest-init : goal.loop-rest-init
loop-rest-init g c = record {
  so_far = far_start _ _ _ _ _ _ c.requires.rest c.requires.sound;
  told = refl;
  later = omega arith;
  few = omega arith;
}

pub loop-rest-preserved : goal.loop-rest-preserved
loop-rest-preserved g c =
    let i = c.loop-rest.invariant in
    let r = c.run_line.ensures in
    record {
      so_far = far_next _ _ _ _ _ _ (g.O.ByteSink.faults c.args.output.now) (g.O.ByteSink.faults c.loop-rest.output) (g.O.ByteSink.faults c.run_line.new.output) _ c.split_line.result.0.now _ c.split_line.result.1.now c.args.cabinet.now _ _ _ _ ⊤ i.so_far c.split_line.ensures.lines (rw i.told at r.goes) refl (rw i.told at c.in-Told.ensures.runs);
      told = r.told ∙ i.told;
      later = omega (arith, i.later, r.later);
      few = omega (arith, i.few, c.split_line.ensures.shorter);
    }

pub returns-in-Refused : goal.returns-in-Refused
returns-in-Refused g c =
    let i = c.loop-rest.invariant in
    let r = c.run_line.ensures in
    record { runs = far_refused _ _ _ _ _ _ (g.O.ByteSink.faults c.args.output.now) (g.O.ByteSink.faults c.loop-rest.output) (g.O.ByteSink.faults c.run_line.new.output) _ c.split_line.result.0.now _ c.split_line.result.1.now c.args.cabinet.now _ _ _ _ _ i.so_far c.split_line.ensures.lines (rw i.told at r.goes) refl c.in-Refused.ensures.runs (λ same. ap (λ x. g.O.ByteSink.taken x) same) }

pub returns-in-WriteFault : goal.returns-in-WriteFault
returns-in-WriteFault g c =
    let i = c.loop-rest.invariant in
    let r = c.run_line.ensures in
    record { runs = far_cut _ _ _ _ _ _ (g.O.ByteSink.faults c.args.output.now) (g.O.ByteSink.faults c.loop-rest.output) (g.O.ByteSink.faults c.run_line.new.output) _ c.split_line.result.0.now _ c.split_line.result.1.now c.args.cabinet.now _ _ _ _ ⊤ i.so_far c.split_line.ensures.lines (rw i.told at r.goes) refl i.later (rw i.told at c.in-WriteFault.ensures.runs) }

pub returns-in-OutOfMemory : goal.returns-in-OutOfMemory
returns-in-OutOfMemory g c =
    let i = c.loop-rest.invariant in
    let r = c.run_line.ensures in
    record { runs = far_starved _ _ _ _ _ _ (g.O.ByteSink.faults c.args.output.now) (g.O.ByteSink.faults c.loop-rest.output) (g.O.ByteSink.faults c.run_line.new.output) _ c.split_line.result.0.now _ c.split_line.result.1.now c.args.cabinet.now _ _ _ _ _ i.so_far c.split_line.ensures.lines (rw i.told at r.goes) refl c.in-OutOfMemory.ensures.runs (λ same. ap (λ x. g.O.ByteSink.taken x) same) }

pub returns : goal.returns
returns g c = record { runs = far_done _ _ _ _ _ _ _ _ c.loop-rest.invariant.so_far refl (search rules) }
