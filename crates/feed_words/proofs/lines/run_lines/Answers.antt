use Rattle.std.specs.Prelude.{⊤}
use Rattle.std.proofs.Common.{rules, ap, arith, refl, ◌∙◌}
use Rattle.feed_words.proofs.Going.{far_cut, far_done, far_next, far_refused, far_start, far_starved}
use Rattle.feed_words.proofs.lines.run_lines.Goals as goal

pub loop-rest-init : goal.loop-rest-init
loop-rest-init g c = record {
  so_far = far_start _ _ _ _ _ _;
  valid = refl;
  told = refl;
  digest = refl;
  lasts = c.laws_of_lasting.ensures.itself c.args.cabinet.now;
  later = omega arith;
  few = omega arith;
}

pub loop-rest-preserved : goal.loop-rest-preserved
loop-rest-preserved g c =
    let i = c.loop-rest.invariant in
    let r = c.run_line.ensures in
    record {
      so_far = far_next _ _ _ _ _ _ _ _ _ _ (g.O.ByteSink.faults c.args.output.now) (g.O.ByteSink.faults c.loop-rest.output) (g.O.ByteSink.faults c.run_line.new.output) _ _ _ c.split_line.result.1.now _ _ _ _ ⊤ i.so_far c.split_line.ensures.lines i.told i.digest r.goes c.in-Told.ensures.runs;
      valid = r.goes.same_catalogue ∙ i.valid;
      told = r.told ∙ i.told;
      digest = r.digest ∙ i.digest;
      lasts = c.laws_of_lasting.ensures.on _ _ _ i.lasts (record { outlasts = r.lasts; answers = r.goes.answers });
      later = omega (arith, i.later, r.later);
      few = omega (arith, i.few, c.split_line.ensures.shorter);
    }

pub returns-in-Refused-clause-runs : goal.returns-in-Refused-clause-runs
returns-in-Refused-clause-runs g c =
    let i = c.loop-rest.invariant in
    let r = c.run_line.ensures in
    far_refused _ _ _ _ _ _ _ _ _ _ (g.O.ByteSink.faults c.args.output.now) (g.O.ByteSink.faults c.loop-rest.output) (g.O.ByteSink.faults c.run_line.new.output) _ _ _ c.split_line.result.1.now _ _ _ _ _ i.so_far c.split_line.ensures.lines i.told i.digest r.goes c.in-Refused.ensures.runs (λ same. ap (λ x. g.O.ByteSink.taken x) same)

pub returns-in-WriteFault-clause-runs : goal.returns-in-WriteFault-clause-runs
returns-in-WriteFault-clause-runs g c =
    let i = c.loop-rest.invariant in
    let r = c.run_line.ensures in
    far_cut _ _ _ _ _ _ _ _ _ _ (g.O.ByteSink.faults c.args.output.now) (g.O.ByteSink.faults c.loop-rest.output) (g.O.ByteSink.faults c.run_line.new.output) _ _ _ c.split_line.result.1.now _ _ _ _ ⊤ i.so_far c.split_line.ensures.lines i.told i.digest r.goes i.later c.in-WriteFault.ensures.runs

pub returns-in-OutOfMemory-clause-runs : goal.returns-in-OutOfMemory-clause-runs
returns-in-OutOfMemory-clause-runs g c =
    let i = c.loop-rest.invariant in
    let r = c.run_line.ensures in
    far_starved _ _ _ _ _ _ _ _ _ _ (g.O.ByteSink.faults c.args.output.now) (g.O.ByteSink.faults c.loop-rest.output) (g.O.ByteSink.faults c.run_line.new.output) _ _ _ c.split_line.result.1.now _ _ _ _ _ i.so_far c.split_line.ensures.lines i.told i.digest r.goes c.in-OutOfMemory.ensures.runs (λ same. ap (λ x. g.O.ByteSink.taken x) same)

pub returns-clause-runs : goal.returns-clause-runs
returns-clause-runs g c = far_done _ _ _ _ _ _ _ _ _ _ c.loop-rest.invariant.so_far (search rules)
