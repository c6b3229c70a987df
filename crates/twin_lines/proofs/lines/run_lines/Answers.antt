use Rattle.std.specs.Prelude.{⊤}
use Rattle.std.proofs.Common.{rules, ap, arith, refl, ◌∙◌}
use Rattle.twin_lines.proofs.Going.{far_cut, far_done, far_next, far_refused, far_start, far_starved, far_stopped}
use Rattle.twin_lines.proofs.lines.run_lines.Goals as goal

pub loop-rest-init : goal.loop-rest-init
loop-rest-init g c = record {
  so_far = far_start _ _ _ _ _ _ _ _ _ _ _;
  ready = c.requires.ready;
  catalogue = refl;
  posts_told = refl;
  marks_told = refl;
  digest = refl;
  source_told = refl;
  lasts = c.laws_of_lasting.ensures.itself c.args.twin.now.cabinet;
  later = omega arith;
  few = omega arith;
}

pub loop-rest-preserved : goal.loop-rest-preserved
loop-rest-preserved g c =
    let i = c.loop-rest.invariant in
    let r = c.run_line.ensures in
    record {
      so_far = far_next _ _ _ _ _ _ _ _ _ _ _ _ _ _ _ _ _ _ _ (g.O.ByteSink.faults c.args.output.now) (g.O.ByteSink.faults c.loop-rest.output) (g.O.ByteSink.faults c.run_line.new.output) _ _ c.split_line.result.0.now _ c.split_line.result.1.now _ _ _ _ ⊤
          i.so_far c.split_line.ensures.lines i.catalogue i.source_told i.digest i.marks_told i.posts_told i.ready r.goes c.in-Told.ensures.runs;
      ready = r.ready;
      catalogue = r.catalogue ∙ i.catalogue;
      posts_told = r.posts_told ∙ i.posts_told;
      marks_told = r.marks_told ∙ i.marks_told;
      digest = r.digest ∙ i.digest;
      source_told = r.source_told ∙ i.source_told;
      lasts = c.laws_of_lasting.ensures.on _ _ _ i.lasts r.lasts;
      later = omega (arith, i.later, r.later);
      few = omega (arith, i.few, c.split_line.ensures.shorter);
    }

pub returns-in-Stop-clause-runs : goal.returns-in-Stop-clause-runs
returns-in-Stop-clause-runs g c =
    let i = c.loop-rest.invariant in
    let r = c.run_line.ensures in
    far_stopped _ _ _ _ _ _ _ _ _ _ _ _ _ _ _ _ _ _ _ (g.O.ByteSink.faults c.args.output.now) (g.O.ByteSink.faults c.loop-rest.output) (g.O.ByteSink.faults c.run_line.new.output) _ _ c.split_line.result.0.now _ c.split_line.result.1.now _ _ _ _ _
    i.so_far c.split_line.ensures.lines i.catalogue i.source_told i.digest i.marks_told i.posts_told i.ready r.goes c.in-Stop.side c.split_line.result.1 refl (λ same. ap (λ x. g.O.ByteSink.taken x) same) c.in-Stop.ensures.runs

pub returns-in-Refused-clause-runs : goal.returns-in-Refused-clause-runs
returns-in-Refused-clause-runs g c =
    let i = c.loop-rest.invariant in
    let r = c.run_line.ensures in
    far_refused _ _ _ _ _ _ _ _ _ _ _ _ _ _ _ _ _ _ _ (g.O.ByteSink.faults c.args.output.now) (g.O.ByteSink.faults c.loop-rest.output) (g.O.ByteSink.faults c.run_line.new.output) _ _ c.split_line.result.0.now _ c.split_line.result.1.now _ _ _ _ _
    i.so_far c.split_line.ensures.lines i.catalogue i.source_told i.digest i.marks_told i.posts_told i.ready r.goes (λ same. ap (λ x. g.O.ByteSink.taken x) same) c.in-Refused.ensures.runs

pub returns-in-WriteFault-clause-runs : goal.returns-in-WriteFault-clause-runs
returns-in-WriteFault-clause-runs g c =
    let i = c.loop-rest.invariant in
    let r = c.run_line.ensures in
    far_cut _ _ _ _ _ _ _ _ _ _ _ _ _ _ _ _ _ _ _ (g.O.ByteSink.faults c.args.output.now) (g.O.ByteSink.faults c.loop-rest.output) (g.O.ByteSink.faults c.run_line.new.output) _ _ c.split_line.result.0.now _ c.split_line.result.1.now _ _ _ _ ⊤
    i.so_far c.split_line.ensures.lines i.catalogue i.source_told i.digest i.marks_told i.posts_told i.ready r.goes i.later c.in-WriteFault.ensures.runs

pub returns-in-OutOfMemory-clause-runs : goal.returns-in-OutOfMemory-clause-runs
returns-in-OutOfMemory-clause-runs g c =
    let i = c.loop-rest.invariant in
    let r = c.run_line.ensures in
    far_starved _ _ _ _ _ _ _ _ _ _ _ _ _ _ _ _ _ _ _ (g.O.ByteSink.faults c.args.output.now) (g.O.ByteSink.faults c.loop-rest.output) (g.O.ByteSink.faults c.run_line.new.output) _ _ c.split_line.result.0.now _ c.split_line.result.1.now _ _ _ _ _
    i.so_far c.split_line.ensures.lines i.catalogue i.source_told i.digest i.marks_told i.posts_told i.ready r.goes (λ same. ap (λ x. g.O.ByteSink.taken x) same) c.in-OutOfMemory.ensures.runs

pub returns-clause-runs : goal.returns-clause-runs
returns-clause-runs g c = far_done _ _ _ _ _ _ _ _ _ _ _ _ c.loop-rest.invariant.so_far (search rules)

pub returns-in-Stop-clause-goes_on : goal.returns-in-Stop-clause-goes_on
returns-in-Stop-clause-goes_on g c = omega (arith, c.loop-rest.invariant.few, c.split_line.ensures.shorter)
