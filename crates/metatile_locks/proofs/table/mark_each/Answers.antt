use Rattle.std.proofs.Common.{arith}
use Rattle.metatile_locks.specs.Running.{hits_in}
use Rattle.metatile_locks.proofs.Runs.{mark_more}
use Rattle.metatile_locks.proofs.table.mark_each.Goals as goal

pub marking-preserved : goal.marking-preserved
marking-preserved c = (
  mark_more (hits_in c.args.f.now c.args.grid.now c.args.cover.now) c.args.number c.args.renders.now c.marking.renders c.marking.i _ c.marked_render.result c.marking-test.true (omega (arith, c.marking.auto.renders)) c.marking.invariant.0 c.marked_render.ensures.marked,
  c.marked_render.ensures.aimed,
)
