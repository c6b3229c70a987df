use Rattle.metatile_locks.specs.Running.{hits_in}
use Rattle.metatile_locks.proofs.Runs.{rise_overtaken, one_overtaken}
use Rattle.metatile_locks.proofs.locks.Locks.overtake.Goals as goal

pub invariant_of-self : goal.invariant_of-self
invariant_of-self c =
    rw c.overtake.ensures.items (
      rise_overtaken (hits_in c.args.f.now c.args.grid.now c.args.cover.now) c.args.number c.self.inside.renders.items c.self.invariant.0,
      one_overtaken (hits_in c.args.f.now c.args.grid.now c.args.cover.now) c.args.number c.self.inside.renders.items c.self.invariant.1,
    )

pub returns-clause-one_runs : goal.returns-clause-one_runs
returns-clause-one_runs c = rw c.overtake.ensures.items (one_overtaken (hits_in c.args.f.now c.args.grid.now c.args.cover.now) c.args.number c.self.inside.renders.items c.self.invariant.1)
