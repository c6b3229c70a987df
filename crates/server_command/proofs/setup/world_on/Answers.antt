use Rattle.std.proofs.Common.{rules, subst, sym}
use Rattle.cabinet.specs.State.{IsSound}
use Rattle.durable_cabinet.proofs.Pictured.{opened_sound}
use Rattle.server_command.proofs.setup.world_on.Goals as goal

pub stage_of-requires : goal.stage_of-requires
stage_of-requires g c κs within = (
  search (rules, within),
  λ told.
      let holds = c.requires.1.1.1 told in
      let o = c.in-Ok-cabinet_of.ensures.opened in
      subst IsSound (sym o.is) (opened_sound (g.D.Disk.told c.args.disk) c.args.catalogue (g.D.Disk.state c.args.disk).seen c.args.clock o.replayed c.requires.1.0 holds.0 holds.1 (o.opens holds.0)),
)
