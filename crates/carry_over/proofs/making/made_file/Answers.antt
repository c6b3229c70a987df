use Rattle.std.proofs.Common.{IsTrue, sym, subst}
use Rattle.carry_over.proofs.Refusals.{not_refused}
use Rattle.carry_over.proofs.making.made_file.Goals as goal

pub returns-in-Err-replay-clause-made : goal.returns-in-Err-replay-clause-made
returns-in-Err-replay-clause-made g c is told =
    let made = c.make.new.disk in
    let told_then : IsTrue (g.E.Disk.told made) = subst IsTrue (sym c.in-Ok.ensures.told) told in
    not_refused (g.E.Disk.told made) c.args.to.now (g.E.Disk.state made) (g.E.Disk.faults made) (g.E.Disk.faults c.in-Err-replay.disk) c.in-Err-replay.fault (g.met.E.Disk.lawful made told_then)
    (c.in-Ok.ensures.made told) c.in-Err-replay.ensures.refused (c.fault_of.ensures.made is) told_then
