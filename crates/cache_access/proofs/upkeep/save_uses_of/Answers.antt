use Rattle.std.proofs.Common.{arith}
use Rattle.cache_access.specs.KeepsUp.{saving}
use Rattle.cache_access.proofs.Going.{goes_here, goes_on}
use Rattle.cache_access.proofs.KeepingUp.{done_more, done_none, has_failed, has_stopped, nothing_left}
use Rattle.cache_access.proofs.upkeep.save_uses_of.Goals as goal

pub saving-init : goal.saving-init
saving-init g c =
    let A = g.A.Access in
    let way = c.args.access.now in
    let x = c.args.cache.now in
    record {
      done = done_none (A.gains way) saving x (A.gains_none way x);
      goes = goes_here (A.catalogue way) (A.reaches way) (A.owes way) (A.lasts way) x c.requires (A.lasts_itself way x);
      still = λ s. s;
      rests = λ r. r;
      within = omega arith;
    }

pub saving-preserved : goal.saving-preserved
saving-preserved g c =
    let A = g.A.Access in
    let way = c.args.access.now in
    let x = c.args.cache.now in
    let y = c.saving.cache in
    let z = c.save_uses.new.cache in
    let i = c.saving.invariant in
    record {
      done = done_more (A.gains way) saving x y z (A.gains_on way x y z) c.saving.metatiles i.done c.in-Done.field-0 c.in-Done.ensures.done;
      goes = goes_on (A.catalogue way) (A.reaches way) (A.owes way) (A.lasts way) x y z (A.lasts_on way x y z) i.goes c.in-Done.ensures.goes;
      still = λ s. c.in-Done.ensures.still (i.still s);
      rests = λ r. c.in-Done.ensures.rests (i.rests r);
      within = omega (arith, c.saving-test.true);
    }

pub returns-in-Within-clause-keeps_up : goal.returns-in-Within-clause-keeps_up
returns-in-Within-clause-keeps_up g c =
    let A = g.A.Access in
    let way = c.args.access.now in
    let x = c.args.cache.now in
    let y = c.saving.cache in
    let z = c.save_uses.new.cache in
    nothing_left (A.gains way) saving x y z (A.gains_on way x y z) c.saving.metatiles c.saving.invariant.done c.args.most c.saving-test.true c.in-Within.ensures.done

pub returns-in-Within-clause-goes : goal.returns-in-Within-clause-goes
returns-in-Within-clause-goes g c =
    let A = g.A.Access in
    let way = c.args.access.now in
    let x = c.args.cache.now in
    let y = c.saving.cache in
    let z = c.save_uses.new.cache in
    goes_on (A.catalogue way) (A.reaches way) (A.owes way) (A.lasts way) x y z (A.lasts_on way x y z) c.saving.invariant.goes c.in-Within.ensures.goes

pub returns-in-DiskFault-clause-keeps_up : goal.returns-in-DiskFault-clause-keeps_up
returns-in-DiskFault-clause-keeps_up g c =
    let A = g.A.Access in
    let way = c.args.access.now in
    let x = c.args.cache.now in
    let y = c.saving.cache in
    let z = c.save_uses.new.cache in
    has_failed (A.gains way) saving x y z (A.gains_on way x y z) c.saving.metatiles c.saving.invariant.done c.args.most c.saving-test.true c.in-DiskFault.field-0 c.in-DiskFault.field-1 c.in-DiskFault.ensures.done

pub returns-in-DiskFault-clause-goes : goal.returns-in-DiskFault-clause-goes
returns-in-DiskFault-clause-goes g c =
    let A = g.A.Access in
    let way = c.args.access.now in
    let x = c.args.cache.now in
    let y = c.saving.cache in
    let z = c.save_uses.new.cache in
    goes_on (A.catalogue way) (A.reaches way) (A.owes way) (A.lasts way) x y z (A.lasts_on way x y z) c.saving.invariant.goes c.in-DiskFault.ensures.goes

pub returns-clause-keeps_up : goal.returns-clause-keeps_up
returns-clause-keeps_up g c =
    let A = g.A.Access in
    let way = c.args.access.now in
    let is = c.saving-test.false in
    let within = c.saving.invariant.within in
    has_stopped (A.gains way) saving c.args.most c.saving.metatiles c.args.cache.now c.saving.cache c.saving.invariant.done (omega (arith, is, within))
