use Rattle.std.proofs.Common.{arith}
use Rattle.cache_access.specs.declared.upkept.Upkept.TheVariants as upkept
use Rattle.disk_words.proofs.Dropping.{dropped_all}
use Rattle.disk_words.proofs.expire_word.drop_all.Goals as goal

pub overflow_cast-result : goal.overflow_cast-result
overflow_cast-result g c =
    let K = g.C.Keeper in
    let all = dropped_all K.state K.faults K.outlasts _ _ _ _ (upkept.Done c.in-Done.dropped) c.kept.ensures c.from-most.ensures c.in-Done.ensures.keeps_up in
    let kept = c.kept.ensures in
    let range = c.kept.type_inv in
    omega (arith, kept, range, all.0)

pub returns-in-Done-clause-all : goal.returns-in-Done-clause-all
returns-in-Done-clause-all g c =
    let K = g.C.Keeper in
    let all = dropped_all K.state K.faults K.outlasts _ _ _ _ (upkept.Done c.in-Done.dropped) c.kept.ensures c.from-most.ensures c.in-Done.ensures.keeps_up in
    (all.1, all.2)

pub returns-in-DiskFault-clause-failed : goal.returns-in-DiskFault-clause-failed
returns-in-DiskFault-clause-failed g c none =
    let K = g.C.Keeper in
    (dropped_all K.state K.faults K.outlasts _ _ _ _ (upkept.DiskFault c.in-DiskFault.field-0) c.kept.ensures c.from-most.ensures c.in-DiskFault.ensures.keeps_up).0

pub returns-in-DiskFault-clause-dropped : goal.returns-in-DiskFault-clause-dropped
returns-in-DiskFault-clause-dropped g c none =
    let K = g.C.Keeper in
    let some = dropped_all K.state K.faults K.outlasts _ _ _ _ (upkept.DiskFault c.in-DiskFault.field-0) c.kept.ensures c.from-most.ensures c.in-DiskFault.ensures.keeps_up in
    (c.in-DiskFault.field-0, some.1)

pub unreachable-requires : goal.unreachable-requires
unreachable-requires g c = let K = g.C.Keeper in dropped_all K.state K.faults K.outlasts _ _ _ _ upkept.Stopped c.kept.ensures c.from-most.ensures c.in-Stopped.ensures.keeps_up
