use Rattle.std.proofs.Common.{rules, IsTrue, subst, sym, arith}
use Rattle.cabinet.specs.declared.replies.Expired.TheVariants as expired
use Rattle.cabinet.specs.Commands.{Expires}
use Rattle.cabinet.specs.State.{State, with_dropped}
use Rattle.metatile_plan.specs.declared.metatile.MetaKey.{MetaKey}
use Rattle.durable_cabinet.specs.Backing.{RecordLeads}
use Rattle.durable_cabinet.specs.Drafts.{HasRoom}
use Rattle.durable_cabinet.specs.Filed.{IsFiled, on_disk}
use Rattle.durable_cabinet.specs.Hot.{IsHot}
use Rattle.durable_cabinet.specs.Images.{Lasts}
use Rattle.durable_cabinet.proofs.Expiring.{drop_images, drop_row_on, fault_row_on}
use Rattle.durable_cabinet.proofs.Leading.{drop_leads, drop_regions}
use Rattle.durable_cabinet.proofs.Moving.{needed_dropped}
use Rattle.durable_cabinet.proofs.Heating.{dropped_hot, hot_written}
use Rattle.durable_cabinet.proofs.Warming.{hot_itself}
use Rattle.durable_cabinet.proofs.disk_cabinet.Cabinet.expire.Goals as goal

pub invariant_of-self : goal.invariant_of-self
invariant_of-self g c =
    let i = c.self.inside in
    let s = i.core.state in
    let t = c.in-Some.kept in
    let n = c.write.new.file in
    let leads = subst (RecordLeads s s (with_dropped s t.meta)) (sym c.record_of_drop-entry.ensures.is) (drop_leads s c.known.ensures t c.in-Some.ensures) in
    let w = c.in-Err.ensures.writes s (with_dropped s t.meta) leads (drop_regions s c.known.ensures t c.in-Some.ensures) in (
      subst (λ b. IsFiled s b n.start n.journal (g.D.Disk.state n.disk)) (sym c.write.ensures.told) w.written.err,
      omega (arith, c.self.invariant.1, c.write.ensures.room),
      hot_written (g.D.Disk.told i.file.disk) (g.D.Disk.told n.disk) s s (g.D.Disk.state i.file.disk).seen (g.D.Disk.state n.disk).seen i.hot c.write.ensures.told w.written.same (hot_itself s) c.self.invariant.2,
    )

pub invariant_of-self-in-Ok : goal.invariant_of-self-in-Ok
invariant_of-self-in-Ok g c =
    let i = c.self.inside in
    let s = i.core.state in
    let t = c.in-Some.kept in
    let n = c.write.new.file in
    let leads = subst (RecordLeads s s (with_dropped s t.meta)) (sym c.record_of_drop-entry.ensures.is) (drop_leads s c.known.ensures t c.in-Some.ensures) in
    let w = c.in-Ok.ensures.writes s (with_dropped s t.meta) leads (drop_regions s c.known.ensures t c.in-Some.ensures) in
    subst (λ (x : State). IsFiled x (g.D.Disk.told n.disk) n.start n.journal (g.D.Disk.state n.disk) × HasRoom x c.write.new.draft × IsHot (g.D.Disk.told n.disk) x (g.D.Disk.state n.disk).seen i.hot) (sym c.drop_kept.ensures) (
      subst (λ b. IsFiled (with_dropped s t.meta) b n.start n.journal (g.D.Disk.state n.disk)) (sym c.write.ensures.told) w.written.ok,
      omega (arith, c.self.invariant.1, c.write.ensures.room, needed_dropped s t.meta),
      hot_written (g.D.Disk.told i.file.disk) (g.D.Disk.told n.disk) s (with_dropped s t.meta) (g.D.Disk.state i.file.disk).seen (g.D.Disk.state n.disk).seen i.hot c.write.ensures.told w.written.same (dropped_hot s t.meta) c.self.invariant.2,
    )

pub returns-in-Err-clause-expires : goal.returns-in-Err-clause-expires
returns-in-Err-clause-expires g c =
    let i = c.self.inside in
    let s = i.core.state in
    let t = c.in-Some.kept in
    let f = i.file in
    let n = c.write.new.file in
    let old = g.D.Disk.state f.disk in
    let new = g.D.Disk.state n.disk in
    let leads = subst (RecordLeads s s (with_dropped s t.meta)) (sym c.record_of_drop-entry.ensures.is) (drop_leads s c.known.ensures t c.in-Some.ensures) in
    let w = c.in-Err.ensures.writes s (with_dropped s t.meta) leads (drop_regions s c.known.ensures t c.in-Some.ensures) in
    subst (λ v. Expires v.state (expired.DiskFault c.fault_count-before.result c.fault_count.result) (on_disk (g.D.Disk.told n.disk) new.seen s)) c.self.view_is
    (subst (λ b. Expires (on_disk (g.D.Disk.told f.disk) old.seen s) (expired.DiskFault c.fault_count-before.result c.fault_count.result) (on_disk b new.seen s)) (sym c.write.ensures.told)
    (fault_row_on (g.D.Disk.told f.disk) s t c.in-Some.ensures old new c.fault_count-before.result c.fault_count.result (search rules) w.written.same))

pub returns-in-Err-clause-images : goal.returns-in-Err-clause-images
returns-in-Err-clause-images g c =
    let i = c.self.inside in
    let s = i.core.state in
    let t = c.in-Some.kept in
    let f = i.file in
    let n = c.write.new.file in
    let leads = subst (RecordLeads s s (with_dropped s t.meta)) (sym c.record_of_drop-entry.ensures.is) (drop_leads s c.known.ensures t c.in-Some.ensures) in
    let w = c.write.ensures.writes s (with_dropped s t.meta) leads (drop_regions s c.known.ensures t c.in-Some.ensures) in
    subst (λ v. IsTrue (g.D.Disk.told v.file.disk) → Lasts v.state (λ u. (m : MetaKey) × Expires v.state (expired.Dropped m) u) v.file.journal (g.D.Disk.state v.file.disk) (g.D.Disk.state n.disk)) c.self.view_is
    (drop_images (g.D.Disk.told f.disk) s t c.in-Some.ensures (g.D.Disk.state f.disk) (g.D.Disk.state n.disk) c.write.result n.start f.journal n.journal w)

pub returns-in-Ok-clause-expires : goal.returns-in-Ok-clause-expires
returns-in-Ok-clause-expires g c =
    let i = c.self.inside in
    let s = i.core.state in
    let t = c.in-Some.kept in
    let f = i.file in
    let n = c.write.new.file in
    let old = g.D.Disk.state f.disk in
    let new = g.D.Disk.state n.disk in
    let leads = subst (RecordLeads s s (with_dropped s t.meta)) (sym c.record_of_drop-entry.ensures.is) (drop_leads s c.known.ensures t c.in-Some.ensures) in
    let w = c.in-Ok.ensures.writes s (with_dropped s t.meta) leads (drop_regions s c.known.ensures t c.in-Some.ensures) in
    subst (λ v. Expires v.state (expired.Dropped t.meta) (on_disk (g.D.Disk.told n.disk) new.seen c.drop_kept.new.self.state)) c.self.view_is
    (subst (λ (x : State). Expires (on_disk (g.D.Disk.told f.disk) old.seen s) (expired.Dropped t.meta) (on_disk (g.D.Disk.told n.disk) new.seen x)) (sym c.drop_kept.ensures)
    (subst (λ b. Expires (on_disk (g.D.Disk.told f.disk) old.seen s) (expired.Dropped t.meta) (on_disk b new.seen (with_dropped s t.meta))) (sym c.write.ensures.told)
    (drop_row_on (g.D.Disk.told f.disk) s t c.in-Some.ensures old new new.seen w.written.same_next)))

pub returns-in-Ok-clause-images : goal.returns-in-Ok-clause-images
returns-in-Ok-clause-images g c =
    let i = c.self.inside in
    let s = i.core.state in
    let t = c.in-Some.kept in
    let f = i.file in
    let n = c.write.new.file in
    let leads = subst (RecordLeads s s (with_dropped s t.meta)) (sym c.record_of_drop-entry.ensures.is) (drop_leads s c.known.ensures t c.in-Some.ensures) in
    let w = c.write.ensures.writes s (with_dropped s t.meta) leads (drop_regions s c.known.ensures t c.in-Some.ensures) in
    subst (λ v. IsTrue (g.D.Disk.told v.file.disk) → Lasts v.state (λ u. (m : MetaKey) × Expires v.state (expired.Dropped m) u) v.file.journal (g.D.Disk.state v.file.disk) (g.D.Disk.state n.disk)) c.self.view_is
    (drop_images (g.D.Disk.told f.disk) s t c.in-Some.ensures (g.D.Disk.state f.disk) (g.D.Disk.state n.disk) c.write.result n.start f.journal n.journal w)
