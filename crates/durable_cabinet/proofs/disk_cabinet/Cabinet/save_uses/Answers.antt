use Rattle.std.proofs.Common.{rules, refl, IsTrue, subst, sym, arith}
use Rattle.cabinet.specs.declared.replies.Saved.TheVariants as saved
use Rattle.cabinet.specs.Commands.{Saves}
use Rattle.cabinet.specs.State.{State, with_counted}
use Rattle.cabinet.specs.Counted.{uses}
use Rattle.metatile_plan.specs.declared.metatile.MetaKey.{MetaKey}
use Rattle.durable_cabinet.specs.Backing.{RecordLeads}
use Rattle.durable_cabinet.specs.Drafts.{HasRoom}
use Rattle.durable_cabinet.specs.Filed.{IsFiled, on_disk}
use Rattle.durable_cabinet.specs.Hot.{IsHot}
use Rattle.durable_cabinet.specs.Images.{Lasts}
use Rattle.durable_cabinet.proofs.Saving.{save_images, save_row_on, fault_row_on}
use Rattle.durable_cabinet.proofs.Leading.{save_leads, save_regions}
use Rattle.durable_cabinet.proofs.Moving.{needed_counted}
use Rattle.durable_cabinet.proofs.Heating.{counted_hot, hot_written}
use Rattle.durable_cabinet.proofs.Warming.{hot_itself}
use Rattle.durable_cabinet.proofs.disk_cabinet.Cabinet.save_uses.Goals as goal

pub invariant_of-self : goal.invariant_of-self
invariant_of-self g c =
    let i = c.self.inside in
    let s = i.core.state in
    let t = c.in-Some.found in
    let m = t.kept.meta in
    let n = c.write.new.file in
    let leads = subst (RecordLeads s s (with_counted s m (uses s.history m))) (sym c.record_of_uses-entry.ensures.is) (save_leads s c.known.ensures t c.in-Some.ensures) in
    let w = c.in-Err.ensures.writes s (with_counted s m (uses s.history m)) leads (save_regions s c.known.ensures t c.in-Some.ensures) in (
      subst (λ b. IsFiled s b n.start n.journal (g.D.Disk.state n.disk)) (sym c.write.ensures.told) w.written.err,
      omega (arith, c.self.invariant.1, c.write.ensures.room),
      hot_written (g.D.Disk.told i.file.disk) (g.D.Disk.told n.disk) s s (g.D.Disk.state i.file.disk).seen (g.D.Disk.state n.disk).seen i.hot c.write.ensures.told w.written.same (hot_itself s) c.self.invariant.2,
    )

pub invariant_of-self-in-Ok : goal.invariant_of-self-in-Ok
invariant_of-self-in-Ok g c =
    let i = c.self.inside in
    let s = i.core.state in
    let t = c.in-Some.found in
    let m = t.kept.meta in
    let n = c.write.new.file in
    let leads = subst (RecordLeads s s (with_counted s m (uses s.history m))) (sym c.record_of_uses-entry.ensures.is) (save_leads s c.known.ensures t c.in-Some.ensures) in
    let w = c.in-Ok.ensures.writes s (with_counted s m (uses s.history m)) leads (save_regions s c.known.ensures t c.in-Some.ensures) in
    subst (λ (x : State). IsFiled x (g.D.Disk.told n.disk) n.start n.journal (g.D.Disk.state n.disk) × HasRoom x c.write.new.draft × IsHot (g.D.Disk.told n.disk) x (g.D.Disk.state n.disk).seen i.hot) (sym c.save.ensures) (
      subst (λ b. IsFiled (with_counted s m (uses s.history m)) b n.start n.journal (g.D.Disk.state n.disk)) (sym c.write.ensures.told) w.written.ok,
      omega (arith, c.self.invariant.1, c.write.ensures.room, needed_counted s m (uses s.history m)),
      hot_written (g.D.Disk.told i.file.disk) (g.D.Disk.told n.disk) s (with_counted s m (uses s.history m)) (g.D.Disk.state i.file.disk).seen (g.D.Disk.state n.disk).seen i.hot c.write.ensures.told w.written.same (counted_hot s m (uses s.history m)) c.self.invariant.2,
    )

pub returns-in-Err-clause-saves : goal.returns-in-Err-clause-saves
returns-in-Err-clause-saves g c =
    let i = c.self.inside in
    let s = i.core.state in
    let t = c.in-Some.found in
    let m = t.kept.meta in
    let f = i.file in
    let n = c.write.new.file in
    let old = g.D.Disk.state f.disk in
    let new = g.D.Disk.state n.disk in
    let leads = subst (RecordLeads s s (with_counted s m (uses s.history m))) (sym c.record_of_uses-entry.ensures.is) (save_leads s c.known.ensures t c.in-Some.ensures) in
    let w = c.in-Err.ensures.writes s (with_counted s m (uses s.history m)) leads (save_regions s c.known.ensures t c.in-Some.ensures) in
    subst (λ v. Saves v.state (saved.DiskFault c.fault_count-before.result c.fault_count.result) (on_disk (g.D.Disk.told n.disk) new.seen s)) c.self.view_is
    (subst (λ b. Saves (on_disk (g.D.Disk.told f.disk) old.seen s) (saved.DiskFault c.fault_count-before.result c.fault_count.result) (on_disk b new.seen s)) (sym c.write.ensures.told)
    (fault_row_on (g.D.Disk.told f.disk) s t c.in-Some.ensures old new c.fault_count-before.result c.fault_count.result (search rules) w.written.same))

pub returns-in-Err-clause-images : goal.returns-in-Err-clause-images
returns-in-Err-clause-images g c =
    let i = c.self.inside in
    let s = i.core.state in
    let t = c.in-Some.found in
    let m = t.kept.meta in
    let f = i.file in
    let n = c.write.new.file in
    let leads = subst (RecordLeads s s (with_counted s m (uses s.history m))) (sym c.record_of_uses-entry.ensures.is) (save_leads s c.known.ensures t c.in-Some.ensures) in
    let w = c.write.ensures.writes s (with_counted s m (uses s.history m)) leads (save_regions s c.known.ensures t c.in-Some.ensures) in
    subst (λ v. IsTrue (g.D.Disk.told v.file.disk) → Lasts v.state (λ u. (k : MetaKey) × Saves v.state (saved.Done k) u) v.file.journal (g.D.Disk.state v.file.disk) (g.D.Disk.state n.disk)) c.self.view_is
    (save_images (g.D.Disk.told f.disk) s t c.in-Some.ensures (g.D.Disk.state f.disk) (g.D.Disk.state n.disk) c.write.result n.start f.journal n.journal w)

pub returns-in-Ok-clause-saves : goal.returns-in-Ok-clause-saves
returns-in-Ok-clause-saves g c =
    let i = c.self.inside in
    let s = i.core.state in
    let t = c.in-Some.found in
    let m = t.kept.meta in
    let f = i.file in
    let n = c.write.new.file in
    let old = g.D.Disk.state f.disk in
    let new = g.D.Disk.state n.disk in
    let leads = subst (RecordLeads s s (with_counted s m (uses s.history m))) (sym c.record_of_uses-entry.ensures.is) (save_leads s c.known.ensures t c.in-Some.ensures) in
    let w = c.in-Ok.ensures.writes s (with_counted s m (uses s.history m)) leads (save_regions s c.known.ensures t c.in-Some.ensures) in
    subst (λ v. Saves v.state (saved.Done m) (on_disk (g.D.Disk.told n.disk) new.seen c.save.new.self.state)) c.self.view_is
    (subst (λ (x : State). Saves (on_disk (g.D.Disk.told f.disk) old.seen s) (saved.Done m) (on_disk (g.D.Disk.told n.disk) new.seen x)) (sym c.save.ensures)
    (subst (λ b. Saves (on_disk (g.D.Disk.told f.disk) old.seen s) (saved.Done m) (on_disk b new.seen (with_counted s m (uses s.history m)))) (sym c.write.ensures.told)
    (save_row_on (g.D.Disk.told f.disk) s t c.in-Some.ensures old new new.seen w.written.same_next)))

pub returns-in-Ok-clause-images : goal.returns-in-Ok-clause-images
returns-in-Ok-clause-images g c =
    let i = c.self.inside in
    let s = i.core.state in
    let t = c.in-Some.found in
    let m = t.kept.meta in
    let f = i.file in
    let n = c.write.new.file in
    let leads = subst (RecordLeads s s (with_counted s m (uses s.history m))) (sym c.record_of_uses-entry.ensures.is) (save_leads s c.known.ensures t c.in-Some.ensures) in
    let w = c.write.ensures.writes s (with_counted s m (uses s.history m)) leads (save_regions s c.known.ensures t c.in-Some.ensures) in
    subst (λ v. IsTrue (g.D.Disk.told v.file.disk) → Lasts v.state (λ u. (k : MetaKey) × Saves v.state (saved.Done k) u) v.file.journal (g.D.Disk.state v.file.disk) (g.D.Disk.state n.disk)) c.self.view_is
    (save_images (g.D.Disk.told f.disk) s t c.in-Some.ensures (g.D.Disk.state f.disk) (g.D.Disk.state n.disk) c.write.result n.start f.journal n.journal w)

pub returns-in-None-clause-saves : goal.returns-in-None-clause-saves
returns-in-None-clause-saves g c = subst (λ v. Saves v.state saved.Within v.state) c.self.view_is (c.in-None.ensures, refl)
