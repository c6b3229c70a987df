use Rattle.std.proofs.Common.{rules, ℕ, ◌≡◌, ◌+◌, ◌≤◌, IsTrue, subst, sym, arith}
use Rattle.served_covers.specs.OfCatalogue.{IsCoverOf}
use Rattle.cabinet.specs.declared.entry.HistoryEntry.TheVariants as entry
use Rattle.cabinet.specs.declared.judged.Admitted.TheVariants as admitted
use Rattle.cabinet.specs.declared.replies.CutReply.TheVariants as reply
use Rattle.cabinet.specs.Commands.{Cuts}
use Rattle.cabinet.specs.State.{IsKnown, State, with_cut, with_entry}
use Rattle.cabinet.specs.Steps.{Admits}
use Rattle.durable_cabinet.specs.Backing.{RecordLeads}
use Rattle.durable_cabinet.specs.Drafts.{HasRoom, needed}
use Rattle.durable_cabinet.specs.Filed.{IsFiled, on_disk}
use Rattle.durable_cabinet.specs.Hot.{IsHot}
use Rattle.durable_cabinet.specs.Images.{Lasts}
use Rattle.durable_cabinet.proofs.Cutting.{cut_images, cut_leads, cut_regions, cut_row_on, missed_row_on, needed_cut, needed_missed}
use Rattle.durable_cabinet.proofs.Heating.{cut_hot, hot_written, missed_hot}
use Rattle.durable_cabinet.proofs.disk_cabinet.Cabinet.cut.Goals as goal

pub invariant_of-self-in-Err-write : goal.invariant_of-self-in-Err-write
invariant_of-self-in-Err-write g c =
    let i = c.self.inside in
    let s = c.admit.new.self.state in
    let f = i.file in
    let n = c.write.new.file in
    let cover = c.args.cover.now in
    let number = c.in-Ok-Number.number in
    let told = g.D.Disk.told f.disk in
    let old = g.D.Disk.state f.disk in
    let new = g.D.Disk.state n.disk in
    let same : s ≡ i.core.state = c.admit.ensures.same in
    let known : IsKnown s = subst IsKnown (sym same) c.known.ensures in
    let of_core : IsCoverOf i.core.state.catalogue cover = subst (λ v. IsCoverOf v.state.catalogue cover) (sym c.self.view_is) c.requires in
    let of_all : IsCoverOf s.catalogue cover = subst (λ (x : State). IsCoverOf x.catalogue cover) (sym same) of_core in
    let admits : Admits s cover (admitted.Number number) = subst (λ (x : State). Admits x cover (admitted.Number number)) (sym same) (search rules) in
    let leads = subst (RecordLeads s (with_entry s (entry.Missed number)) (with_cut s number cover)) (sym c.record_of_cut-entry.ensures.is) (cut_leads s known cover of_all number admits) in
    let regions = cut_regions s known cover of_all number admits in
    let enough : needed s + 1 ≤ c.reserve_one_more.new.draft.room = subst (λ (x : State). needed x + 1 ≤ c.reserve_one_more.new.draft.room) (sym same) c.in-Ok.ensures.room in
    let w = c.in-Err-write.ensures.writes (with_entry s (entry.Missed number)) (with_cut s number cover) leads regions in
    let u = with_entry s (entry.Missed number) in
    let hot : IsHot told s old.seen i.hot = subst (λ (x : State). IsHot told x old.seen i.hot) (sym same) c.self.invariant.2 in
    subst (λ (x : State). IsFiled x (g.D.Disk.told n.disk) n.start n.journal new × HasRoom x c.write.new.draft × IsHot (g.D.Disk.told n.disk) x new.seen i.hot) (sym c.miss.ensures) (
      subst (λ b. IsFiled u b n.start n.journal new) (sym c.write.ensures.told) w.written.err,
      omega (arith, enough, c.write.ensures.room, needed_missed s number),
      hot_written told (g.D.Disk.told n.disk) s u old.seen new.seen i.hot c.write.ensures.told w.written.same (missed_hot s number) hot,
    )

pub invariant_of-self-in-Ok-write : goal.invariant_of-self-in-Ok-write
invariant_of-self-in-Ok-write g c =
    let i = c.self.inside in
    let s = c.admit.new.self.state in
    let f = i.file in
    let n = c.write.new.file in
    let cover = c.args.cover.now in
    let number = c.in-Ok-Number.number in
    let told = g.D.Disk.told f.disk in
    let old = g.D.Disk.state f.disk in
    let new = g.D.Disk.state n.disk in
    let same : s ≡ i.core.state = c.admit.ensures.same in
    let known : IsKnown s = subst IsKnown (sym same) c.known.ensures in
    let of_core : IsCoverOf i.core.state.catalogue cover = subst (λ v. IsCoverOf v.state.catalogue cover) (sym c.self.view_is) c.requires in
    let of_all : IsCoverOf s.catalogue cover = subst (λ (x : State). IsCoverOf x.catalogue cover) (sym same) of_core in
    let admits : Admits s cover (admitted.Number number) = subst (λ (x : State). Admits x cover (admitted.Number number)) (sym same) (search rules) in
    let leads = subst (RecordLeads s (with_entry s (entry.Missed number)) (with_cut s number cover)) (sym c.record_of_cut-entry.ensures.is) (cut_leads s known cover of_all number admits) in
    let regions = cut_regions s known cover of_all number admits in
    let enough : needed s + 1 ≤ c.reserve_one_more.new.draft.room = subst (λ (x : State). needed x + 1 ≤ c.reserve_one_more.new.draft.room) (sym same) c.in-Ok.ensures.room in
    let w = c.in-Ok-write.ensures.writes (with_entry s (entry.Missed number)) (with_cut s number cover) leads regions in
    let hot : IsHot told s old.seen i.hot = subst (λ (x : State). IsHot told x old.seen i.hot) (sym same) c.self.invariant.2 in
    subst (λ (x : State). IsFiled x (g.D.Disk.told n.disk) n.start n.journal new × HasRoom x c.write.new.draft × IsHot (g.D.Disk.told n.disk) x new.seen i.hot) (sym c.cut.ensures) (
      subst (λ b. IsFiled (with_cut s number cover) b n.start n.journal new) (sym c.write.ensures.told) w.written.ok,
      omega (arith, enough, c.write.ensures.room, needed_cut s known cover of_all number admits),
      hot_written told (g.D.Disk.told n.disk) s (with_cut s number cover) old.seen new.seen i.hot c.write.ensures.told w.written.same (cut_hot s number cover) hot,
    )

pub returns-in-Err-write-clause-cuts : goal.returns-in-Err-write-clause-cuts
returns-in-Err-write-clause-cuts g c =
    let i = c.self.inside in
    let s = c.admit.new.self.state in
    let f = i.file in
    let n = c.write.new.file in
    let cover = c.args.cover.now in
    let number = c.in-Ok-Number.number in
    let told = g.D.Disk.told f.disk in
    let old = g.D.Disk.state f.disk in
    let new = g.D.Disk.state n.disk in
    let same : s ≡ i.core.state = c.admit.ensures.same in
    let known : IsKnown s = subst IsKnown (sym same) c.known.ensures in
    let of_core : IsCoverOf i.core.state.catalogue cover = subst (λ v. IsCoverOf v.state.catalogue cover) (sym c.self.view_is) c.requires in
    let of_all : IsCoverOf s.catalogue cover = subst (λ (x : State). IsCoverOf x.catalogue cover) (sym same) of_core in
    let admits : Admits s cover (admitted.Number number) = subst (λ (x : State). Admits x cover (admitted.Number number)) (sym same) (search rules) in
    let leads = subst (RecordLeads s (with_entry s (entry.Missed number)) (with_cut s number cover)) (sym c.record_of_cut-entry.ensures.is) (cut_leads s known cover of_all number admits) in
    let regions = cut_regions s known cover of_all number admits in
    let enough : needed s + 1 ≤ c.reserve_one_more.new.draft.room = subst (λ (x : State). needed x + 1 ≤ c.reserve_one_more.new.draft.room) (sym same) c.in-Ok.ensures.room in
    let w = c.in-Err-write.ensures.writes (with_entry s (entry.Missed number)) (with_cut s number cover) leads regions in
    let fault = reply.DiskFault c.fault_count-before.result c.fault_count.result in
    subst (λ v. Cuts v.state cover fault (on_disk (g.D.Disk.told n.disk) new.seen c.miss.new.self.state)) c.self.view_is
    (subst (λ (x : State). Cuts (on_disk told old.seen x) cover fault (on_disk (g.D.Disk.told n.disk) new.seen c.miss.new.self.state)) same
    (subst (λ (x : State). Cuts (on_disk told old.seen s) cover fault (on_disk (g.D.Disk.told n.disk) new.seen x)) (sym c.miss.ensures)
    (subst (λ b. Cuts (on_disk told old.seen s) cover fault (on_disk b new.seen (with_entry s (entry.Missed number)))) (sym c.write.ensures.told)
    (missed_row_on s known cover of_all number admits told old.seen new.seen c.fault_count-before.result c.fault_count.result (search rules) w.written.same))))

pub returns-in-Err-write-clause-images : goal.returns-in-Err-write-clause-images
returns-in-Err-write-clause-images g c =
    let i = c.self.inside in
    let s = c.admit.new.self.state in
    let f = i.file in
    let n = c.write.new.file in
    let cover = c.args.cover.now in
    let number = c.in-Ok-Number.number in
    let told = g.D.Disk.told f.disk in
    let old = g.D.Disk.state f.disk in
    let new = g.D.Disk.state n.disk in
    let same : s ≡ i.core.state = c.admit.ensures.same in
    let known : IsKnown s = subst IsKnown (sym same) c.known.ensures in
    let of_core : IsCoverOf i.core.state.catalogue cover = subst (λ v. IsCoverOf v.state.catalogue cover) (sym c.self.view_is) c.requires in
    let of_all : IsCoverOf s.catalogue cover = subst (λ (x : State). IsCoverOf x.catalogue cover) (sym same) of_core in
    let admits : Admits s cover (admitted.Number number) = subst (λ (x : State). Admits x cover (admitted.Number number)) (sym same) (search rules) in
    let leads = subst (RecordLeads s (with_entry s (entry.Missed number)) (with_cut s number cover)) (sym c.record_of_cut-entry.ensures.is) (cut_leads s known cover of_all number admits) in
    let regions = cut_regions s known cover of_all number admits in
    let enough : needed s + 1 ≤ c.reserve_one_more.new.draft.room = subst (λ (x : State). needed x + 1 ≤ c.reserve_one_more.new.draft.room) (sym same) c.in-Ok.ensures.room in
    let w = c.write.ensures.writes (with_entry s (entry.Missed number)) (with_cut s number cover) leads regions in
    subst (λ v. IsTrue (g.D.Disk.told v.file.disk) → Lasts v.state (λ u. (t : ℕ) × Cuts v.state cover (reply.Done t) u) v.file.journal (g.D.Disk.state v.file.disk) new) c.self.view_is
    (subst (λ (x : State). IsTrue told → Lasts (on_disk told old.seen x) (λ u. (t : ℕ) × Cuts (on_disk told old.seen x) cover (reply.Done t) u) f.journal old new) same
    (cut_images s known cover of_all number admits told old new c.write.result n.start f.journal n.journal w))

pub returns-in-Ok-write-clause-images : goal.returns-in-Ok-write-clause-images
returns-in-Ok-write-clause-images g c =
    let i = c.self.inside in
    let s = c.admit.new.self.state in
    let f = i.file in
    let n = c.write.new.file in
    let cover = c.args.cover.now in
    let number = c.in-Ok-Number.number in
    let told = g.D.Disk.told f.disk in
    let old = g.D.Disk.state f.disk in
    let new = g.D.Disk.state n.disk in
    let same : s ≡ i.core.state = c.admit.ensures.same in
    let known : IsKnown s = subst IsKnown (sym same) c.known.ensures in
    let of_core : IsCoverOf i.core.state.catalogue cover = subst (λ v. IsCoverOf v.state.catalogue cover) (sym c.self.view_is) c.requires in
    let of_all : IsCoverOf s.catalogue cover = subst (λ (x : State). IsCoverOf x.catalogue cover) (sym same) of_core in
    let admits : Admits s cover (admitted.Number number) = subst (λ (x : State). Admits x cover (admitted.Number number)) (sym same) (search rules) in
    let leads = subst (RecordLeads s (with_entry s (entry.Missed number)) (with_cut s number cover)) (sym c.record_of_cut-entry.ensures.is) (cut_leads s known cover of_all number admits) in
    let regions = cut_regions s known cover of_all number admits in
    let enough : needed s + 1 ≤ c.reserve_one_more.new.draft.room = subst (λ (x : State). needed x + 1 ≤ c.reserve_one_more.new.draft.room) (sym same) c.in-Ok.ensures.room in
    let w = c.write.ensures.writes (with_entry s (entry.Missed number)) (with_cut s number cover) leads regions in
    subst (λ v. IsTrue (g.D.Disk.told v.file.disk) → Lasts v.state (λ u. (t : ℕ) × Cuts v.state cover (reply.Done t) u) v.file.journal (g.D.Disk.state v.file.disk) new) c.self.view_is
    (subst (λ (x : State). IsTrue told → Lasts (on_disk told old.seen x) (λ u. (t : ℕ) × Cuts (on_disk told old.seen x) cover (reply.Done t) u) f.journal old new) same
    (cut_images s known cover of_all number admits told old new c.write.result n.start f.journal n.journal w))

pub returns-in-Ok-write-clause-cuts : goal.returns-in-Ok-write-clause-cuts
returns-in-Ok-write-clause-cuts g c =
    let i = c.self.inside in
    let s = c.admit.new.self.state in
    let f = i.file in
    let n = c.write.new.file in
    let cover = c.args.cover.now in
    let number = c.in-Ok-Number.number in
    let told = g.D.Disk.told f.disk in
    let old = g.D.Disk.state f.disk in
    let new = g.D.Disk.state n.disk in
    let same : s ≡ i.core.state = c.admit.ensures.same in
    let known : IsKnown s = subst IsKnown (sym same) c.known.ensures in
    let of_core : IsCoverOf i.core.state.catalogue cover = subst (λ v. IsCoverOf v.state.catalogue cover) (sym c.self.view_is) c.requires in
    let of_all : IsCoverOf s.catalogue cover = subst (λ (x : State). IsCoverOf x.catalogue cover) (sym same) of_core in
    let admits : Admits s cover (admitted.Number number) = subst (λ (x : State). Admits x cover (admitted.Number number)) (sym same) (search rules) in
    let leads = subst (RecordLeads s (with_entry s (entry.Missed number)) (with_cut s number cover)) (sym c.record_of_cut-entry.ensures.is) (cut_leads s known cover of_all number admits) in
    let regions = cut_regions s known cover of_all number admits in
    let enough : needed s + 1 ≤ c.reserve_one_more.new.draft.room = subst (λ (x : State). needed x + 1 ≤ c.reserve_one_more.new.draft.room) (sym same) c.in-Ok.ensures.room in
    let w = c.in-Ok-write.ensures.writes (with_entry s (entry.Missed number)) (with_cut s number cover) leads regions in
    subst (λ v. Cuts v.state cover (reply.Done number) (on_disk (g.D.Disk.told n.disk) new.seen c.cut.new.self.state)) c.self.view_is
    (subst (λ (x : State). Cuts (on_disk told old.seen x) cover (reply.Done number) (on_disk (g.D.Disk.told n.disk) new.seen c.cut.new.self.state)) same
    (subst (λ (x : State). Cuts (on_disk told old.seen s) cover (reply.Done number) (on_disk (g.D.Disk.told n.disk) new.seen x)) (sym c.cut.ensures)
    (subst (λ b. Cuts (on_disk told old.seen s) cover (reply.Done number) (on_disk b new.seen (with_cut s number cover))) (sym c.write.ensures.told)
    (cut_row_on s known cover of_all number admits told old.seen new.seen w.written.same_next))))
