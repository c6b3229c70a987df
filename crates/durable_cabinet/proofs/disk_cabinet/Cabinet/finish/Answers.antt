use Rattle.std.proofs.Common.{rules, ℕ, List, Ok, ◌≡◌, ◌∙◌, IsTrue, ap, length, replicate, subst, sym, arith}
use Rattle.cabinet.specs.declared.replies.Finished.TheVariants as finished
use Rattle.cabinet.specs.Commands.{Finishes}
use Rattle.cabinet.specs.State.{State, with_blob}
use Rattle.raster_field.specs.Blocks.{blob_size}
use Rattle.durable_cabinet.specs.Backing.{StoresBlob, with_away}
use Rattle.durable_cabinet.specs.Drafts.{HasRoom}
use Rattle.durable_cabinet.specs.Filed.{IsFiled, on_disk}
use Rattle.durable_cabinet.specs.Hot.{IsHot}
use Rattle.durable_cabinet.specs.Images.{Lasts}
use Rattle.durable_cabinet.proofs.Finishing.{fault_on_disk, finish_images, finish_leads, kept_on_disk, needed_kept, unkept, unkept_is}
use Rattle.durable_cabinet.proofs.Forcing.{abandons_alike, abandons_needed, filed_alike}
use Rattle.durable_cabinet.proofs.Heating.{abandons_hot, hot_stays, hot_written, kept_hot}
use Rattle.durable_cabinet.proofs.disk_cabinet.Cabinet.finish.Goals as goal

pub invariant_of-self-in-Overtaken : goal.invariant_of-self-in-Overtaken
invariant_of-self-in-Overtaken g c =
    let i = c.self.inside in
    let s = i.core.state in
    let f = i.file in
    let u = c.abandon-in-Overtaken.new.self.state in
    let a = c.abandon-in-Overtaken.ensures.abandons in
    (filed_alike (g.D.Disk.told f.disk) s u f.start f.journal (g.D.Disk.state f.disk) (abandons_alike s u c.args.ticket a) c.self.invariant.0, omega (arith, c.self.invariant.1, abandons_needed s u c.args.ticket a), hot_stays (g.D.Disk.told f.disk) s u (g.D.Disk.state f.disk).seen i.hot (abandons_hot s u c.args.ticket a) c.self.invariant.2)

pub invariant_of-self-in-Full : goal.invariant_of-self-in-Full
invariant_of-self-in-Full g c =
    let i = c.self.inside in
    let s = i.core.state in
    let f = i.file in
    let u = c.abandon-in-Full.new.self.state in
    let a = c.abandon-in-Full.ensures.abandons in
    (filed_alike (g.D.Disk.told f.disk) s u f.start f.journal (g.D.Disk.state f.disk) (abandons_alike s u c.args.ticket a) c.self.invariant.0, omega (arith, c.self.invariant.1, abandons_needed s u c.args.ticket a), hot_stays (g.D.Disk.told f.disk) s u (g.D.Disk.state f.disk).seen i.hot (abandons_hot s u c.args.ticket a) c.self.invariant.2)

pub invariant_of-self-in-NoRoom : goal.invariant_of-self-in-NoRoom
invariant_of-self-in-NoRoom g c =
    let i = c.self.inside in
    let s = i.core.state in
    let f = i.file in
    let u = c.abandon-in-NoRoom.new.self.state in
    let a = c.abandon-in-NoRoom.ensures.abandons in
    (filed_alike (g.D.Disk.told f.disk) s u f.start f.journal (g.D.Disk.state f.disk) (abandons_alike s u c.args.ticket a) c.self.invariant.0, omega (arith, c.self.invariant.1, abandons_needed s u c.args.ticket a), hot_stays (g.D.Disk.told f.disk) s u (g.D.Disk.state f.disk).seen i.hot (abandons_hot s u c.args.ticket a) c.self.invariant.2)

pub invariant_of-self-in-Err : goal.invariant_of-self-in-Err
invariant_of-self-in-Err g c =
    let i = c.self.inside in
    let s = i.core.state in
    let f = i.file in
    let n = c.keep.new.file in
    let x = c.in-Fits.kept in
    let t = c.args.ticket in
    let told = g.D.Disk.told f.disk in
    let old = g.D.Disk.state f.disk in
    let new = g.D.Disk.state n.disk in
    let blob : List ℕ = c.args.blob in
    let long : length blob ≡ blob_size s.catalogue t.meta = subst (λ v. length blob ≡ blob_size v.state.catalogue t.meta) (sym c.self.view_is) c.requires.blob in
    let leads = finish_leads s c.known.ensures t x c.in-Fits.ensures in
    let u = c.abandon-in-Err.new.self.state in
    let a = c.abandon-in-Err.ensures.abandons in
    let w = c.in-Err.ensures.stores (unkept s c.known.ensures t x c.in-Fits.ensures) leads in (
      subst (λ b. IsFiled u b n.start n.journal new) (sym c.keep.ensures.told) (subst (λ (y : State). IsFiled y told n.start n.journal new) (sym (unkept_is s c.known.ensures t x c.in-Fits.ensures u a)) w.err),
      omega (arith, c.self.invariant.1, c.keep.ensures.room, abandons_needed s u t a),
      hot_written told (g.D.Disk.told n.disk) s u old.seen new.seen i.hot c.keep.ensures.told w.same (abandons_hot s u t a) c.self.invariant.2,
    )

pub returns-in-Err-clause-finished : goal.returns-in-Err-clause-finished
returns-in-Err-clause-finished g c =
    let i = c.self.inside in
    let s = i.core.state in
    let f = i.file in
    let n = c.keep.new.file in
    let x = c.in-Fits.kept in
    let t = c.args.ticket in
    let told = g.D.Disk.told f.disk in
    let old = g.D.Disk.state f.disk in
    let new = g.D.Disk.state n.disk in
    let blob : List ℕ = c.args.blob in
    let long : length blob ≡ blob_size s.catalogue t.meta = subst (λ v. length blob ≡ blob_size v.state.catalogue t.meta) (sym c.self.view_is) c.requires.blob in
    let leads = finish_leads s c.known.ensures t x c.in-Fits.ensures in
    let u = c.abandon-in-Err.new.self.state in
    let w = c.in-Err.ensures.stores (unkept s c.known.ensures t x c.in-Fits.ensures) leads in
    let fault = finished.DiskFault c.fault_count-before.result c.fault_count.result in
    subst (λ v. Finishes v.state t blob fault (on_disk (g.D.Disk.told n.disk) new.seen u)) c.self.view_is
    (subst (λ b. Finishes (on_disk told old.seen s) t blob fault (on_disk b new.seen u)) (sym c.keep.ensures.told)
    (fault_on_disk s c.known.ensures t x c.in-Fits.ensures told old.seen new.seen blob u c.fault_count-before.result c.fault_count.result long (search rules) c.abandon-in-Err.ensures.abandons w.same))

pub returns-in-Err-clause-images : goal.returns-in-Err-clause-images
returns-in-Err-clause-images g c =
    let i = c.self.inside in
    let s = i.core.state in
    let f = i.file in
    let n = c.keep.new.file in
    let x = c.in-Fits.kept in
    let t = c.args.ticket in
    let told = g.D.Disk.told f.disk in
    let old = g.D.Disk.state f.disk in
    let new = g.D.Disk.state n.disk in
    let blob : List ℕ = c.args.blob in
    let long : length blob ≡ blob_size s.catalogue t.meta = subst (λ v. length blob ≡ blob_size v.state.catalogue t.meta) (sym c.self.view_is) c.requires.blob in
    let leads = finish_leads s c.known.ensures t x c.in-Fits.ensures in
    let w = subst (λ (b : List ℕ). StoresBlob c.keep.result told s (unkept s c.known.ensures t x c.in-Fits.ensures) x b n.start f.journal n.journal old new) (search rules) (c.keep.ensures.stores (unkept s c.known.ensures t x c.in-Fits.ensures) leads) in
    subst (λ v. IsTrue (g.D.Disk.told v.file.disk) → Lasts v.state (λ u. Finishes v.state t blob finished.Kept u) v.file.journal (g.D.Disk.state v.file.disk) new) c.self.view_is
    (finish_images s c.known.ensures t x c.in-Fits.ensures told blob old new c.keep.result n.start f.journal n.journal long w)

pub invariant_of-self-in-Ok : goal.invariant_of-self-in-Ok
invariant_of-self-in-Ok g c =
    let i = c.self.inside in
    let s = i.core.state in
    let f = i.file in
    let n = c.keep.new.file in
    let x = c.in-Fits.kept in
    let t = c.args.ticket in
    let told = g.D.Disk.told f.disk in
    let old = g.D.Disk.state f.disk in
    let new = g.D.Disk.state n.disk in
    let blob : List ℕ = c.args.blob in
    let long : length blob ≡ blob_size s.catalogue t.meta = subst (λ v. length blob ≡ blob_size v.state.catalogue t.meta) (sym c.self.view_is) c.requires.blob in
    let leads = finish_leads s c.known.ensures t x c.in-Fits.ensures in
    let w = c.in-Ok.ensures.stores (unkept s c.known.ensures t x c.in-Fits.ensures) leads in
    let is : c.keep-in-Ok.new.self.state ≡ with_away s x = c.keep-in-Ok.ensures ∙ ap (λ text. with_blob s x text) c.away.ensures in
    subst (λ (y : State). IsFiled y (g.D.Disk.told n.disk) n.start n.journal new × HasRoom y c.keep.new.draft × IsHot (g.D.Disk.told n.disk) y new.seen i.hot) (sym is) (
      subst (λ b. IsFiled (with_away s x) b n.start n.journal new) (sym c.keep.ensures.told) w.ok,
      omega (arith, c.self.invariant.1, c.keep.ensures.room, needed_kept s c.known.ensures t x c.in-Fits.ensures),
      hot_written told (g.D.Disk.told n.disk) s (with_away s x) old.seen new.seen i.hot c.keep.ensures.told w.same (kept_hot s t x (replicate x.length 0) c.in-Fits.ensures) c.self.invariant.2,
    )

pub returns-clause-finished : goal.returns-clause-finished
returns-clause-finished g c =
    let i = c.self.inside in
    let s = i.core.state in
    let f = i.file in
    let n = c.keep.new.file in
    let x = c.in-Fits.kept in
    let t = c.args.ticket in
    let told = g.D.Disk.told f.disk in
    let old = g.D.Disk.state f.disk in
    let new = g.D.Disk.state n.disk in
    let blob : List ℕ = c.args.blob in
    let long : length blob ≡ blob_size s.catalogue t.meta = subst (λ v. length blob ≡ blob_size v.state.catalogue t.meta) (sym c.self.view_is) c.requires.blob in
    let leads = finish_leads s c.known.ensures t x c.in-Fits.ensures in
    let same : c.bytes.result.now ≡ blob = search rules in
    let w = subst (λ (b : List ℕ). StoresBlob (Ok c.in-Ok.field-0) told s (unkept s c.known.ensures t x c.in-Fits.ensures) x b n.start f.journal n.journal old new) same (c.in-Ok.ensures.stores (unkept s c.known.ensures t x c.in-Fits.ensures) leads) in
    let is : c.keep-in-Ok.new.self.state ≡ with_away s x = c.keep-in-Ok.ensures ∙ ap (λ text. with_blob s x text) c.away.ensures in
    subst (λ v. Finishes v.state t blob finished.Kept (on_disk (g.D.Disk.told n.disk) new.seen c.keep-in-Ok.new.self.state)) c.self.view_is
    (subst (λ (y : State). Finishes (on_disk told old.seen s) t blob finished.Kept (on_disk (g.D.Disk.told n.disk) new.seen y)) (sym is)
    (subst (λ b. Finishes (on_disk told old.seen s) t blob finished.Kept (on_disk b new.seen (with_away s x))) (sym c.keep.ensures.told)
    (kept_on_disk s c.known.ensures t x c.in-Fits.ensures told old.seen blob (on_disk told new.seen (with_away s x)) long w.there)))

pub returns-clause-images : goal.returns-clause-images
returns-clause-images g c =
    let i = c.self.inside in
    let s = i.core.state in
    let f = i.file in
    let n = c.keep.new.file in
    let x = c.in-Fits.kept in
    let t = c.args.ticket in
    let told = g.D.Disk.told f.disk in
    let old = g.D.Disk.state f.disk in
    let new = g.D.Disk.state n.disk in
    let blob : List ℕ = c.args.blob in
    let long : length blob ≡ blob_size s.catalogue t.meta = subst (λ v. length blob ≡ blob_size v.state.catalogue t.meta) (sym c.self.view_is) c.requires.blob in
    let leads = finish_leads s c.known.ensures t x c.in-Fits.ensures in
    let w = subst (λ (b : List ℕ). StoresBlob c.keep.result told s (unkept s c.known.ensures t x c.in-Fits.ensures) x b n.start f.journal n.journal old new) (search rules) (c.keep.ensures.stores (unkept s c.known.ensures t x c.in-Fits.ensures) leads) in
    subst (λ v. IsTrue (g.D.Disk.told v.file.disk) → Lasts v.state (λ u. Finishes v.state t blob finished.Kept u) v.file.journal (g.D.Disk.state v.file.disk) new) c.self.view_is
    (finish_images s c.known.ensures t x c.in-Fits.ensures told blob old new c.keep.result n.start f.journal n.journal long w)
