use Rattle.std.proofs.Common.{◌≡◌, Bool, IsTrue, List, Ok, subst, sym}
use Rattle.durable_cabinet.specs.Filed.{on_disk}
use Rattle.durable_cabinet.specs.Hot.{HotTile, IsHot}
use Rattle.durable_cabinet.proofs.Blobs.{same_on}
use Rattle.disk_model.specs.Images.{Leaves}
use Rattle.durable_cabinet.specs.Openings.{OpensWith}
use Rattle.durable_cabinet.proofs.OpeningFiled.{filed_now, images_with, seen_same}
use Rattle.durable_cabinet.proofs.entering.enter.Goals as goal

pub invariant_of-result : goal.invariant_of-result
invariant_of-result g c =
    let s = c.args.core.state in
    let f = c.args.file in
    let w = c.in-Ok.ensures in
    let n = c.write_opening.new.file in (
      filed_now s (g.D.Disk.told f.disk) (g.D.Disk.told n.disk) f.start n.start f.journal n.journal (g.D.Disk.state f.disk) (g.D.Disk.state n.disk) (Ok _) c.known.ensures c.requires.begun w.told w.start w.alike w.version w.ok
          (g.met.D.Disk.lawful n.disk) w.enters (λ is. (w.enters is).brings.done),
      w.room,
      subst (λ (tier : List HotTile). IsHot (g.D.Disk.told n.disk) s (g.D.Disk.state n.disk).seen tier) (sym c.requires.cold) tt,
    )

pub returns-in-Ok-clause-images : goal.returns-in-Ok-clause-images
returns-in-Ok-clause-images g c told =
    let s = c.args.core.state in
    let f = c.args.file in
    let n = c.write_opening.new.file in
    images_with (g.D.Disk.told f.disk) s f.start f.journal (g.D.Disk.state f.disk) c.known.ensures c.requires.begun told c.write_opening.result n.journal (g.D.Disk.state n.disk) (c.write_opening.ensures.enters told)

pub returns-in-Err-clause-images : goal.returns-in-Err-clause-images
returns-in-Err-clause-images g c told =
    let s = c.args.core.state in
    let f = c.args.file in
    let n = c.write_opening.new.file in
    subst (λ d. Leaves (g.D.Disk.state f.disk) (g.D.Disk.state d) (OpensWith s (g.D.Disk.state f.disk).seen)) (sym c.into_disk.ensures)
    (images_with (g.D.Disk.told f.disk) s f.start f.journal (g.D.Disk.state f.disk) c.known.ensures c.requires.begun told c.write_opening.result n.journal (g.D.Disk.state n.disk) (c.write_opening.ensures.enters told))

pub returns-in-Ok-clause-state : goal.returns-in-Ok-clause-state
returns-in-Ok-clause-state g c =
    let s = c.args.core.state in
    let f = c.args.file in
    let w = c.in-Ok.ensures in
    let n = c.write_opening.new.file in
    let told = g.D.Disk.told f.disk in
    let old = g.D.Disk.state f.disk in
    let new = g.D.Disk.state n.disk in
    subst (λ (b : Bool). on_disk b new.seen s ≡ on_disk told old.seen s) (sym w.told)
    (same_on told s old.seen new.seen (λ is. seen_same told s f.start f.journal old c.known.ensures c.requires.begun is c.write_opening.result n.journal new (c.write_opening.ensures.enters is) (g.met.D.Disk.lawful n.disk (subst IsTrue (sym w.told) is)).reads_as))
