use Rattle.std.proofs.Common.{IsTrue, inl, subst}
use Rattle.disk_model.specs.Moments.{leaves_as}
use Rattle.durable_cabinet.specs.Filed.{on_disk}
use Rattle.durable_cabinet.specs.Images.{IsLeft, Lasts}
use Rattle.durable_cabinet.proofs.disk_cabinet.Cabinet.ask.Goals as goal

pub returns-in-Ok-clause-images : goal.returns-in-Ok-clause-images
returns-in-Ok-clause-images g c =
    let i = c.self.inside in
    let f = i.file in
    let s = i.core.state in
    let told = g.D.Disk.told f.disk in
    let old = g.D.Disk.state f.disk in
    let new = g.D.Disk.state c.ask_tile.new.file.disk in
    subst (λ v. IsTrue (g.D.Disk.told v.file.disk) → Lasts v.state (λ u. ⊥) v.file.journal (g.D.Disk.state v.file.disk) new) c.self.view_is
    (λ is. leaves_as old new (IsLeft (on_disk told old.seen s) f.journal old) _ (c.ask_tile.ensures.rests.images is) (λ image left. inl left))
