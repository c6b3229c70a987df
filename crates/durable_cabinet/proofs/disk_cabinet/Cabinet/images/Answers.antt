use Rattle.std.proofs.Common.{◌⊎◌, IsTrue, subst}
use Rattle.cabinet.specs.State.{IsSound}
use Rattle.disk_model.specs.Images.{Every}
use Rattle.gate_journal.specs.Sound.{IsSettled}
use Rattle.durable_cabinet.specs.Missed.{IsPicture}
use Rattle.durable_cabinet.specs.Images.{HasUndecided, IsLeft, IsOurs, IsSoundImage, Restores}
use Rattle.durable_cabinet.proofs.Imaging.{images_all_sound, images_left, images_ours, images_settled, images_sound}
use Rattle.durable_cabinet.proofs.disk_cabinet.Cabinet.images.Goals as goal

pub returns-clause-left : goal.returns-clause-left
returns-clause-left g c =
    let i = c.self.inside in
    let f = i.file in
    subst (λ v. IsTrue (g.D.Disk.told v.file.disk) → Every (g.D.Disk.state v.file.disk).may_leave (IsLeft v.state v.file.journal (g.D.Disk.state v.file.disk))) c.self.view_is
    (images_left (g.D.Disk.told f.disk) i.core.state c.known.ensures f.start f.journal (g.D.Disk.state f.disk) f.behind c.self.invariant.0)

pub returns-clause-settled : goal.returns-clause-settled
returns-clause-settled g c =
    let i = c.self.inside in
    let f = i.file in
    subst (λ v. IsTrue (g.D.Disk.told v.file.disk) → IsSettled v.file.journal → Every (g.D.Disk.state v.file.disk).may_leave (Restores v.state)) c.self.view_is
    (images_settled (g.D.Disk.told f.disk) i.core.state c.known.ensures f.start f.journal (g.D.Disk.state f.disk) f.behind c.self.invariant.0)

pub returns-clause-ours : goal.returns-clause-ours
returns-clause-ours g c =
    let i = c.self.inside in
    let f = i.file in
    subst (λ v. IsTrue (g.D.Disk.told v.file.disk) → Every (g.D.Disk.state v.file.disk).may_leave (IsOurs v.state.catalogue)) c.self.view_is
    (images_ours (g.D.Disk.told f.disk) i.core.state c.known.ensures f.start f.journal (g.D.Disk.state f.disk) f.behind c.self.invariant.0)

pub returns-clause-sound : goal.returns-clause-sound
returns-clause-sound g c =
    let i = c.self.inside in
    let f = i.file in
    subst (λ v. IsTrue (g.D.Disk.told v.file.disk) → IsSound v.state → Every (g.D.Disk.state v.file.disk).may_leave (λ image. IsSoundImage v.state.catalogue image
    ⊎ ((u : HasUndecided v.state v.file.journal (g.D.Disk.state v.file.disk) image) × (IsPicture u.missed.from u.beside u.missed.missed u.missed.misses → IsSoundImage v.state.catalogue image)))) c.self.view_is
    (images_sound (g.D.Disk.told f.disk) i.core.state c.known.ensures f.start f.journal (g.D.Disk.state f.disk) f.behind c.self.invariant.0)

pub returns-clause-all_sound : goal.returns-clause-all_sound
returns-clause-all_sound g c =
    let i = c.self.inside in
    let f = i.file in
    subst (λ v. IsTrue (g.D.Disk.told v.file.disk) → IsSettled v.file.journal → IsSound v.state → Every (g.D.Disk.state v.file.disk).may_leave (IsSoundImage v.state.catalogue)) c.self.view_is
    (images_all_sound (g.D.Disk.told f.disk) i.core.state c.known.ensures f.start f.journal (g.D.Disk.state f.disk) f.behind c.self.invariant.0)
