use Rattle.std.proofs.Common.{◌∙◌, ap, IsTrue, List, sym, subst}
use Rattle.cabinet.specs.declared.kept.Kept.{Kept}
use Rattle.disk_model.specs.Content.{Same}
use Rattle.disk_model.specs.Images.{ChangesBy}
use Rattle.durable_cabinet.specs.Openings.{IsReplayed}
use Rattle.cache_seal.specs.Ends.{IsKeptSo}
use Rattle.cache_seal.proofs.Restoring.{by_end, kept_so, sealed_so}
use Rattle.cache_seal.proofs.sealing.seal.Goals as goal

pub seal_restored-requires-clause-kept : goal.seal_restored-requires-clause-kept
seal_restored-requires-clause-kept g c =
    let restored = c.in-Ok.restored in
    subst (IsKeptSo c.args.catalogue.now) (sym c.as_slice.ensures.value)
    (kept_so (g.D.Disk.told c.args.disk) c.args.catalogue.now (g.D.Disk.state c.in-Ok.file.disk) c.in-Ok.file.journal restored.opening restored.kept.items restored.cuts.book c.requires.valid c.laws_of_replays.ensures.opens c.in-Ok.ensures.replayed)

pub returns-in-Ok-clause-sealed : goal.returns-in-Ok-clause-sealed
returns-in-Ok-clause-sealed g c =
    let told = g.D.Disk.told in
    let state = g.D.Disk.state in
    let first = c.args.disk in
    let file = c.in-Ok.file in
    let restored = c.in-Ok.restored in
    let disk = c.into_disk-disk.result in
    let there = c.into_disk-disk.ensures in
    let kept = c.as_slice.result.now in
    let same = c.as_slice.ensures.value in
    let catalogue = c.args.catalogue.now in
    let here = c.in-Ok.ensures in
    let did = c.seal_restored.ensures in
    let replayed = subst (λ (l : List Kept). IsReplayed (told first) catalogue (state disk) file.journal restored.opening l restored.cuts.book) (sym same)
    (subst (λ d. IsReplayed (told first) catalogue (state d) file.journal restored.opening restored.kept.items restored.cuts.book) (sym there) here.replayed) in
    let quiet = subst (λ d. IsTrue (told first) → ChangesBy Same (state first) (state d)) (sym there) here.quiet in
    by_end c.seal_restored.result.end _ _ _ _
    (λ t sealed sum many. sealed_so (told first) (told disk) (g.S.Disk.told c.args.sums) catalogue c.args.rule.grain c.args.rule.anew (state first) (state disk) file.journal restored.opening kept restored.cuts.book
    (g.S.Disk.state c.args.sums).seen (g.S.Disk.state c.seal_restored.result.sums).seen t (λ is. subst IsTrue (sym (ap told there ∙ here.told)) is) quiet replayed sealed sum many)
    did.sealed did.sum did.many
