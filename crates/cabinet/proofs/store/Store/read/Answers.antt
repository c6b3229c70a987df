use Rattle.std.proofs.Common.{◌≡◌, Some, find, ap, refl, sym, subst, ◌∙◌}
use Rattle.std.specs.Prelude.{option_copied}
use Rattle.std.specs.Option.{option_map}
use Rattle.metatile_plan.specs.declared.metatile.MetaKey.{MetaKey}
use Rattle.raster_field.specs.Blocks.{block_of}
use Rattle.cabinet.specs.declared.kept.Blob.{Blob}
use Rattle.cabinet.specs.declared.kept.KeptBlob.{KeptBlob}
use Rattle.cabinet.specs.History.{is_of}
use Rattle.cabinet.specs.Ordered.{as_kept}
use Rattle.cabinet.proofs.OnShelf.{found_long}
use Rattle.cabinet.proofs.store.Store.read.Goals as goal

pub tile-requires-clause-blob : goal.tile-requires-clause-blob
tile-requires-clause-blob c =
    let m = c.block_of-meta.result in
    let w = c.in-Some.blob.now in
    let e = sym c.get.ensures ∙ ap (λ o. option_map (λ (b : Blob). as_kept (m, b)) (option_copied o)) c.in-Some.is in
    let f = subst (λ (n : MetaKey). find (λ (x : KeptBlob). is_of n x.kept) c.args.self.now.blobs ≡ Some (as_kept (n, w))) c.block_of-meta.ensures.meta e in
    let block = block_of c.args.catalogue.now c.args.address.now in
    found_long c.args.catalogue.now c.args.self.now.blobs block (as_kept (block, w)) c.requires.lengths f

pub returns-in_ok-text-in-Some : goal.returns-in_ok-text-in-Some
returns-in_ok-text-in-Some c =
    let m = c.block_of-meta.result in
    let w = c.in-Some.blob.now in
    let e = sym c.get.ensures ∙ ap (λ o. option_map (λ (b : Blob). as_kept (m, b)) (option_copied o)) c.in-Some.is in
    let f = subst (λ (n : MetaKey). find (λ (x : KeptBlob). is_of n x.kept) c.args.self.now.blobs ≡ Some (as_kept (n, w))) c.block_of-meta.ensures.meta e in (
      as_kept (block_of c.args.catalogue.now c.args.address.now, w),
      f,
      refl,
      refl,
      c.in_ok-text-in-Some.ensures.part,
      c.in_ok-text-in-Some.ensures.sound,
    )
