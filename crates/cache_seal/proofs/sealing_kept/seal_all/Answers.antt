use Rattle.std.proofs.Common.{◌≡◌, ◌+◌, ◌^◌, ◌++◌, ◌≤◌, ◌∙◌, IsTrue, List, length, length-append, take, sym, ap, subst, slice_get, Some, arith}
use Rattle.std.proofs.lemmas.List.{take_all}
use Rattle.std.proofs.lemmas.List.FromFn.{length-map-range_with_len}
use Rattle.cabinet.specs.declared.kept.Kept.{Kept}
use Rattle.disk_model.specs.Content.{Same}
use Rattle.disk_model.specs.Moments.{changes_then}
use Rattle.cache_seal.specs.declared.tiles.DiskTile.{DiskTile}
use Rattle.cache_seal.specs.Fates.{no_tally}
use Rattle.cache_seal.specs.OfCache.{blob_tiles, kept_tiles, tile_length}
use Rattle.cache_seal.specs.Seals.{HasSealed}
use Rattle.cache_seal.specs.Tiles.{nth_tile, tiles_in}
use Rattle.cache_seal.proofs.Blobs.{all_at, all_taken, apart_before, kept_apart, tiles_next, wide_all}
use Rattle.cache_seal.proofs.Counts.{faults_then}
use Rattle.cache_seal.proofs.Together.{same_sealed, then_sealed}
use Rattle.cache_seal.proofs.sealing_kept.seal_all.Goals as goal

pub seal_kept-requires-clause-meta : goal.seal_kept-requires-clause-meta
seal_kept-requires-clause-meta g c = all_at _ c.args.kept.now c.sealing.at c.kept_at-one.result c.requires.metas c.kept_at-one.ensures

pub seal_kept-requires-clause-end : goal.seal_kept-requires-clause-end
seal_kept-requires-clause-end g c =
    let within = all_at (λ (t : Kept). t.place + t.length ≤ 2 ^ 60) c.args.kept.now c.sealing.at c.kept_at-one.result c.requires.within c.kept_at-one.ensures in
    let from = c.requires.start in
    omega (arith, within, from)

pub sealing-preserved : goal.sealing-preserved
sealing-preserved g c =
    let told = g.D.Disk.told c.args.disk.now in
    let sums_told = g.S.Disk.told c.args.sums.now in
    let first = g.D.Disk.state c.args.disk.now in
    let before = g.D.Disk.state c.sealing.disk in
    let after = g.D.Disk.state c.seal_kept.new.disk in
    let old = (g.S.Disk.state c.args.sums.now).seen in
    let mid = (g.S.Disk.state c.sealing.sums).seen in
    let new = (g.S.Disk.state c.seal_kept.new.sums).seen in
    let grain = c.args.rule.grain in
    let anew = c.args.rule.anew in
    let catalogue = c.args.catalogue.now in
    let start = c.args.start in
    let kept = c.args.kept.now in
    let at = c.sealing.at in
    let one = c.kept_at-one.result in
    let is : slice_get kept at ≡ Some one = c.kept_at-one.ensures in
    let us : List DiskTile = kept_tiles start catalogue (take at kept) in
    let vs : List DiskTile = tiles_in (blob_tiles start catalogue one) in
    let t1 = c.sealing.tally in
    let t2 = c.seal_kept.new.tally in
    let inv = c.sealing.invariant in
    let did = c.seal_kept.ensures in
    let here = c.in-Ok.ensures in
    let wide = wide_all grain catalogue kept c.requires.long c.requires.metas in
    let more : kept_tiles start catalogue (take (at + 1) kept) ≡ us ++ vs = tiles_next start catalogue kept at one is in
    let this : HasSealed told sums_told grain anew first.seen vs mid new t1 t2 =
    same_sealed told sums_told (g.D.Disk.told c.sealing.disk) (g.S.Disk.told c.sealing.sums) grain anew first.seen before.seen vs mid new t1 t2 (λ x. subst IsTrue (sym inv.disk_told) x) (λ y. subst IsTrue (sym inv.told) y) (λ x. (inv.quiet x).reads) here.sealed in
    let long : length vs ≡ (blob_tiles start catalogue one).count = length-map-range_with_len (nth_tile (blob_tiles start catalogue one)) 0 (blob_tiles start catalogue one).count in
    record {
      disk_told = did.disk_told ∙ inv.disk_told;
      quiet = λ is. changes_then Same Same Same first before after (λ x y same. same) (λ x y z one next. next ∙ one) (inv.quiet is) (did.quiet (subst IsTrue (sym inv.disk_told) is));
      disk_later = let a = inv.disk_later in let b = did.disk_later in omega (arith, a, b);
      told = did.told ∙ inv.told;
      later = let a = inv.later in let b = did.later in omega (arith, a, b);
      sealed = subst (λ (l : List DiskTile). HasSealed told sums_told grain anew first.seen l old new no_tally t2) (sym more)
          (then_sealed told sums_told grain anew first.seen us vs old mid new no_tally t1 t2
          (kept_apart grain start catalogue one (let h = c.requires.grain in omega (arith, h)) (all_at (λ (u : Kept). grain ≤ tile_length catalogue u.meta) kept at one wide is)
          (take at kept) (all_taken (λ (u : Kept). grain ≤ tile_length catalogue u.meta) at kept wide) (apart_before kept at one c.requires.disjoint is))
          inv.sealed this);
      sum = here.sum;
      many = let a = inv.many in let b = here.many in let e = length-append us vs in let m = ap (λ (l : List DiskTile). length l) more in omega (arith, a, b, e, m, long);
      few = let a = inv.few in let b = here.few in omega (arith, a, b);
      unread = faults_then 0 t1.unread t2.unread (g.D.Disk.faults c.args.disk.now) (g.D.Disk.faults c.sealing.disk) (g.D.Disk.faults c.seal_kept.new.disk) (g.S.Disk.faults c.args.sums.now) (g.S.Disk.faults c.sealing.sums) (g.S.Disk.faults c.seal_kept.new.sums) inv.unread here.unread;
    }

pub returns-clause-sealed : goal.returns-clause-sealed
returns-clause-sealed g c =
    let kept = c.args.kept.now in
    let end = c.sealing.auto.at-end in
    let not = c.sealing-test.false in
    let whole : take c.sealing.at kept ≡ kept = take_all c.sealing.at kept (omega (arith, end, not)) in
    subst (λ (l : List Kept). HasSealed (g.D.Disk.told c.args.disk.now) (g.S.Disk.told c.args.sums.now) c.args.rule.grain c.args.rule.anew (g.D.Disk.state c.args.disk.now).seen (kept_tiles c.args.start c.args.catalogue.now l) (g.S.Disk.state c.args.sums.now).seen (g.S.Disk.state c.sealing.sums).seen no_tally c.sealing.tally) whole c.sealing.invariant.sealed

pub returns-clause-many : goal.returns-clause-many
returns-clause-many g c =
    let kept = c.args.kept.now in
    let end = c.sealing.auto.at-end in
    let not = c.sealing-test.false in
    let whole : take c.sealing.at kept ≡ kept = take_all c.sealing.at kept (omega (arith, end, not)) in
    subst (λ (l : List Kept). c.sealing.tally.tiles ≡ length (kept_tiles c.args.start c.args.catalogue.now l)) whole c.sealing.invariant.many
