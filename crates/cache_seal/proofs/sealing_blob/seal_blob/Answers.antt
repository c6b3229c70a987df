use Rattle.std.proofs.Common.{◌≡◌, ◌+◌, ◌++◌, ◌∷◌, [], ◌∙◌, IsTrue, List, sym, subst, arith}
use Rattle.std.proofs.lemmas.List.FromFn.{map-range_with_len_more}
use Rattle.disk_model.specs.Content.{Content, Same}
use Rattle.disk_model.specs.Moments.{changes_then}
use Rattle.cache_seal.specs.declared.tiles.DiskTile.{DiskTile}
use Rattle.cache_seal.specs.Seals.{AreSealed, HasSealed}
use Rattle.cache_seal.specs.Tiles.{first_tiles, nth_tile}
use Rattle.cache_seal.proofs.Apart.{apart_next}
use Rattle.cache_seal.proofs.Counts.{faults_then, noted_with_fault}
use Rattle.cache_seal.proofs.Together.{one_sealed, then_sealed, tiles_more}
use Rattle.cache_seal.proofs.sealing_blob.seal_blob.Goals as goal

pub sealing-preserved : goal.sealing-preserved
sealing-preserved g c =
    let told = g.D.Disk.told c.args.disk.now in
    let sums_told = g.S.Disk.told c.args.sums.now in
    let first = g.D.Disk.state c.args.disk.now in
    let before = g.D.Disk.state c.sealing.disk in
    let after = g.D.Disk.state c.seal_tile.new.disk in
    let old = (g.S.Disk.state c.args.sums.now).seen in
    let mid = (g.S.Disk.state c.sealing.sums).seen in
    let new = (g.S.Disk.state c.seal_tile.new.sums).seen in
    let grain = c.args.rule.grain in
    let anew = c.args.rule.anew in
    let b = c.args.tiles in
    let i = c.sealing.place in
    let t0 = c.args.tally.now in
    let t1 = c.sealing.tally in
    let t2 = c.note.new.self in
    let f = c.in-Ok.fate in
    let inv = c.sealing.invariant in
    let did = c.seal_tile.ensures in
    let noted = c.note.ensures.noted in
    let tile : c.nth_tile-tile.result ≡ nth_tile b i = c.nth_tile-tile.ensures in
    let this : HasSealed told sums_told grain anew first.seen (nth_tile b i ∷ []) mid new t1 t2 =
    one_sealed told sums_told grain anew first.seen (nth_tile b i) f mid new t1 t2 noted (λ x y.
    let same : before.seen ≡ first.seen = (inv.quiet x).reads in
    subst (λ (s : Content). AreSealed grain anew s (nth_tile b i ∷ []) (f ∷ []) mid new) same
    (subst (λ (d : DiskTile). AreSealed grain anew before.seen (d ∷ []) (f ∷ []) mid new) tile
    (c.in-Ok.ensures.sealed (subst IsTrue (sym inv.disk_told) x) (subst IsTrue (sym inv.told) y)))) in
    let more : first_tiles b (i + 1) ≡ first_tiles b i ++ nth_tile b i ∷ [] = map-range_with_len_more (nth_tile b) 0 i i (omega arith) in
    record {
      disk_told = did.disk_told ∙ inv.disk_told;
      quiet = λ is. changes_then Same Same Same first before after (λ x y same. same) (λ x y z one next. next ∙ one) (inv.quiet is) (did.quiet (subst IsTrue (sym inv.disk_told) is));
      disk_later = let a = inv.disk_later in let b = did.disk_later in omega (arith, a, b);
      told = did.told ∙ inv.told;
      later = let a = inv.later in let b = did.cause.later in omega (arith, a, b);
      sealed = subst (λ (l : List DiskTile). HasSealed told sums_told grain anew first.seen l old new t0 t2) (sym more)
          (then_sealed told sums_told grain anew first.seen (first_tiles b i) (nth_tile b i ∷ []) old mid new t0 t1 t2 (apart_next grain b i (let h = c.requires.grain in omega (arith, h)) c.requires.long) inv.sealed this);
      sum = c.note.ensures.sum;
      many = let e = tiles_more t1 t2 f noted in let m = inv.many in omega (arith, e, m);
      unread = faults_then t0.unread t1.unread t2.unread (g.D.Disk.faults c.args.disk.now) (g.D.Disk.faults c.sealing.disk) (g.D.Disk.faults c.seal_tile.new.disk) (g.S.Disk.faults c.args.sums.now) (g.S.Disk.faults c.sealing.sums) (g.S.Disk.faults c.seal_tile.new.sums) inv.unread
          (noted_with_fault t1 t2 f (g.D.Disk.faults c.sealing.disk) (g.D.Disk.faults c.seal_tile.new.disk) (g.S.Disk.faults c.sealing.sums) (g.S.Disk.faults c.seal_tile.new.sums) noted did.disk_later did.cause.later c.in-Ok.ensures.unread);
    }
