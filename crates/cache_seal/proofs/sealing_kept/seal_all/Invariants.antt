use Rattle.std.proofs.Common.{◌≡◌, ◌*◌, ◌≤◌, IsTrue, length, take}
use Rattle.disk_model.specs.Content.{Same}
use Rattle.disk_model.specs.Images.{ChangesBy}
use Rattle.cache_seal.specs.Fates.{AddsUp, no_tally}
use Rattle.cache_seal.specs.OfCache.{kept_tiles}
use Rattle.cache_seal.specs.Seals.{HasSealed}
use Rattle.cache_seal.specs.Unread.{HaveFaults}
use Rattle.cache_seal.proofs.sealing_kept.seal_all.Given as goal

abbrev pub invariant-sealing : goal.invariant-sealing
invariant-sealing g l = record {
  disk_told : g.D.Disk.told l.disk ≡ g.D.Disk.told l.fn.disk;
  quiet : IsTrue (g.D.Disk.told l.fn.disk) → ChangesBy Same (g.D.Disk.state l.fn.disk) (g.D.Disk.state l.disk);
  disk_later : g.D.Disk.faults l.fn.disk ≤ g.D.Disk.faults l.disk;
  told : g.S.Disk.told l.sums ≡ g.S.Disk.told l.fn.sums;
  later : g.S.Disk.faults l.fn.sums ≤ g.S.Disk.faults l.sums;
  sealed : HasSealed (g.D.Disk.told l.fn.disk) (g.S.Disk.told l.fn.sums) l.rule.grain l.rule.anew (g.D.Disk.state l.fn.disk).seen (kept_tiles l.start l.catalogue (take l.at l.kept)) (g.S.Disk.state l.fn.sums).seen (g.S.Disk.state l.sums).seen no_tally l.tally;
  sum : AddsUp l.tally;
  many : l.tally.tiles ≡ length (kept_tiles l.start l.catalogue (take l.at l.kept));
  few : l.tally.tiles ≤ l.at * 4294967296;
  unread : HaveFaults 0 l.tally.unread (g.D.Disk.faults l.fn.disk) (g.D.Disk.faults l.disk) (g.S.Disk.faults l.fn.sums) (g.S.Disk.faults l.sums);
}
