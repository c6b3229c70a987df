use Rattle.std.proofs.Common.{◌≡◌, ◌≤◌}
use Rattle.cache_core.specs.Lasting.{Lasting}
use Rattle.change_feed.specs.Applies.{Pair}
use Rattle.gate_journal.specs.Sound.{digest_of}
use Rattle.cut_follower.proofs.Arriving.{SoFar}
use Rattle.cut_follower.specs.Links.{LinkAt}
use Rattle.cut_follower.proofs.following.follow_link.Given as goal

abbrev pub invariant-following : goal.invariant-following
invariant-following g l =
    let first : LinkAt = record { left = g.L.ByteSource.left l.initial.link; read_faults = g.L.ByteSource.faults l.initial.link; taken = g.L.ByteSink.taken l.initial.link; write_faults = g.L.ByteSink.faults l.initial.link } in
    let here : LinkAt = record { left = g.L.ByteSource.left l.link; read_faults = g.L.ByteSource.faults l.link; taken = g.L.ByteSink.taken l.link; write_faults = g.L.ByteSink.faults l.link } in
    let start : Pair = record { stand = l.initial.feed.stand; faults = g.M.Disk.faults l.initial.feed.file.disk; cabinet = g.K.Keeper.state l.initial.cabinet; cabinet_faults = g.K.Keeper.faults l.initial.cabinet } in
    let now : Pair = record { stand = l.feed.stand; faults = g.M.Disk.faults l.feed.file.disk; cabinet = g.K.Keeper.state l.cabinet; cabinet_faults = g.K.Keeper.faults l.cabinet } in
    record {
      so_far : SoFar (g.M.Disk.told l.initial.feed.file.disk) (digest_of l.initial.feed.file.journal) (g.M.Disk.state l.initial.feed.file.disk) (g.M.Disk.state l.feed.file.disk) first here start now l.told;
      told : g.M.Disk.told l.feed.file.disk ≡ g.M.Disk.told l.initial.feed.file.disk;
      digest : digest_of l.feed.file.journal ≡ digest_of l.initial.feed.file.journal;
      lasts : Lasting (g.K.Keeper.outlasts l.initial.cabinet l.cabinet) (g.K.Keeper.state l.initial.cabinet) (g.K.Keeper.state l.cabinet);
      later : g.M.Disk.faults l.initial.feed.file.disk ≤ g.M.Disk.faults l.feed.file.disk;
      cabinet_later : g.K.Keeper.faults l.initial.cabinet ≤ g.K.Keeper.faults l.cabinet;
    }
