use Rattle.std.proofs.Common.{◌≡◌, ◌-◌, ◌≤◌, length, take}
use Rattle.std.specs.Io.KnownBytes.{Consumes}
use Rattle.cut_follower.proofs.packets.take_packet.Given as goal

abbrev pub invariant-taking : goal.invariant-taking
invariant-taking g l = record {
  fits : l.at ≤ 64;
  size : length l.bytes ≡ 64;
  read : Consumes (g.L.ByteSource.left l.initial.link) (g.L.ByteSource.left l.link) (take l.at l.bytes);
  same_taken : g.L.ByteSink.taken l.link ≡ g.L.ByteSink.taken l.initial.link;
  same_faults : g.L.ByteSink.faults l.link ≡ g.L.ByteSink.faults l.initial.link;
  later : g.L.ByteSource.faults l.initial.link ≤ g.L.ByteSource.faults l.link;
}

abbrev pub decreases-taking : goal.decreases-taking
decreases-taking g l = 64 - l.at
