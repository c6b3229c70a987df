use Rattle.std.proofs.Common.{◌≡◌, ◌-◌, length}
use Rattle.cut_follower.proofs.Exchanging.{SoFar}
use Rattle.cut_follower.specs.Links.{LinkAt}
use Rattle.cut_follower.proofs.leading.lead_link.Given as goal

abbrev pub invariant-leading : goal.invariant-leading
invariant-leading g l =
    let start : LinkAt = record { left = g.L.ByteSource.left l.initial.link; read_faults = g.L.ByteSource.faults l.initial.link; taken = g.L.ByteSink.taken l.initial.link; write_faults = g.L.ByteSink.faults l.initial.link } in
    let now : LinkAt = record { left = g.L.ByteSource.left l.link; read_faults = g.L.ByteSource.faults l.link; taken = g.L.ByteSink.taken l.link; write_faults = g.L.ByteSink.faults l.link } in
    record {
      so_far : SoFar start now l.initial.outbox.out l.outbox.out;
      catalogue : l.outbox.catalogue ≡ l.initial.outbox.catalogue;
      file : l.outbox.file ≡ l.initial.outbox.file;
    }

abbrev pub decreases-leading : goal.decreases-leading
decreases-leading g l = length l.outbox.out.posts - l.outbox.out.heard
