use Rattle.std.proofs.Common.{◌≡◌, take}
use Rattle.disk_model.specs.Crash.{crashed}
use Rattle.disk_model.specs.Replay.{seen_after}
use Rattle.disk_model.proofs.memory.left.Given as goal

abbrev pub invariant-loop-call : goal.invariant-loop-call
invariant-loop-call l = record {
  read : l.seen.items ≡ seen_after (take l.call-index l.calls) l.fn.first.items;
  image : l.image.items ≡ crashed l.pick (take l.call-index l.calls) l.fn.first.items l.fn.first.items;
}
