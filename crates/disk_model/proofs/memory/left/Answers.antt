use Rattle.std.proofs.Common.{◌≡◌, List, ℕ, subst}
use Rattle.disk_model.specs.Crash.{call_left}
use Rattle.disk_model.proofs.Crashed.{crashed_more}
use Rattle.disk_model.proofs.memory.left.Goals as goal

pub loop-call-preserved : goal.loop-call-preserved
loop-call-preserved c =
    let call = c.call-item.result in
    let left = subst (λ (seen : List ℕ). c.leave.new.image.items ≡ call_left c.args.pick call seen c.loop-call.image.items) c.deref-in-loop-call.ensures.value c.in_ok-leave.ensures in
    let more = crashed_more c.args.pick c.args.first.items c.args.calls.now c.loop-call.call-index call c.loop-call.seen.items c.redo.new.bytes.items c.loop-call.image.items c.leave.new.image.items c.loop-call-test.true c.call-item.is c.loop-call.invariant.read c.loop-call.invariant.image c.in_ok-redo.ensures.ok left in
    record { read = more.0; image = more.1 }
