use Rattle.std.proofs.Common.{◌≡◌, ◌++◌, take}
use Rattle.window_request.specs.Requests.{encoded}
use Rattle.window_request.proofs.request.push_value.Given as goal

abbrev pub invariant-loop-byte : goal.invariant-loop-byte
invariant-loop-byte l = l.text.items ≡ l.fn.text.items ++ encoded (take l.byte-index l.value)
