use Rattle.std.proofs.Common.{◌≡◌, ◌+◌, ◌==◌, not, drop}
use Rattle.std.specs.List.{prefix_len}
use Rattle.tile_requests.proofs.routes.path_len.Given as goal

abbrev pub invariant-loop-byte : goal.invariant-loop-byte
invariant-loop-byte l = record {
  count : l.count ≡ l.byte-index;
  rest : l.count + prefix_len (λ b. not (b == 63)) (drop l.byte-index l.target) ≡ prefix_len (λ b. not (b == 63)) l.target;
}
