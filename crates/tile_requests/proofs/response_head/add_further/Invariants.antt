use Rattle.std.proofs.Common.{◌≡◌, ◌+◌, ◌*◌, ◌≤◌, ◌++◌, codes, decimal, flat_map, take}
use Rattle.arrayvec.specs.ArrayVec.{array_vec_len}
use Rattle.tile_requests.proofs.response_head.add_further.Given as goal

-- the numbers before this one were added
abbrev pub invariant-loop-number : goal.invariant-loop-number
invariant-loop-number l = record {
  items : l.text.items ≡ l.fn.text.items ++ flat_map (λ k. codes "," ++ decimal k) (take l.number-index l.numbers);
  len : array_vec_len l.text ≤ array_vec_len l.fn.text + 21 * l.number-index;
}
