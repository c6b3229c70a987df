use Rattle.std.proofs.Common.{◌≡◌, nat_lt, length, map, drop}
use Rattle.std.specs.List.{list_all}
use Rattle.wmts_rest.proofs.segments.are_filled.Given as goal

-- the segments so far are filled
abbrev pub invariant-loop-segment : goal.invariant-loop-segment
invariant-loop-segment l =
    list_all (λ s. nat_lt 0 (length s)) (map (λ s. s.now) (drop l.segment-index l.segments)) ≡ list_all (λ s. nat_lt 0 (length s)) (map (λ s. s.now) l.segments)
