use Rattle.std.proofs.Common.{◌≡◌, ◌++◌, map, drop}
use Rattle.wmts_rest.specs.Paths.{text_of}
use Rattle.wmts_rest.proofs.segments.texts_of.Given as goal

-- the texts so far and those of the segments that are left
abbrev pub invariant-loop-segment : goal.invariant-loop-segment
invariant-loop-segment l =
    l.texts.items ++ map text_of (map (λ s. s.now) (drop l.segment-index l.segments)) ≡ map text_of (map (λ s. s.now) l.segments)
