use Rattle.std.proofs.Common.{◌+◌, arith}
use Rattle.extent_map.specs.Holes.{first_start}
use Rattle.extent_map.proofs.Passed.{none_more_bytes}
use Rattle.extent_map.proofs.chunk.Chunk.gap.Goals as goal

pub returns-then-self-from-clause-none : goal.returns-then-self-from-clause-none
returns-then-self-from-clause-none c =
    let told = c.from.ensures in let narrow = c.if-self-from.true in
    rw (← c.self.view_is) (none_more_bytes (c.self.inside.summary.widest + 1) c.args.bytes (first_start c.self.inside.parts.items 0) c.self.inside.parts.items (omega arith) c.self.invariant.2.bounded)
