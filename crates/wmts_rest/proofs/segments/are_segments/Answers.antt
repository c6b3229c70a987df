use Rattle.std.proofs.Common.{refl, arith}
use Rattle.wmts_rest.proofs.Pairs.{segments_test}
use Rattle.wmts_rest.proofs.segments.are_segments.Goals as goal

pub returns-in-6-to-10 : goal.returns-in-6-to-10
returns-in-6-to-10 c = segments_test c.args.segments.now _ c.are_filled.result (omega arith) (omega arith) refl c.are_filled.ensures
