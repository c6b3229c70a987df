use Rattle.std.proofs.Common.{◌+◌, ◌<◌, rules, arith, get_or}
use Rattle.extent_map.proofs.Order.{end_within}
use Rattle.extent_map.proofs.Passed.{passed_more, passed_more_bytes}
use Rattle.extent_map.proofs.gaps.summary_of.Goals as goal

pub overflow_add-end : goal.overflow_add-end
overflow_add-end c =
    let size = c.ranges.size.fits in
    let within = end_within 0 c.args.parts.now c.args.size c.requires.ordered c.loop-index.index (record { place = 0; length = 0 }) c.loop-index-test.true in
    search rules

pub loop-index-preserved : goal.loop-index-preserved
loop-index-preserved c =
    let wide = c.larger-widest.ensures.one in let hole = c.larger-widest.ensures.other in let told = c.saturating_sub.ensures in
    let tight : (get_or c.args.parts.now c.loop-index.index (record { place = 0; length = 0 })).place < c.loop-index.end + (c.larger-widest.result + 1) = omega arith in
    rw c.from.ensures (
      c.loop-index.invariant.0,
      passed_more c.args.parts.now (c.larger-widest.result + 1) c.loop-index.index c.loop-index.end (record { place = 0; length = 0 }) c.loop-index-test.true
          (passed_more_bytes c.args.parts.now (c.loop-index.widest + 1) (c.larger-widest.result + 1) c.loop-index.index c.loop-index.end (omega arith) c.loop-index.invariant.1) tight,
    )
