use Rattle.http_answer.proofs.Moving.{nothing_moved, moved}
use Rattle.http_answer.proofs.unchunking.unchunk_slice.Goals as goal

pub chunks-init : goal.chunks-init
chunks-init c = nothing_moved c.args.bytes.now c.args.from c.requires

pub chunks-preserved : goal.chunks-preserved
chunks-preserved c = moved c.args.bytes.now c.chunks.bytes _ c.args.from c.chunks.to c.chunks.at c.in-Data.start c.in-Data.end c.chunks.invariant c.in-Data.ensures c.copy_within.ensures.after
