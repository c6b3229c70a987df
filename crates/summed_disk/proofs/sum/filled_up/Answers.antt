use Rattle.summed_disk.proofs.Words.{filled_each}
use Rattle.summed_disk.proofs.sum.filled_up.Goals as goal

pub returns : goal.returns
returns c k = filled_each c.args.rest.now c.copy_from_slice.new.self 32 k c.copy_from_slice.ensures.after
