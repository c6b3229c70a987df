use Rattle.truncation_list.proofs.Indexing.{empty_index}
use Rattle.truncation_list.proofs.index.Index.new.Goals as goal

pub returns : goal.returns
returns c = empty_index c.new.result.items c.new.ensures.items
