use Rattle.std.proofs.lemmas.Slice.Zip.{either_empty_from_Zip}
use Rattle.wmts_rest.proofs.Pairs.{pairs_done}
use Rattle.wmts_rest.proofs.spelling.pairs_under.Goals as goal

pub returns : goal.returns
returns c = pairs_done _ _ _ _ (either_empty_from_Zip c.loop-name.name-iterator c.next.new.self c.next.result c.in-None.is c.next.ensures.steps) c.loop-name.invariant
