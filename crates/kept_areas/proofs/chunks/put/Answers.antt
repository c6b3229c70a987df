use Rattle.std.proofs.Common.{List, subst}
use Rattle.kept_areas.specs.declared.spot.KeptSpot.{KeptSpot}
use Rattle.kept_areas.specs.Kept.{IsEntered}
use Rattle.kept_areas.proofs.InChunks.{entered_in}
use Rattle.kept_areas.proofs.Used.{used_set}
use Rattle.kept_areas.proofs.chunks.put.Goals as goal

pub returns-clause-entered : goal.returns-clause-entered
returns-clause-entered c =
    entered_in c.args.spot.now c.args.chunks.now.items c.args.chunk c.index_mut.result.now c.enter.new.self c.requires.known
    (subst (λ (zs : List KeptSpot). IsEntered c.args.spot.now zs c.enter.new.self) c.index_mut.ensures.value c.enter.ensures)

pub returns-clause-first : goal.returns-clause-first
returns-clause-first c = λ used l u. used_set c.args.chunks.now.items used c.args.chunk c.enter.new.self l u
