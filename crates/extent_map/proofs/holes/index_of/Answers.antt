use Rattle.std.proofs.Common.{◌≡◌, ◌<◌, get_or, length}
use Rattle.extent_map.proofs.Claims.{is_index}
use Rattle.extent_map.proofs.holes.index_of.Goals as goal

index_is : (c : goal.After-starts_before) → (c.starts_before.result < length c.args.parts.now) × (get_or c.args.parts.now c.starts_before.result c.args.part ≡ c.args.part)
index_is c = is_index c.args.parts.now c.starts_before.result c.args.part c.requires.rising c.starts_before.ensures.within c.starts_before.ensures.before c.starts_before.ensures.behind c.requires.known

pub returns-clause-within : goal.returns-clause-within
returns-clause-within c = (index_is c).0

pub returns-clause-at : goal.returns-clause-at
returns-clause-at c = (index_is c).1
