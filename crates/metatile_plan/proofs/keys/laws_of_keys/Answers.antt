use Rattle.metatile_plan.proofs.Same.{same_meta_is, same_meta_self}
use Rattle.metatile_plan.proofs.keys.laws_of_keys.Goals as goal

pub returns : goal.returns
returns c = record { one = same_meta_is; itself = same_meta_self }
