use Rattle.std.proofs.Common.{arith}
use Rattle.config_text.proofs.Valid.{few_names}
use Rattle.config_text.proofs.dimensions.dimension_of.Goals as goal

pub default_of-requires : goal.default_of-requires
default_of-requires c =
    rw c.as_slice.ensures.value (omega (arith, few_names _ _ _ _ _ c.in_ok-values.ensures.met))
