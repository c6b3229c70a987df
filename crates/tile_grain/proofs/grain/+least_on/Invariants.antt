use Rattle.std.proofs.Common.{length}
use Rattle.tile_grain.proofs.grain.+least_on.Given as goal

abbrev pub decreases-least_on : goal.decreases-least_on
decreases-least_on l = length l.matrices.now
