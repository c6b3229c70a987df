use Rattle.metatile_plan.proofs.Sides.{col_of_block, row_of_block}
use Rattle.metatile_plan.proofs.laws.laws_of_blocks.Goals as goal

pub returns-clause-row : goal.returns-clause-row
returns-clause-row c = row_of_block

pub returns-clause-col : goal.returns-clause-col
returns-clause-col c = col_of_block
