use Rattle.carry_over.proofs.Begun.{begins}
use Rattle.carry_over.proofs.laws.laws_of_carries.Goals as goal

pub returns : goal.returns
returns c = record { opens = begins }
