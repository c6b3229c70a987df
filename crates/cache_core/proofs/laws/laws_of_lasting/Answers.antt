use Rattle.cache_core.proofs.Lasting.{lasts_itself, lasts_on}
use Rattle.cache_core.proofs.laws.laws_of_lasting.Goals as goal

pub returns : goal.returns
returns g c = record {
  itself = lasts_itself g.C.Keeper.state g.C.Keeper.outlasts g.C.Keeper.outlasts_itself;
  on = lasts_on g.C.Keeper.state g.C.Keeper.outlasts g.C.Keeper.outlasts_on;
}
