use Rattle.std.proofs.Common.{subst}
use Rattle.config_text.specs.Reading.{Gives}
use Rattle.config_text.proofs.LayerParts.{layer_by_parts}
use Rattle.config_text.proofs.layers.layer_of.Goals as goal

pub returns-clause-gives : goal.returns-clause-gives
returns-clause-gives c = subst (Gives (λ l. l) c.layer_in.result) (layer_by_parts _ _ _) c.layer_in.ensures.gives
