use Rattle.std.proofs.Common.{◌≡◌}
use Rattle.serde_json.specs.View.{members_view}
use Rattle.layer_recipes.specs.Dimensions.{are_values}
use Rattle.layer_recipes.proofs.names.are_values.Given as goal

-- the members that are left say the same as all of them
abbrev pub invariant-loop-name : goal.invariant-loop-name
invariant-loop-name l = are_values l.dims (members_view l.name-iterator) ≡ are_values l.dims (members_view l.members.entries)
