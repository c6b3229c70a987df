use Rattle.expiry_policy.specs.Layers.{use_among}
use Rattle.expiry_policy.specs.Orders.{IsFirst}
use Rattle.expiry_policy.proofs.FirstOfAll.{is_below}
use Rattle.expiry_policy.proofs.leading.first_of_all.Given as goal

abbrev pub invariant-looking : goal.invariant-looking
invariant-looking l = IsFirst l.order (is_below l.layer-index) (use_among l.layers) l.first
