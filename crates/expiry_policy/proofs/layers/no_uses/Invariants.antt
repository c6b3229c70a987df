use Rattle.expiry_policy.specs.Layers.{AreBare}
use Rattle.expiry_policy.proofs.layers.no_uses.Given as goal

abbrev pub invariant-making : goal.invariant-making
invariant-making l = AreBare l.policy l.number l.made.items
