use Rattle.std.proofs.Common.{◌+◌, sym, subst}
use Rattle.expiry_policy.specs.Layers.{AreBare}
use Rattle.expiry_policy.proofs.AllLayers.{bare_more}
use Rattle.expiry_policy.proofs.layers.no_uses.Goals as goal

pub making-preserved : goal.making-preserved
making-preserved c =
    subst (AreBare c.args.policy (c.making.number + 1)) (sym c.in_ok-push.ensures.items) (bare_more c.args.policy c.making.number c.making.made.items c.new.result c.making.invariant c.new.ensures)
