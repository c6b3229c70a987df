use Rattle.std.proofs.Common.{◌∙◌}
use Rattle.expiry_policy.proofs.Together.{bare_among, found_among}
use Rattle.expiry_policy.proofs.uses.Uses.new.Goals as goal

pub returns-clause-uses : goal.returns-clause-uses
returns-clause-uses c = λ m.
    let layers = c.in_ok-no_uses.field-0.items in
    found_among layers m ∙ bare_among c.args.policy c.args.layers layers c.in_ok-no_uses.ensures m
