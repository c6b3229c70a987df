use Rattle.std.proofs.Common.{◌∙◌}
use Rattle.config_text.proofs.NamedMatrices.{grid_met}
use Rattle.config_text.proofs.grids.grid_of.Goals as goal

pub returns-clause-met : goal.returns-clause-met
returns-clause-met c =
    grid_met
    c.args.before.now
    c.in_ok-id.id
    c.in_ok-matrices.matrices.items
    c.of.result
    c.of-2.result
    c.in_ok-id.ensures.met
    (rw c.in_ok-matrices.ensures.count c.in_ok-values.ensures.within)
    c.in_ok-matrices.ensures.met
    (c.of.ensures ∙ c.in_ok-names.ensures.names)
    (c.of-2.ensures ∙ c.in_ok-names.ensures.matrices)
