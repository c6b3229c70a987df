use Rattle.std.proofs.Common.{sym, ◌∙◌}
use Rattle.catalog.proofs.Passing.{holds}
use Rattle.config_text.proofs.Valid.{layer_met}
use Rattle.config_text.proofs.layers.layer_in.Goals as goal

pub returns-clause-met : goal.returns-clause-met
returns-clause-met c =
    rw (c.of.ensures, c.of-2.ensures, c.of-3.ensures, c.of-4.ensures)
    (layer_met
    c.args.grids.now
    c.args.before.now
    _
    c.in_ok-id.ensures.met
    c.in_ok-numbers.ensures.within
    c.in_ok-numbers.ensures.met
    c.in_ok-styles.ensures.within
    c.in_ok-styles.ensures.met
    c.in_ok-dims.ensures.within
    c.in_ok-dims.ensures.met
    c.in_ok-measures.ensures.meta
    c.in_ok-measures.ensures.gutter
    c.in_ok-measures.ensures.cell
    c.in_ok-measures.ensures.quota
    c.in_ok-ages.ensures.few
    c.in_ok-ages.ensures.rise
    (rw (c.as_slice.ensures.value) at (sym c.are_small.ensures ∙ holds _ _ (sym c.in_ok-unless.ensures))))
