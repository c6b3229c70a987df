use Rattle.config_text.proofs.Valid.{catalogue_met}
use Rattle.config_text.proofs.read.catalogue_in.Goals as goal

pub returns-clause-met : goal.returns-clause-met
returns-clause-met c =
    rw (c.of.ensures, c.of-2.ensures)
    (catalogue_met
    _
    c.in_ok-settings.ensures.kept
    c.in_ok-settings.ensures.cut
    c.in_ok-settings.ensures.blob
    c.in_ok-settings.ensures.quota
    c.in_ok-grids.ensures.within
    c.in_ok-grids.ensures.met
    c.in_ok-layers.ensures.within
    (rw c.as_slice.ensures.value at c.in_ok-layers.ensures.met))
