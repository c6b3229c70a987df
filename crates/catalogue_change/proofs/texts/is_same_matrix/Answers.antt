use Rattle.std.proofs.Common.{sym, ◌∙◌}
use Rattle.catalogue_change.proofs.Comparing.{matrix_is, matrix_same}
use Rattle.catalogue_change.proofs.texts.is_same_matrix.Goals as goal

pub returns : goal.returns
returns c = (
  λ is. matrix_is c.args.new.now c.args.old.now (sym c.eq.ensures ∙ is),
  λ is. c.eq.ensures ∙ matrix_same c.args.new.now c.args.old.now is,
)
