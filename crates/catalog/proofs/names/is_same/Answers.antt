use Rattle.catalog.proofs.Comparisons.{same_is}
use Rattle.catalog.proofs.names.is_same.Goals as goal

pub returns : goal.returns
returns c = same_is _ _ _ c.eq_ignore_ascii_case.ensures.test
