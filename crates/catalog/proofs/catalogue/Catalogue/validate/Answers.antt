use Rattle.catalog.proofs.Validity.{valid_on_ok}
use Rattle.catalog.proofs.catalogue.Catalogue.validate.Goals as goal

pub returns-clause-valid : goal.returns-clause-valid
returns-clause-valid c = valid_on_ok _ _ c.first_fault.ensures
