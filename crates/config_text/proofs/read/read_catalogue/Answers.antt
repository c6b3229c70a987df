use Rattle.std.proofs.Common.{◌≡◌, Result, Ok, Err, IfOk}
use Rattle.catalog.specs.declared.catalogue.Catalogue.{Catalogue}
use Rattle.catalog.specs.declared.fault.CatalogueFault.{CatalogueFault}
use Rattle.catalog.specs.FirstFault.{first_fault}
use Rattle.catalog.specs.Valid.{IsValid}
use Rattle.catalog.proofs.Validity.{valid_met}
use Rattle.config_text.proofs.read.read_catalogue.Goals as goal

valid_of : (read : Result Catalogue CatalogueFault) → IfOk read (λ c. first_fault c ≡ Ok tt) → IfOk read (λ c. IsValid c)
valid_of (Ok c) met = valid_met c met
valid_of (Err e) met = tt

pub returns-clause-valid : goal.returns-clause-valid
returns-clause-valid c = valid_of c.catalogue_of.result c.catalogue_of.ensures.met
