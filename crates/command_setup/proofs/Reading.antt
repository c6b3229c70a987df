-- What a fault that was told says of the reading.
use Rattle.std.proofs.Common.{◌≡◌, Result, Err, refl}
use Rattle.catalog.specs.declared.catalogue.Catalogue.{Catalogue}
use Rattle.catalog.specs.declared.fault.CatalogueFault.{CatalogueFault}
use Rattle.catalog.specs.declared.fault.CatalogueFault.TheVariants as variant
use Rattle.config_text.specs.Reading.{Fails}

pub told : (fault : CatalogueFault) (reading : Result Catalogue CatalogueFault) → (fault ≡ variant.OutOfMemory → ⊥) → Fails fault reading → reading ≡ Err fault
told variant.NotJson reading other fails = fails
told (variant.Missing field at) reading other fails = fails
told (variant.Bad field at) reading other fails = fails
told (variant.Duplicate field at) reading other fails = fails
told (variant.Limit field at) reading other fails = fails
told variant.OutOfMemory reading other fails = absurd (other refl)
