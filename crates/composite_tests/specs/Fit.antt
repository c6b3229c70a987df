-- What the tests' calls need of a hall and a pass.
use Rattle.std.specs.Prelude.{◌≡◌, false}
use Rattle.catalog.specs.declared.catalogue.Catalogue.{Catalogue}
use Rattle.catalog.specs.Valid.{IsValid}
use Rattle.turnstile.specs.Passes.{Identity}
use Rattle.cache_hall.specs.Turned.{HallPass, IsPassOf}

-- the pass is one of the hall, whose catalogue is valid, and isn't told to be sound
pub record IsFit (turnstile : Identity) (c : Catalogue) (pass : HallPass) : Type 0 where
  pub of : IsPassOf turnstile.table c pass
  pub untold : pass.told ≡ false
  pub valid : IsValid c
