-- When a read fault may be answered.
use Rattle.std.specs.Prelude.{ℕ, ◌≡◌, ◌≤◌, Result, Err}
use Rattle.base.specs.Causes.{Rose}
use Rattle.http_wire.specs.declared.message.WireFault.{WireFault}
use Rattle.http_wire.specs.declared.message.WireFault.TheVariants.{ReadFault}

-- the count never falls, and a read fault is answered only where it rose
pub record HasReadCause {T : Type 0} (before now : ℕ) (result : Result T WireFault) : Type 0 where
  pub later : before ≤ now
  pub fault : result ≡ Err ReadFault → Rose before now
