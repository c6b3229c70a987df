-- what contracts see of a fraction and of a decimal
use Rattle.std.specs.Prelude.{ℕ, ℤ}

-- the fraction n / d
pub record Fraction : Type 0 where
  pub n : ℤ
  pub d : ℤ

-- units / 10^places
pub record Scaled : Type 0 where
  pub units : ℤ
  pub places : ℕ
