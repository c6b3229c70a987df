-- Exact fractions, whose denominators are positive, and the floor of one. No result is brought to lowest terms.
use Rattle.std.specs.Prelude.{ℤ, ◌+ℤ◌, ◌-ℤ◌, ◌*ℤ◌, ◌≤ℤ◌, ◌<ℤ◌, pos}
use Rattle.std.specs.Int.{int_div_euclid}
use Rattle.exact_ratio.specs.Values.{Fraction}
use Rattle.exact_ratio.specs.Lowest.{lowest}

abbrev pub whole : ℤ → Fraction
whole n = record { n = n; d = pos 1 }

infixl 6 ◌+ℚ◌
abbrev pub ◌+ℚ◌ : Fraction → Fraction → Fraction
f +ℚ g = record { n = (f.n *ℤ g.d) +ℤ (g.n *ℤ f.d); d = f.d *ℤ g.d }

infixl 6 ◌-ℚ◌
abbrev pub ◌-ℚ◌ : Fraction → Fraction → Fraction
f -ℚ g = record { n = (f.n *ℤ g.d) -ℤ (g.n *ℤ f.d); d = f.d *ℤ g.d }

infixl 7 ◌*ℚ◌
abbrev pub ◌*ℚ◌ : Fraction → Fraction → Fraction
f *ℚ g = record { n = f.n *ℤ g.n; d = f.d *ℤ g.d }

-- by a positive fraction
infixl 7 ◌/ℚ◌
abbrev pub ◌/ℚ◌ : Fraction → Fraction → Fraction
f /ℚ g = record { n = f.n *ℤ g.d; d = f.d *ℤ g.n }

-- the greatest whole number at or below the fraction
abbrev pub floor_of : Fraction → ℤ
floor_of f = int_div_euclid f.n f.d

-- q is the greatest whole number at or below n / d
pub record IsFloor (n d q : ℤ) : Type 0 where
  pub at_most : (d *ℤ q) ≤ℤ n
  pub next_above : n <ℤ (d *ℤ (q +ℤ pos 1))

-- the same fraction in lowest terms
abbrev pub lowest_terms : Fraction → Fraction
lowest_terms f = lowest f.n f.d
