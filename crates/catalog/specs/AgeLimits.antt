-- How old a kept metatile of a layer may be at a zoom.
use Rattle.std.specs.Prelude.{ℕ, ◌==◌, List, [], ◌∷◌, Option, Some, None, nat_le, if◌then◌else◌}
use Rattle.std.specs.Option.{option_or}
use Rattle.catalog.specs.declared.layer.Age.{Age}
use Rattle.catalog.specs.declared.layer.Layer.{Layer}

-- the last entry whose zoom is at most z
abbrev pub last_at : ℕ → List Age → Option Age
last_at z [] = None
last_at z (age ∷ ages) = option_or (last_at z ages) (if nat_le age.zoom z then Some age else None)

-- no seconds are no limit
abbrev pub limit_of : Option Age → Option ℕ
limit_of None = None
limit_of (Some age) = if age.seconds == 0 then None else Some age.seconds

-- the limit in seconds that counts at z
abbrev pub age_limit : Layer → ℕ → Option ℕ
age_limit l z = limit_of (last_at z l.ages)
