-- Where a mistake can be.
use Rattle.std.specs.Prelude.{ℕ, Bool, true, false, not, if◌then◌else◌, is_some, List, codes}
use Rattle.catalog.specs.declared.fault.Field.{Field}
use Rattle.catalog.specs.declared.fault.Field.TheVariants as field
use Rattle.serde_json.specs.Data.{Data}
use Rattle.serde_json.specs.Find.{get}
use Rattle.fault_paths.specs.Fields.{name_of}
use Rattle.fault_paths.specs.declared.fitting.Mistake.{Mistake}
use Rattle.fault_paths.specs.declared.fitting.Mistake.TheVariants as mistake

-- the object has a member of this name
abbrev pub has : List ℕ → Data → Bool
has name holder = is_some (get name holder)

-- a matrix needs no scale where it has a span
abbrev pub is_needed : Field → Data → Bool
is_needed field.Scale holder = not (has (codes "span") holder)
is_needed f holder = true

-- where it is absent, something else stands for it: the corner of the grid, or the factors that every layer has
abbrev pub has_default : Field → Bool
has_default field.MatrixCorner = true
has_default field.Meta = true
has_default f = false

-- the member of a field can have this mistake in this object: one that is there isn't missing, and one that isn't there is nothing else
abbrev pub can_be : Mistake → Field → Data → Bool
can_be mistake.Absence f holder = if has (name_of f) holder then false else is_needed f holder
can_be mistake.Excess f holder = if has (name_of f) holder then true else has_default f
can_be mistake.Other f holder = has (name_of f) holder
