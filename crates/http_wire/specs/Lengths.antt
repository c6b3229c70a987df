-- A length that was read, on the way through the fields.
use Rattle.std.specs.Prelude.{◌≡◌, ℕ, List, [], ◌∷◌, Option, Some, None, true, false}
use Rattle.std.specs.Str.Parse.{digits_value}
use Rattle.http_wire.specs.Fields.{is_length}

-- the text is a length of this worth, or none
abbrev pub IsLengthOf : List ℕ → Option ℕ → Type 0
IsLengthOf text None = is_length text ≡ false
IsLengthOf text (Some n) = (is_length text ≡ true) × (n ≡ digits_value 10 text)

-- what the values so far say: none stands, or one that is a length
abbrev pub SaysSoFar : List (List ℕ) → Option ℕ → Type 0
SaysSoFar texts None = texts ≡ []
SaysSoFar texts (Some n) = (text : List ℕ) × (texts ≡ text ∷ []) × (is_length text ≡ true) × (n ≡ digits_value 10 text)
