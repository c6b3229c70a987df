-- The names in a catalogue: identifiers and the values of dimensions.
use Rattle.std.specs.Prelude.{ℕ, ◌&&◌, ◌||◌, ◌==◌, List, [], ◌∷◌, length, map, Bool, true, not, Option, nat_le, nat_lt, codes, position}
use Rattle.std.specs.List.{list_all, list_any}
use Rattle.std.specs.Char.{to_ascii_lowercase}
use Rattle.std.specs.Str.{bytes_eq}

abbrev pub within : ℕ → ℕ → ℕ → Bool
within low high n = nat_le low n && nat_le n high

-- letters, digits and _ - . :
abbrev pub is_name_byte : ℕ → Bool
is_name_byte b = within 48 57 b || within 65 90 b || within 97 122 b || b == 95 || b == 45 || b == 46 || b == 58

-- one or more such bytes
unfoldable pub is_name : List ℕ → Bool
is_name text = nat_lt 0 (length text) && list_all is_name_byte text

-- at most 64 bytes
abbrev pub is_short : List ℕ → Bool
is_short text = nat_le (length text) 64

-- one of the entries has this name
abbrev pub is_taken : {A : Type 0} → (A → List ℕ) → List A → List ℕ → Bool
is_taken name entries text = list_any (λ x. bytes_eq (name x) text) entries

-- the first place whose entry has this name
abbrev pub place_named : {A : Type 0} → (A → List ℕ) → List A → List ℕ → Option ℕ
place_named name entries text = position (λ x. bytes_eq (name x) text) entries

-- no text stands twice
abbrev pub are_distinct : List (List ℕ) → Bool
are_distinct [] = true
are_distinct (text ∷ texts) = not (list_any (λ t. bytes_eq t text) texts) && are_distinct texts

-- the same but for the case of ASCII letters
abbrev pub is_same : List ℕ → List ℕ → Bool
is_same a b = bytes_eq (map to_ascii_lowercase a) (map to_ascii_lowercase b)

-- the parameters of a GetTile query (OGC 07-057r7, section 7.2.2), in small letters
abbrev pub parameters : List (List ℕ)
parameters =
    codes "service" ∷ codes "request" ∷ codes "version" ∷ codes "layer" ∷ codes "style" ∷ codes "format" ∷
    codes "tilematrixset" ∷ codes "tilematrix" ∷ codes "tilerow" ∷ codes "tilecol" ∷ []

-- a dimension of this name could not be told from a parameter
unfoldable pub is_parameter : List ℕ → Bool
is_parameter text = list_any (λ p. is_same p text) parameters
