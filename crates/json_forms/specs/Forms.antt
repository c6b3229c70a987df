-- Forms of a JSON text and of its values (RFC 8259).
use Rattle.std.specs.Prelude.{ℕ, List, [], ◌∷◌, Option, None, option_and_then, option_map, if◌then◌else◌}
use Rattle.std.specs.Str.{is_utf8}
use Rattle.serde_json.specs.Data.{Data, Items, no_items, item}
use Rattle.serde_json.specs.Read.{read}
use Rattle.serde_json.specs.Find.{as_number, as_u64, as_array, as_object}

-- the value, where it is an object
abbrev pub if_object : Data → Option Data
if_object d = option_map (λ members. d) (as_object d)

-- the value of a text that is one JSON object
unfoldable pub object_of : List ℕ → Option Data
object_of text = if is_utf8 text then option_and_then if_object (read text) else None

-- a number without a sign, a fraction or an exponent, below 2^64
abbrev pub number_of : Data → Option ℕ
number_of d = option_and_then as_u64 (as_number d)

abbrev pub list_of : Items → List Data
list_of no_items = []
list_of (item d ds) = d ∷ list_of ds

-- the values of a list
abbrev pub values_of : Data → Option (List Data)
values_of d = option_map list_of (as_array d)
