-- What the fields of a head say (RFC 9110, section 5, and RFC 9112, section 6).
-- A field is a pair of a name and of a value without the white space around it. Names have no case.
use Rattle.std.specs.Prelude.{ℕ, List, [], ◌∷◌, length, Bool, ◌&&◌, nat_lt, Option, Some, None, if◌then◌else◌, codes}
use Rattle.std.specs.Char.{is_ascii_digit}
use Rattle.std.specs.Str.{str_eq_ignore_ascii_case}
use Rattle.std.specs.Str.Parse.{digits_value}
use Rattle.std.specs.List.{list_all, list_any}

-- the field has that name
abbrev pub is_named : List ℕ → List ℕ × List ℕ → Bool
is_named name field = str_eq_ignore_ascii_case field.0 name

-- there is a field of that name
abbrev pub has_named : List ℕ → List (List ℕ × List ℕ) → Bool
has_named name fields = list_any (is_named name) fields

-- the values under that name, in their order
abbrev pub values : List ℕ → List (List ℕ × List ℕ) → List (List ℕ)
values name [] = []
values name (field ∷ fields) = if is_named name field then field.1 ∷ values name fields else values name fields

-- the text is 1 to 18 digits
abbrev pub is_length : List ℕ → Bool
is_length text = nat_lt 0 (length text) && nat_lt (length text) 19 && list_all is_ascii_digit text

-- How long the body is, by the values of Content-Length: empty without one; a second one, or one that is no length, says nothing.
abbrev pub said_length : List (List ℕ) → Option ℕ
said_length [] = Some 0
said_length (text ∷ []) = if is_length text then Some (digits_value 10 text) else None
said_length (text ∷ other ∷ more) = None

abbrev pub content_length : List ℕ
content_length = codes "content-length"

abbrev pub transfer_encoding : List ℕ
transfer_encoding = codes "transfer-encoding"

-- a Connection field whose whole value is close, without regard to case
abbrev pub says_close : List ℕ × List ℕ → Bool
says_close field = is_named (codes "connection") field && str_eq_ignore_ascii_case field.1 (codes "close")
