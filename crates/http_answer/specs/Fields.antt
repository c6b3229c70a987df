-- What the fields of a head say of the body's end (RFC 9110, section 5, and RFC 9112, section 6).
-- A field is a pair of a name and of a value without the white space around it. Names have no case.
use Rattle.std.specs.Prelude.{ℕ, ◌≡◌, ◌==◌, List, [], ◌∷◌, length, Bool, true, false, ◌&&◌, nat_lt, Option, Some, None, Result, Ok, Err, if◌then◌else◌, codes}
use Rattle.std.specs.Char.{is_ascii_digit}
use Rattle.std.specs.Str.{str_eq_ignore_ascii_case}
use Rattle.std.specs.Str.Parse.{digits_value}
use Rattle.std.specs.List.{list_all}
use Rattle.http_answer.specs.declared.fault.Misframed.{Misframed}
use Rattle.http_answer.specs.declared.fault.Misframed.TheVariants.{NotALength, TwoLengths, OtherCoding, LengthBesideCoding}
use Rattle.http_answer.specs.declared.fields.Framing.{Framing}
use Rattle.http_answer.specs.declared.fields.Framing.TheVariants.{Length, Chunked, ToEnd}
use Rattle.http_answer.specs.declared.fields.NamedValues.{NamedValues}
use Rattle.http_answer.specs.declared.fields.NamedValues.TheVariants.{Absent, Once, Several}

-- the field has that name
abbrev pub is_named : List ℕ → List ℕ × List ℕ → Bool
is_named name field = str_eq_ignore_ascii_case field.0 name

-- the values under that name, in their order
abbrev pub values : List ℕ → List (List ℕ × List ℕ) → List (List ℕ)
values name [] = []
values name (field ∷ fields) = if is_named name field then field.1 ∷ values name fields else values name fields

-- the text is 1 to 18 digits
abbrev pub is_length : List ℕ → Bool
is_length text = nat_lt 0 (length text) && nat_lt (length text) 19 && list_all is_ascii_digit text

-- by the values of Content-Length, where there is no coding: without one the body ends with the stream
abbrev pub length_framing : List (List ℕ) → Result Framing Misframed
length_framing [] = Ok ToEnd
length_framing (text ∷ []) = if is_length text then Ok (Length (digits_value 10 text)) else Err NotALength
length_framing (text ∷ other ∷ more) = Err TwoLengths

-- by the one value of Transfer-Encoding, where there is no length: chunked, in HTTP/1.1
abbrev pub coded_framing : ℕ → List ℕ → Result Framing Misframed
coded_framing minor coding = if (minor == 1) && str_eq_ignore_ascii_case coding (codes "chunked") then Ok Chunked else Err OtherCoding

-- how the body ends, by the minor version and the values of Content-Length and of Transfer-Encoding
abbrev pub framing_of : ℕ → List (List ℕ) → List (List ℕ) → Result Framing Misframed
framing_of minor lengths [] = length_framing lengths
framing_of minor [] (coding ∷ []) = coded_framing minor coding
framing_of minor [] (coding ∷ other ∷ more) = Err OtherCoding
framing_of minor (text ∷ lengths) (coding ∷ codings) = Err LengthBesideCoding

-- how the body ends, by the fields
abbrev pub field_framing : ℕ → List (List ℕ × List ℕ) → Result Framing Misframed
field_framing minor fields = framing_of minor (values (codes "content-length") fields) (values (codes "transfer-encoding") fields)

-- the text is a length of this worth, or none
abbrev pub IsLengthOf : List ℕ → Option ℕ → Type 0
IsLengthOf text None = is_length text ≡ false
IsLengthOf text (Some n) = (is_length text ≡ true) × (n ≡ digits_value 10 text)

-- the values are none, this one, or several
abbrev pub AreValues : List (List ℕ) → NamedValues → Type 0
AreValues values Absent = values ≡ []
AreValues values (Once value) = values ≡ value.now ∷ []
AreValues values Several = (first : List ℕ) × (second : List ℕ) × (more : List (List ℕ)) × (values ≡ first ∷ second ∷ more)
