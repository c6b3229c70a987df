-- The pairs of a query, as a form is read (URL Standard, section 5.1).
use Rattle.std.specs.Prelude.{ℕ, List, Option, map, find, option_map}
use Rattle.std.specs.Str.Lossy.{utf8_lossy}
use Rattle.catalog.specs.Names.{is_same}
use Rattle.form_urlencoded.specs.Form.{raw_pairs, decode}

-- a name or a value as text: escapes decoded, `+` as a space, and U+FFFD for each sequence that isn't UTF-8
abbrev pub text_of : List ℕ → List ℕ
text_of bytes = utf8_lossy (decode bytes)

-- names and values as text
abbrev pub decoded : List (List ℕ × List ℕ) → List (List ℕ × List ℕ)
decoded pairs = map (λ pair. (text_of pair.0, text_of pair.1)) pairs

-- the decoded pairs of names and values, in order
unfoldable pub pairs_of : List ℕ → List (List ℕ × List ℕ)
pairs_of query = decoded (raw_pairs query)

-- the value of the first pair of this name, in whatever case
unfoldable pub value_of : List (List ℕ × List ℕ) → List ℕ → Option (List ℕ)
value_of pairs name = option_map (λ pair. pair.1) (find (λ pair. is_same pair.0 name) pairs)
