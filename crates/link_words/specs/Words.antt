-- What the words of a link ask for.
use Rattle.std.specs.Prelude.{ℕ, ◌==◌, if◌then◌else◌, List, [], ◌∷◌, slice_index, Option, Some, None, codes, bytes_eq}
use Rattle.std.specs.Str.Parse.{digits_value}
use Rattle.wmts_kvp.specs.Rows.{below, is_number}
use Rattle.link_words.specs.declared.words.LinkWord.{LinkWord}
use Rattle.link_words.specs.declared.words.LinkWord.TheVariants as link

-- the number of digits of which the first is not 0 (48 in ASCII), below 65,536
abbrev pub port_in : List ℕ → Option ℕ
port_in digits = if is_number digits then if slice_index digits 0 == 48 then None else below 65536 (digits_value 10 digits) else None

-- `lead` or `follow`, with the port
abbrev pub with_port : List ℕ → Option ℕ → Option LinkWord
with_port word None = None
with_port word (Some port) =
    if bytes_eq word (codes "lead") then Some (link.Lead port)
    else if bytes_eq word (codes "follow") then Some (link.Follow port)
    else None

abbrev pub two_words : List ℕ → List ℕ → Option LinkWord
two_words word port = with_port word (port_in port)

-- any other words are none of a link
abbrev pub link_word : List (List ℕ) → Option LinkWord
link_word (word ∷ port ∷ []) = two_words word port
link_word words = None
