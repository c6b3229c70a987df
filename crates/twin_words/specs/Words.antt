-- What the words of a twin ask for.
use Rattle.std.specs.Prelude.{ℕ, if◌then◌else◌, List, [], ◌∷◌, Option, Some, None, codes, bytes_eq}
use Rattle.twin_words.specs.declared.words.TwinWord.{TwinWord}
use Rattle.twin_words.specs.declared.words.TwinWord.TheVariants as twin

-- `twin` alone
abbrev pub one_word : List ℕ → Option TwinWord
one_word word = if bytes_eq word (codes "twin") then Some twin.Run else None

-- `twin` and `make`
abbrev pub two_words : List ℕ → List ℕ → Option TwinWord
two_words word after =
    if bytes_eq word (codes "twin") then if bytes_eq after (codes "make") then Some twin.Make else None
    else None

-- any other words are none of a twin
abbrev pub twin_word : List (List ℕ) → Option TwinWord
twin_word (word ∷ []) = one_word word
twin_word (word ∷ after ∷ []) = two_words word after
twin_word words = None
