-- What the words of a feed ask for.
use Rattle.std.specs.Prelude.{ℕ, if◌then◌else◌, List, [], ◌∷◌, Option, Some, None, codes, bytes_eq}
use Rattle.feed_words.specs.declared.words.FeedWord.{FeedWord}
use Rattle.feed_words.specs.declared.words.FeedWord.TheVariants as feed

-- `feed` alone
abbrev pub one_word : List ℕ → Option FeedWord
one_word word = if bytes_eq word (codes "feed") then Some feed.Run else None

-- `feed` and `make`
abbrev pub two_words : List ℕ → List ℕ → Option FeedWord
two_words word after =
    if bytes_eq word (codes "feed") then if bytes_eq after (codes "make") then Some feed.Make else None
    else None

-- any other words are none of a feed
abbrev pub feed_word : List (List ℕ) → Option FeedWord
feed_word (word ∷ []) = one_word word
feed_word (word ∷ after ∷ []) = two_words word after
feed_word words = None
