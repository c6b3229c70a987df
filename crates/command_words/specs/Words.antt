-- What the words of a command ask for.
use Rattle.std.specs.Prelude.{ℕ, ◌&&◌, nat_le, if◌then◌else◌, List, [], ◌∷◌, length, Option, Some, None, option_map, codes, bytes_eq}
use Rattle.std.specs.Str.Parse.{digits_value}
use Rattle.command_words.specs.declared.words.KeptWord.TheVariants as kept
use Rattle.command_words.specs.declared.words.MemoryWord.TheVariants as memory
use Rattle.command_words.specs.declared.words.UpkeepWord.TheVariants as upkeep
use Rattle.command_words.specs.declared.words.Word.{Word}
use Rattle.command_words.specs.declared.words.Word.TheVariants.{InMemory, Kept, Upkeep, Job}
use Rattle.wmts_kvp.specs.Rows.{is_number}

-- the number of 1 to 9 digits
abbrev pub number_of : List ℕ → Option ℕ
number_of digits = if nat_le (length digits) 9 && is_number digits then Some (digits_value 10 digits) else None

-- one of these seven; any other word is no command
abbrev pub one_word : List ℕ → Option Word
one_word word =
    if bytes_eq word (codes "schedule") then Some (InMemory memory.Schedule)
    else if bytes_eq word (codes "replay") then Some (InMemory memory.Replay)
    else if bytes_eq word (codes "make") then Some (Upkeep upkeep.Make)
    else if bytes_eq word (codes "truncate") then Some (Upkeep upkeep.Truncate)
    else if bytes_eq word (codes "expire") then Some (Upkeep upkeep.Expire)
    else if bytes_eq word (codes "usage") then Some (Upkeep upkeep.Usage)
    else if bytes_eq word (codes "job") then Some Job
    else None

-- the drill of a number
abbrev pub drill_of : ℕ → Word
drill_of number = InMemory (memory.Drill number)

-- a run on the cache of the disk
abbrev pub kept_word : List ℕ → Option Word
kept_word word =
    if bytes_eq word (codes "schedule") then Some (Kept kept.Schedule)
    else if bytes_eq word (codes "replay") then Some (Kept kept.Replay)
    else None

-- `drill` and a number, or `schedule` or `replay` and `--kept`; any other two words are no command
abbrev pub two_words : List ℕ → List ℕ → Option Word
two_words word after =
    if bytes_eq word (codes "drill") then option_map drill_of (number_of after)
    else if bytes_eq after (codes "--kept") then kept_word word
    else None

-- one word or two; any others are no command
abbrev pub word_of : List (List ℕ) → Option Word
word_of (word ∷ []) = one_word word
word_of (word ∷ after ∷ []) = two_words word after
word_of words = None
