-- What the words write.
use Rattle.std.specs.Prelude.{ℕ, List, ◌++◌, codes, decimal}

-- a cache was made
abbrev pub made_text : List ℕ
made_text = codes "made\n"

-- the number of the cut
abbrev pub cut_text : ℕ → List ℕ
cut_text number = codes "cut " ++ decimal number ++ codes "\n"

-- how many metatiles were dropped
abbrev pub dropped_text : ℕ → List ℕ
dropped_text count = codes "dropped " ++ decimal count ++ codes "\n"
