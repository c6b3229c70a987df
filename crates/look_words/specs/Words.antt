-- What the words of a look ask for.
use Rattle.std.specs.Prelude.{ℕ, Bool, false, if◌then◌else◌, List, [], ◌∷◌, codes, bytes_eq}
use Rattle.look_words.specs.declared.words.Listed.{Listed}
use Rattle.look_words.specs.declared.words.Listed.TheVariants as listed

-- `check` alone
abbrev pub is_check : List (List ℕ) → Bool
is_check (word ∷ []) = bytes_eq word (codes "check")
is_check words = false

-- `job --dry-run`
abbrev pub is_dry_job : List ℕ → List ℕ → Bool
is_dry_job word flag = if bytes_eq word (codes "job") then bytes_eq flag (codes "--dry-run") else false

abbrev pub is_dry_run : List (List ℕ) → Bool
is_dry_run (word ∷ flag ∷ []) = is_dry_job word flag
is_dry_run words = false

-- `list` alone lists all that is kept, and with the name of a layer what is kept of it
abbrev pub listed_by : List ℕ → Listed → Listed
listed_by word what = if bytes_eq word (codes "list") then what else listed.Nothing

abbrev pub listed_in : List (List ℕ) → Listed
listed_in (word ∷ []) = listed_by word listed.All
listed_in (word ∷ name ∷ []) = listed_by word listed.OfLayer
listed_in words = listed.Nothing

-- the name of the layer, which is the second word
abbrev pub name_in : List (List ℕ) → List ℕ
name_in (word ∷ name ∷ []) = name
name_in words = []
