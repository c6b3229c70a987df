-- Which top call words are for.
use Rattle.std.specs.Prelude.{ℕ, if◌then◌else◌, List, [], ◌∷◌, codes, bytes_eq}
use Rattle.command_words.specs.declared.top_calls.TopCall.{TopCall}
use Rattle.command_words.specs.declared.top_calls.TopCall.TheVariants as call

-- the first word names one of these; any other word names a command that runs once, or none
abbrev pub first_word : List ℕ → TopCall
first_word word =
    if bytes_eq word (codes "serve") then call.Serve
    else if bytes_eq word (codes "feed") then call.Feed
    else if bytes_eq word (codes "compose") then call.Compose
    else if bytes_eq word (codes "twin") then call.Twin
    else if bytes_eq word (codes "lead") then call.Link
    else if bytes_eq word (codes "follow") then call.Link
    else if bytes_eq word (codes "carry") then call.Carry
    else if bytes_eq word (codes "check") then call.Look
    else if bytes_eq word (codes "list") then call.Look
    else if bytes_eq word (codes "seal") then call.Seal
    else call.Command

-- `--help` and `--version` stand alone
abbrev pub one_word : List ℕ → TopCall
one_word word =
    if bytes_eq word (codes "--help") then call.Help
    else if bytes_eq word (codes "--version") then call.Version
    else first_word word

-- a job that isn't run is only looked at
abbrev pub dry_run : List ℕ → TopCall
dry_run word = if bytes_eq word (codes "job") then call.Look else first_word word

-- any word and `--help`, or `job` and `--dry-run`
abbrev pub two_words : List ℕ → List ℕ → TopCall
two_words word after =
    if bytes_eq after (codes "--help") then call.WordHelp
    else if bytes_eq after (codes "--dry-run") then dry_run word
    else first_word word

abbrev pub top_call : List (List ℕ) → TopCall
top_call [] = call.Command
top_call (word ∷ []) = one_word word
top_call (word ∷ after ∷ []) = two_words word after
top_call (word ∷ after ∷ more ∷ words) = first_word word
