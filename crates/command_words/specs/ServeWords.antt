-- What the words after `serve` ask for.
use Rattle.std.specs.Prelude.{ℕ, ◌≤◌, ◌==◌, ◌&&◌, Bool, not, nat_le, if◌then◌else◌, List, [], ◌∷◌, slice_index, Option, Some, None, codes, bytes_eq}
use Rattle.std.specs.Str.Parse.{digits_value}
use Rattle.command_words.specs.declared.server_words.ServeWords.{ServeWords}
use Rattle.wmts_kvp.specs.Rows.{is_number}

-- a port of 1 to 65,535, and 1 to 1,000,000 connections
pub record IsServable (w : ServeWords) : Type 0 where
  pub least_port : 1 ≤ w.port
  pub most_port : w.port ≤ 65535
  pub least_connections : 1 ≤ w.connections
  pub most_connections : w.connections ≤ 1000000

-- THE PLAIN FORM

-- digits without a leading zero (48)
abbrev pub is_plain_number : List ℕ → Bool
is_plain_number digits = is_number digits && not (slice_index digits 0 == 48)

-- a plain number of 1 up to the most
abbrev pub plain_number : ℕ → List ℕ → Option ℕ
plain_number most digits =
    if is_plain_number digits && (nat_le 1 (digits_value 10 digits) && nat_le (digits_value 10 digits) most)
    then Some (digits_value 10 digits) else None

abbrev pub served : Option ℕ → Option ℕ → Option ServeWords
served (Some port) (Some connections) = Some (record { port = port; connections = connections })
served _ _ = None

-- the words of a port and of a number of connections
abbrev pub plain_pairs : List ℕ → List ℕ → Option ServeWords
plain_pairs port connections = served (plain_number 65535 port) (plain_number 1000000 connections)

-- `--port`, a number, `--connections`, a number, or the two pairs in the other order; any other words are not of the plain form
abbrev pub plain_words : List (List ℕ) → Option ServeWords
plain_words (first ∷ one ∷ second ∷ other ∷ []) =
    if bytes_eq first (codes "--port") && bytes_eq second (codes "--connections") then plain_pairs one other
    else if bytes_eq first (codes "--connections") && bytes_eq second (codes "--port") then plain_pairs other one
    else None
plain_words words = None
