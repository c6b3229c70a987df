-- What is counted of what is kept.
use Rattle.std.specs.Prelude.{ℕ, nat_lt, if◌then◌else◌, length}
use Rattle.cabinet.specs.Counted.{kept_in, used, used_all}
use Rattle.cabinet.specs.State.{State, now}
use Rattle.cabinet_chest.specs.declared.command.Counts.{Counts}

abbrev pub counts_in_layer : State → ℕ → Counts
counts_in_layer s layer = record { metatiles = kept_in s layer; bytes = used s layer; cuts = length (now s).book.cuts }

abbrev pub counts_in_all : State → Counts
counts_in_all s = record { metatiles = length (now s).kept; bytes = used_all s; cuts = length (now s).book.cuts }

-- of the layer with this number, or of all layers where the number is how many there are
abbrev pub counts_of : State → ℕ → Counts
counts_of s layer = if nat_lt layer (length s.catalogue.layers) then counts_in_layer s layer else counts_in_all s
