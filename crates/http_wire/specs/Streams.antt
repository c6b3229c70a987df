-- All the messages of a stream.
use Rattle.std.specs.Prelude.{◌≡◌, ℕ, List, [], ◌∷◌, Option, Some, None, ⊤}
use Rattle.http_wire.specs.Messages.{IsNext, StopsAs}
use Rattle.http_wire.specs.declared.message.Message.{Message}
use Rattle.http_wire.specs.declared.message.Stop.{Stop}

-- these messages stand at the front of the bytes, and rest follows them
abbrev pub Stand : List ℕ → List Message → List ℕ → Type 0
Stand bytes [] rest = bytes ≡ rest
Stand bytes (message ∷ messages) rest = (next : List ℕ) × IsNext bytes message next × Stand next messages rest

-- the bytes are these messages, and then the stream stops so
abbrev pub Messages : List ℕ → List Message → Stop → Type 0
Messages bytes messages stop = (rest : List ℕ) × Stand bytes messages rest × StopsAs rest stop

-- Stand, where the bytes are modelled
abbrev pub StandIn : Option (List ℕ) → List Message → Option (List ℕ) → Type 0
StandIn None messages after = ⊤
StandIn (Some bytes) messages None = ⊥
StandIn (Some bytes) messages (Some rest) = Stand bytes messages rest
