-- What an output has gained, where its bytes are modelled.
use Rattle.std.specs.Prelude.{ℕ, ◌≡◌, ◌<◌, List, ◌++◌, length, Option}
use Rattle.std.specs.Io.KnownBytes.{Appends}

-- known bytes grow by a front of these, and not by all of them
pub record AppendsFront (old new : Option (List ℕ)) (bytes : List ℕ) : Type 0 where
  pub front : List ℕ
  pub rest : List ℕ
  pub whole : bytes ≡ front ++ rest
  pub short : 0 < length rest
  pub grows : Appends old new front

-- known bytes grow by all of a first text, and then by a front of a second one
pub record AppendsPart (old new : Option (List ℕ)) (first second : List ℕ) : Type 0 where
  pub between : Option (List ℕ)
  pub whole : Appends old between first
  pub part : AppendsFront between new second
