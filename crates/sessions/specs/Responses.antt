-- What is sent for a message, and for bytes that are none.
use Rattle.std.specs.Prelude.{ℕ, ◌≡◌, ◌⊎◌, true, List}
use Rattle.tile_requests.specs.declared.outcome.Outcome.{Outcome}
use Rattle.tile_requests.specs.declared.outcome.Outcome.TheVariants.{Plain}
use Rattle.tile_requests.specs.declared.outcome.Plain.TheVariants.{NoMemory}
use Rattle.tile_requests.specs.declared.spelling.Spelling.{Spelling}
use Rattle.tile_requests.specs.Requests.{is_made}
use Rattle.tile_requests.specs.Response.{bare, response_text}

-- P holds of the outcome, or of that of no memory, where a text would have to be made for the answer, in which a tile is spelt so
abbrev pub MayTell : Spelling → Outcome → (Outcome → Type 0) → Type 0
MayTell spelling o P = P o ⊎ ((is_made spelling o ≡ true) × P (Plain NoMemory))

-- the answer to bytes that are no message: the status alone, and the connection is closed
abbrev pub bad_text : ℕ → List ℕ
bad_text status = response_text true (bare status)
