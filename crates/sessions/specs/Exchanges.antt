-- The messages of a session, each with what it came to, and their responses.
use Rattle.std.specs.Prelude.{ℕ, ◌≡◌, ◌+◌, Bool, List, [], ◌∷◌, map}
use Rattle.http_wire.specs.declared.message.Message.{Message}
use Rattle.source_render.specs.Renders.{Renders}
use Rattle.tile_requests.specs.declared.outcome.Outcome.{Outcome}
use Rattle.tile_requests.specs.Requests.{answered_at}
use Rattle.tile_requests.specs.Response.{response}
use Rattle.tile_requests.specs.Routes.{spelling_of}

-- how a server stands between two messages: what it answers from, where jobs are submitted, and what the source has done
pub record ServerStanding (Cache Jobs : Type 0) : Type 0 where
  pub cache : Cache
  pub jobs : Jobs
  pub renders : Renders

abbrev pub standing : {Cache Jobs : Type 0} → Cache → Jobs → Renders → ServerStanding Cache Jobs
standing cache jobs so_far = record { cache = cache; jobs = jobs; renders = so_far }

-- a message, the outcome that it came to, whether memory was left for the text of its response, and how the server stood before it
-- and after it
pub record Exchange (Cache Jobs : Type 0) : Type 0 where
  pub message : Message
  pub outcome : Outcome
  pub left : Bool
  pub before : ServerStanding Cache Jobs
  pub after : ServerStanding Cache Jobs

abbrev pub messages_of : {Cache Jobs : Type 0} → List (Exchange Cache Jobs) → List Message
messages_of es = map (λ e. e.message) es

-- the response to a message at its place in the session, counted from 1
abbrev pub response_at : {Cache Jobs : Type 0} → List ℕ → ℕ → Exchange Cache Jobs → List ℕ
response_at document i e = response document e.message i (answered_at (spelling_of e.message) e.left e.outcome)

-- the responses, of which the first is that to the message at this place
abbrev pub responses_of : {Cache Jobs : Type 0} → List ℕ → ℕ → List (Exchange Cache Jobs) → List (List ℕ)
responses_of document i [] = []
responses_of document i (e ∷ es) = response_at document i e ∷ responses_of document (i + 1) es

-- each was served so, one after the other, from one standing to another
abbrev pub AreServed : {Cache Jobs : Type 0} → (Message → Outcome → ServerStanding Cache Jobs → ServerStanding Cache Jobs → Type 0) → ServerStanding Cache Jobs → List (Exchange Cache Jobs) → ServerStanding Cache Jobs → Type 0
AreServed Serves before [] after = after ≡ before
AreServed Serves before (e ∷ es) after = (e.before ≡ before) × Serves e.message e.outcome e.before e.after × AreServed Serves e.after es after
