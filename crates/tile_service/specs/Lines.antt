-- The lines of a schedule, and the action that each of them says.
use Rattle.std.specs.Prelude.{ℕ, ◌+◌, ◌==◌, ◌||◌, nat_lt, if◌then◌else◌, List, [], ◌∷◌, length, drop, slice_index, Bool, false, Option, Some, None, Result, Ok, Err, codes}
use Rattle.http_wire.specs.declared.message.Message.{Message}
use Rattle.http_wire.specs.declared.message.Method.TheVariants as method
use Rattle.schedule_text.specs.declared.line.Line.{Line}
use Rattle.schedule_text.specs.declared.line.LineFault.{LineFault}
use Rattle.schedule_text.specs.declared.line.TheConstants.{LINE_LIMIT}
use Rattle.schedule_text.specs.declared.verb.Verb.{Verb}
use Rattle.schedule_text.specs.declared.verb.Verb.TheVariants.{Get, Ask, Force, Step, Truncate, Expire}
use Rattle.schedule_text.specs.Line.{line_of}
use Rattle.tile_requests.specs.declared.request.Mode.{Mode}
use Rattle.tile_requests.specs.declared.request.Mode.TheVariants.{Gets, Asks, Forces}

-- THE LINES OF A TEXT

-- a byte in front of the first line
abbrev pub onto_first : ℕ → List (List ℕ) → List (List ℕ)
onto_first b [] = (b ∷ []) ∷ []
onto_first b (line ∷ lines) = (b ∷ line) ∷ lines

-- the lines of a text, which end in a line feed (10 in ASCII); the last may lack it
abbrev pub lines_of : List ℕ → List (List ℕ)
lines_of [] = []
lines_of (b ∷ bs) = if b == 10 then [] ∷ lines_of bs else onto_first b (lines_of bs)

-- how many bytes the first line has
abbrev pub line_length : List ℕ → ℕ
line_length [] = 0
line_length (b ∷ bs) = if b == 10 then 0 else line_length bs + 1

-- ACTIONS

-- What a line says: nothing; or that an actor sends a message, where the mode is that in which a tile is asked for; or that an
-- actor makes the next event of its pending request.
pub data Action : Type 0 where
  Nothing : Action
  Sends : Mode → ℕ → Message → Action
  Steps : ℕ → Action

-- the message of method GET for a target
abbrev pub get : List ℕ → Message
get target = record { method = method.Get; target = target; body = []; last = false }

-- that of method POST, with a body
abbrev pub post : List ℕ → List ℕ → Message
post target body = record { method = method.Post; target = target; body = body; last = false }

-- the message that truncates by a cover
abbrev pub truncation : List ℕ → Message
truncation cover = post (codes "/truncate") cover

-- the message that expires
abbrev pub expiry : Message
expiry = post (codes "/expire") []

-- the action of an actor by a verb, with the rest of its line
abbrev pub action_with : ℕ → Verb → List ℕ → Action
action_with actor Get rest = Sends Gets actor (get rest)
action_with actor Ask rest = Sends Asks actor (get rest)
action_with actor Force rest = Sends Forces actor (get rest)
action_with actor Step rest = Steps actor
action_with actor Truncate rest = Sends Gets actor (truncation rest)
action_with actor Expire rest = Sends Gets actor expiry

abbrev pub action_for : List ℕ → Result Line LineFault → Option Action
action_for line (Err fault) = None
action_for line (Ok l) = Some (action_with l.actor l.verb (drop l.rest.start line))

-- empty, or a comment, which begins with # (35 in ASCII)
abbrev pub says_nothing : List ℕ → Bool
says_nothing line = length line == 0 || slice_index line 0 == 35

-- the action that a line says; none where it is no line of a schedule
unfoldable pub action_in : List ℕ → Option Action
action_in line = if nat_lt LINE_LIMIT (length line) then None else if says_nothing line then Some Nothing else action_for line (line_of line)
