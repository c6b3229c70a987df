-- What a line of a schedule says: the number of an actor, a space, and a verb with what it takes.
use Rattle.std.specs.Prelude.{ℕ, ◌+◌, ◌-◌, ◌==◌, ◌&&◌, ◌||◌, not, Bool, nat_lt, nat_eq, if◌then◌else◌, List, [], ◌∷◌, length, take, drop, slice_index, find, Option, Some, None, Result, Ok, Err, codes}
use Rattle.std.specs.Char.{is_ascii_digit}
use Rattle.std.specs.List.{starts_with, prefix_len, list_any}
use Rattle.std.specs.Str.Parse.{digits_value}
use Rattle.metatile_plan.specs.declared.span.Span.{Span}
use Rattle.schedule_text.specs.declared.line.Line.{Line}
use Rattle.schedule_text.specs.declared.line.LineFault.{LineFault}
use Rattle.schedule_text.specs.declared.line.LineFault.TheVariants.{NoActor, NoVerb, TooLong}
use Rattle.schedule_text.specs.declared.line.TheConstants.{LINE_LIMIT}
use Rattle.schedule_text.specs.declared.verb.Verb.{Verb}
use Rattle.schedule_text.specs.declared.verb.Verb.TheVariants.{Get, Ask, Force, Step, Truncate, Expire}

-- THE ACTOR

-- how many digits a text begins with
abbrev pub digits_len : List ℕ → ℕ
digits_len text = prefix_len is_ascii_digit text

-- one digit, or two of which the first is not 0 (48 in ASCII)
abbrev pub is_plain : List ℕ → Bool
is_plain digits = length digits == 1 || (length digits == 2 && not (slice_index digits 0 == 48))

-- the actor that digits name: a number below 64
abbrev pub actor_of : List ℕ → Option ℕ
actor_of digits = if is_plain digits && nat_lt (digits_value 10 digits) 64 then Some (digits_value 10 digits) else None

-- THE VERB

-- how a verb is spelt, with the space after it where a rest follows
abbrev pub word : Verb → List ℕ
word Get = codes "GET "
word Ask = codes "ASK "
word Force = codes "FORCE "
word Step = codes "STEP"
word Truncate = codes "TRUNCATE "
word Expire = codes "EXPIRE"

-- one byte or more, and no space (32 in ASCII)
abbrev pub is_target : List ℕ → Bool
is_target rest = not (length rest == 0) && not (list_any (λ b. b == 32) rest)

-- what may stand after the word
abbrev pub has_rest : Verb → List ℕ → Bool
has_rest Get rest = is_target rest
has_rest Ask rest = is_target rest
has_rest Force rest = is_target rest
has_rest Step rest = length rest == 0
has_rest Truncate rest = not (length rest == 0)
has_rest Expire rest = length rest == 0

abbrev pub has_form : Verb → List ℕ → Bool
has_form verb text = starts_with nat_eq text (word verb) && has_rest verb (drop (length (word verb)) text)

-- the verb of which a text has the form
abbrev pub verb_of : List ℕ → Option Verb
verb_of text = find (λ verb. has_form verb text) (Get ∷ Ask ∷ Force ∷ Step ∷ Truncate ∷ Expire ∷ [])

-- THE LINE

-- from this place to the line's end
abbrev pub rest_from : List ℕ → ℕ → Span
rest_from line start = record { start = start; length = length line - start }

-- what stands from `at` on is the verb with what it takes
abbrev pub with_verb : List ℕ → ℕ → ℕ → Option Verb → Result Line LineFault
with_verb line actor at None = Err NoVerb
with_verb line actor at (Some verb) = Ok (record { actor = actor; verb = verb; rest = rest_from line (at + length (word verb)) })

-- after so many digits, which name an actor or not, one space stands, and then the verb
abbrev pub with_actor : List ℕ → ℕ → Option ℕ → Result Line LineFault
with_actor line count None = Err NoActor
with_actor line count (Some actor) = if slice_index line count == 32 then with_verb line actor (count + 1) (verb_of (drop (count + 1) line)) else Err NoActor

abbrev pub line_of : List ℕ → Result Line LineFault
line_of line = if nat_lt LINE_LIMIT (length line) then Err TooLong else with_actor line (digits_len line) (actor_of (take (digits_len line) line))
