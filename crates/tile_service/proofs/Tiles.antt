-- While numbers are left, a request for a tile is answered with the tile, unless memory ran out or the source failed.
use Rattle.std.proofs.Common.{◌≡◌, ℕ, ◌+◌, ◌<◌, Bool, true, false, List, [], ◌∷◌, ◌++◌, length, slice_get, Option, Some, None, inl, inr, refl, arith, if◌then◌else◌}
use Rattle.std.specs.Prelude.{IsSome, nat_le, nat_lt, ◌⊎◌, ⊤}
use Rattle.std.specs.List.{AllByRecursion}
use Rattle.std.proofs.lemmas.Bool.Decides.{nat_tests}
use Rattle.cabinet.specs.Commands.{answering, others, place_for}
use Rattle.cabinet.specs.declared.kept.Kept.{Kept}
use Rattle.cabinet.specs.History.{last_number, next}
use Rattle.cabinet.specs.State.{State, asked_at, now}
use Rattle.cache_core.specs.declared.actor.Actor.{Actor}
use Rattle.cache_core.specs.declared.actor.Actor.TheVariants as actor
use Rattle.cache_core.specs.declared.outcome.TileOutcome as cached
use Rattle.cache_core.specs.declared.outcome.TileOutcome.TheVariants as core
use Rattle.cache_core.specs.Steps.{Stepped, abandoned, advanced, asked, began, ended, finished, given, off, render_wanted, rendered, stored, unless_busy, unless_kept, unless_overtaken, unless_unread, with_room}
use Rattle.http_wire.specs.declared.message.Message.{Message}
use Rattle.matrix_geometry.specs.declared.address.Address.{Address}
use Rattle.metatile_locks.specs.declared.render.Render.{Render}
use Rattle.metatile_locks.specs.Running.{render_of, running_for}
use Rattle.metatile_locks.specs.Tickets.{Ticketed}
use Rattle.raster_field.specs.Blocks.{block_of}
use Rattle.tile_requests.specs.declared.outcome.Outcome.TheVariants as outcome
use Rattle.tile_requests.specs.declared.outcome.Plain.TheVariants as plain
use Rattle.tile_requests.specs.declared.request.Mode.{Mode}
use Rattle.tile_requests.specs.declared.request.Mode.TheVariants.{Gets, Asks, Forces}
use Rattle.tile_requests.specs.declared.request.Request.{Request}
use Rattle.tile_requests.specs.declared.request.Request.TheVariants as request
use Rattle.tile_requests.specs.Requests.{Chance, further, events, is_at_work, is_respelt, tile_in}
use Rattle.tile_requests.specs.Routes.{request_for, spelling_of}
use Rattle.tile_service.specs.Lines as lines
use Rattle.tile_service.specs.Lines.{Action, action_in}
use Rattle.tile_service.specs.Run as runs
use Rattle.tile_service.specs.Run.{Answer, HasNumbers, IsAnsweredTile, PendingRequest, Run, RunState, answers_after, first_of, goes_on, if_free, line_done, rest_of, resumed, run, sent, settled, started, stepped}
use Rattle.tile_service.specs.Session.{session}
use Rattle.tile_service.proofs.AtOnce.{holds}
use Rattle.tile_service.proofs.LaterCabinets.{IsLater, asked_later, before, grows, later, same}
use Rattle.tile_service.proofs.Seating.{either}

-- EVENTS

-- a number is refused only where none is left
abbrev Tells : Option cached.TileOutcome → State → Type 0
Tells None t = ⊤
Tells (Some (core.Tile tile)) t = ⊤
Tells (Some core.SourceFailed) t = ⊤
Tells (Some core.Spent) t = HasNumbers t → ⊥
Tells (Some core.NoMemory) t = ⊤

record IsFair (s : State) (r : Stepped) : Type 0 where
  pub later : IsLater s r.cabinet
  pub tells : Tells r.outcome r.cabinet

from : (s t : State) (r : Stepped) → IsLater s t → IsFair t r → IsFair s r
from s t r a f = record { later = later s t r.cabinet a f.later; tells = f.tells }

not_below : (x y : ℕ) → nat_lt x y ≡ false → x < y → ⊥
not_below x y e h = absurd (grind (arith, nat_tests))

given_fair : (s : State) (a : Address) → IsFair s (given s a (next s.opening (now s)))
given_fair s a = chosen (nat_lt (now s).front (last_number s.opening)) refl
  where
    chosen : (b : Bool) → nat_lt (now s).front (last_number s.opening) ≡ b → IsFair s (given s a (if b then Some ((now s).front + 1) else None))
    chosen true e = record { later = grows s _ _; tells = tt }
    chosen false e = record { later = same s; tells = not_below _ _ e }

wanted_fair : (s : State) (a : Address) (force : Bool) → IsFair s (render_wanted s a force)
wanted_fair s a force = chosen (running_for (block_of s.catalogue a) (now s).out)
  where
    chosen : (n : Option ℕ) → IsFair s (unless_busy s a force n)
    chosen None = given_fair s a
    chosen (Some n) = record { later = same s; tells = tt }

kept_fair : (s : State) (a : Address) (bytes : Option (ℕ → ℕ)) (t : Option Kept) → IsFair s (unless_kept s a bytes t)
kept_fair s a bytes (Some t) = record { later = grows s _ _; tells = tt }
kept_fair s a bytes None = wanted_fair s a false

asked_fair : (s : State) (a : Address) (force unread : Bool) (bytes : Option (ℕ → ℕ)) → IsFair s (asked s a force unread bytes)
asked_fair s a true unread bytes = wanted_fair s a true
asked_fair s a false unread bytes = kept_fair s a bytes (unless_unread unread (answering s a))

began_fair : (s : State) (a : Address) (force left : Bool) (n : ℕ) (unread : Bool) (bytes : Option (ℕ → ℕ)) → IsFair s (began s a force left n unread bytes)
began_fair s a force false n unread bytes = record { later = same s; tells = tt }
began_fair s a force true n unread bytes = from s (asked_at n s) _ (asked_later s n) (asked_fair (asked_at n s) a force unread bytes)

off_later : (s : State) (t : Ticketed) → IsLater s (abandoned s t)
off_later s t = chosen (render_of t (now s).out)
  where
    chosen : (r : Option Render) → IsLater s (off s t r)
    chosen None = same s
    chosen (Some r) = grows s _ _

stored_later : (s : State) (t : Ticketed) (n : ℕ) (blob : List ℕ) (place : Option ℕ) (unwritten : Bool) → IsLater s (stored s t n blob place unwritten)
stored_later s t n blob None unwritten = grows s _ _
stored_later s t n blob (Some place) true = grows s _ _
stored_later s t n blob (Some place) false = grows s _ _

room_later : (s : State) (t : Ticketed) (n : ℕ) (blob : List ℕ) (unwritten full : Bool) → IsLater s (with_room s t n blob unwritten full)
room_later s t n blob unwritten true = grows s _ _
room_later s t n blob unwritten false = stored_later s t n blob (place_for s (length blob)) unwritten

mark_later : (s : State) (t : Ticketed) (n : ℕ) (blob : List ℕ) (unwritten : Bool) (mark : Option ℕ) → IsLater s (unless_overtaken s t n blob unwritten mark)
mark_later s t n blob unwritten (Some mark) = grows s _ _
mark_later s t n blob unwritten None = room_later s t n blob unwritten (nat_le s.catalogue.kept_limit (others s t.meta))

finished_later : (s : State) (t : Ticketed) (blob : List ℕ) (unwritten : Bool) → IsLater s (finished s t blob unwritten)
finished_later s t blob unwritten = chosen (render_of t (now s).out)
  where
    chosen : (r : Option Render) → IsLater s (ended s t blob unwritten r)
    chosen None = same s
    chosen (Some r) = mark_later s t r.moment blob unwritten r.mark

rendered_fair : (s : State) (t : Ticketed) (a : Address) (left : Bool) (bytes : Option (ℕ → ℕ)) → IsFair s (rendered s t a left bytes)
rendered_fair s t a false bytes = record { later = off_later s t; tells = tt }
rendered_fair s t a true None = record { later = same s; tells = tt }
rendered_fair s t a true (Some bytes) = record { later = same s; tells = tt }

advanced_fair : (s : State) (x : Actor) (left : Bool) (n : ℕ) (unread : Bool) (bytes : Option (ℕ → ℕ)) (unwritten : Bool) → IsFair s (advanced s x left n unread bytes unwritten)
advanced_fair s actor.Idle left n unread bytes unwritten = record { later = same s; tells = tt }
advanced_fair s (actor.Waiting a force) left n unread bytes unwritten = began_fair s a force left n unread bytes
advanced_fair s (actor.Holding t a) left n unread bytes unwritten = rendered_fair s t a left bytes
advanced_fair s (actor.Rendered t text tile) left n unread bytes unwritten = record { later = finished_later s t text unwritten; tells = tt }
advanced_fair s (actor.Failed t) left n unread bytes unwritten = record { later = off_later s t; tells = tt }

further_fair : (c : Chance) (s : State) (r : Stepped) → IsFair s r → IsFair s (further c r)
further_fair c s r f = chosen (is_at_work r.actor)
  where
    more : Stepped
    more = advanced r.cabinet r.actor c.work c.moment c.unread c.bytes c.unwritten

    chosen : (b : Bool) → IsFair s (if b then more else r)
    chosen true = from s r.cabinet more f.later (advanced_fair r.cabinet r.actor c.work c.moment c.unread c.bytes c.unwritten)
    chosen false = f

events_fair : (mode : Mode) (s : State) (a : Address) (c : Chance) → IsFair s (events mode s a c)
events_fair Gets s a c = further_fair c s _ (further_fair c s _ (began_fair s a false c.ask c.moment c.unread c.bytes))
events_fair Asks s a c = began_fair s a false c.ask c.moment c.unread c.bytes
events_fair Forces s a c = began_fair s a true c.ask c.moment c.unread c.bytes

-- LINES AND MESSAGES

-- what comes of a cabinet: it is later, and while numbers are left there, the requests for tiles are answered so
abbrev pub AreAnswered : State → State → List Answer → Type 0
AreAnswered s t answers = IsLater s t × (HasNumbers t → AllByRecursion IsAnsweredTile answers)

after_event : (n i : ℕ) (left : Bool) (b : PendingRequest) (o : Option cached.TileOutcome) (t : State) → Tells o t → HasNumbers t → AllByRecursion IsAnsweredTile (answers_after n i left b o)
after_event n i left b None t tells some = tt
after_event n i true b (Some (core.Tile tile)) t tells some = (inl refl, tt)
after_event n i false b (Some (core.Tile tile)) t tells some = (either (λ o. IsSome (tile_in o) ⊎ (o ≡ outcome.Plain plain.NoMemory) ⊎ (o ≡ outcome.SourceFailed)) (is_respelt (spelling_of b.message)) _ (inr (inl refl)) (inl refl), tt)
after_event n i true b (Some core.SourceFailed) t tells some = (inr (inr refl), tt)
after_event n i false b (Some core.SourceFailed) t tells some = (inr (inl refl), tt)
after_event n i left b (Some core.Spent) t tells some = absurd (tells some)
after_event n i true b (Some core.NoMemory) t tells some = (inr (inl refl), tt)
after_event n i false b (Some core.NoMemory) t tells some = (inr (inl refl), tt)

settled_answered : (w : RunState) (n : ℕ) (c : Chance) (i : ℕ) (b : PendingRequest) (r : Stepped) → IsFair w.cabinet r → AreAnswered w.cabinet r.cabinet (settled w n c i b r).1
settled_answered w n c i b r f = (f.later, after_event n i c.left b r.outcome r.cabinet f.tells)

request_answered : (w : RunState) (n : ℕ) (c : Chance) (mode : Mode) (i : ℕ) (m : Message) (r : Request) → AreAnswered w.cabinet (runs.asked w n c mode i m r).0.cabinet (runs.asked w n c mode i m r).1
request_answered w n c mode i m (request.Tile a) = settled_answered w n c i (started w n m a) (events mode w.cabinet a c) (events_fair mode w.cabinet a c)
request_answered w n c mode i m other = ((holds w.cabinet c other).later, λ left. (tt, tt))

message_answered : (w : RunState) (n : ℕ) (c : Chance) (mode : Mode) (i : ℕ) (m : Message) → AreAnswered w.cabinet (sent w n c mode i m).0.cabinet (sent w n c mode i m).1
message_answered w n c mode i m = chosen c.read
  where
    chosen : (b : Bool)
        → let d = if b then runs.asked w n c mode i m (request_for w.cabinet.catalogue m) else runs.told_in w n c i m None (w.cabinet, outcome.Plain plain.NoMemory) in AreAnswered w.cabinet d.0.cabinet d.1
    chosen true = request_answered w n c mode i m (request_for w.cabinet.catalogue m)
    chosen false = (same w.cabinet, λ left. (tt, tt))

-- a line that isn't refused
abbrev IsAnsweredLine : RunState → Option (RunState × List Answer) → Type 0
IsAnsweredLine w None = ⊤
IsAnsweredLine w (Some d) = AreAnswered w.cabinet d.0.cabinet d.1

line_answered : (w : RunState) (n : ℕ) (c : Chance) (action : Option Action) → IsAnsweredLine w (line_done w n c action)
line_answered w n c None = tt
line_answered w n c (Some lines.Nothing) = (same w.cabinet, λ left. tt)
line_answered w n c (Some (lines.Sends mode i m)) = chosen (slice_get w.seats i)
  where
    chosen : (x : Option (Option PendingRequest)) → IsAnsweredLine w (if_free x (sent w n c mode i m))
    chosen None = tt
    chosen (Some None) = message_answered w n c mode i m
    chosen (Some (Some b)) = tt
line_answered w n c (Some (lines.Steps i)) = chosen (slice_get w.seats i)
  where
    chosen : (x : Option (Option PendingRequest)) → IsAnsweredLine w (stepped w n c i x)
    chosen None = tt
    chosen (Some None) = tt
    chosen (Some (Some b)) = settled_answered w n c i (resumed w b) _ (advanced_fair w.cabinet b.actor c.work c.moment c.unread c.bytes c.unwritten)

-- RUNS AND SESSIONS

all_behind : (P : Answer → Type 0) (first more : List Answer) → AllByRecursion P first → AllByRecursion P more → AllByRecursion P (first ++ more)
all_behind P [] more h k = k
all_behind P (a ∷ first) more h k = (h.0, all_behind P first more h.1 k)

and_more : (s t u : State) (first more : List Answer) → AreAnswered s t first → AreAnswered t u more → AreAnswered s u (first ++ more)
and_more s t u first more a b = (later s t u a.0 b.0, λ left. all_behind IsAnsweredTile first more (a.1 (before t u b.0 left)) (b.1 left))

abbrev pub IsAnsweredRun : State → Run → Type 0
IsAnsweredRun s r = AreAnswered s r.world.cabinet r.answers

line_then : (w : RunState) (n : ℕ) (d : Option (RunState × List Answer)) (on : RunState → Run) → IsAnsweredLine w d → ((t : RunState) → IsAnsweredRun t.cabinet (on t)) → IsAnsweredRun w.cabinet (goes_on w n d on)
line_then w n None on a onward = (same w.cabinet, λ left. tt)
line_then w n (Some d) on a onward = and_more w.cabinet d.0.cabinet (on d.0).world.cabinet d.1 (on d.0).answers a (onward d.0)

pub run_answered : (w : RunState) (n : ℕ) (ls : List (List ℕ)) (cs : List Chance) → IsAnsweredRun w.cabinet (run w n ls cs)
run_answered w n [] cs = (same w.cabinet, λ left. tt)
run_answered w n (l ∷ ls) cs =
    line_then w n (line_done w n (first_of cs) (action_in l)) (λ t. run t (n + 1) ls (rest_of cs)) (line_answered w n (first_of cs) (action_in l)) (λ t. run_answered t (n + 1) ls (rest_of cs))

pub session_answered : (w : RunState) (i : ℕ) (ms : List Message) (cs : List Chance) → AreAnswered w.cabinet (session w i ms cs).0.cabinet (session w i ms cs).1
session_answered w i [] cs = (same w.cabinet, λ left. tt)
session_answered w i (m ∷ ms) cs =
    let d = sent w i (first_of cs) Gets 0 m in
    let more = session d.0 (i + 1) ms (rest_of cs) in
    and_more w.cabinet d.0.cabinet more.0.cabinet d.1 more.1 (message_answered w i (first_of cs) Gets 0 m) (session_answered d.0 (i + 1) ms (rest_of cs))
