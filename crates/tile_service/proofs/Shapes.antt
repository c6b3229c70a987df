-- What a run comes to without the bytes that came by chance: its world but for the texts of blobs and tiles.
use Rattle.std.proofs.Common.{◌≡◌, ℕ, ◌+◌, Bool, true, false, List, [], ◌∷◌, length, map, replicate, slice_get, slice_set, Option, Some, None, refl, sym, ap, ◌∙◌}
use Rattle.std.specs.Prelude.{if◌then◌else◌, nat_le}
use Rattle.std.specs.Option.{option_map}
use Rattle.std.proofs.lemmas.List.{length-replicate, map-set}
use Rattle.std.proofs.lemmas.Option.{slice_get-map}
use Rattle.cabinet.specs.declared.kept.Kept.{Kept}
use Rattle.cabinet.specs.Commands.{answering, others, place_for, kept_at}
use Rattle.cabinet.specs.History.{next, stored_entry}
use Rattle.cabinet.specs.State.{State, asked_at, now, with_entry}
use Rattle.cache_core.specs.declared.actor.Actor.{Actor}
use Rattle.cache_core.specs.declared.actor.Actor.TheVariants as actor
use Rattle.cache_core.specs.declared.outcome.TileOutcome as cached
use Rattle.cache_core.specs.declared.outcome.TileOutcome.TheVariants as core
use Rattle.cache_core.specs.declared.outcome.Tile.{Tile}
use Rattle.cache_core.specs.Fits.{place_of}
use Rattle.cache_core.specs.Steps.{Stepped, advanced, began, ended, given, off, stored, unless_busy, unless_kept, unless_overtaken, unless_unread, with_room}
use Rattle.cache_core.proofs.Alike.{blob_long}
use Rattle.http_wire.specs.declared.message.Message.{Message}
use Rattle.matrix_geometry.specs.declared.address.Address.{Address}
use Rattle.metatile_locks.specs.declared.render.Render.{Render}
use Rattle.metatile_locks.specs.Running.{render_of, running_for}
use Rattle.metatile_locks.specs.Tickets.{Ticketed}
use Rattle.raster_field.specs.Blocks.{block_of}
use Rattle.tile_requests.specs.declared.request.Mode.{Mode}
use Rattle.tile_requests.specs.declared.request.Mode.TheVariants.{Gets, Asks, Forces}
use Rattle.tile_requests.specs.declared.request.Request.{Request}
use Rattle.tile_requests.specs.declared.request.Request.TheVariants as request
use Rattle.tile_service.specs.Lines.{Action, Nothing, Sends, Steps, action_in}
use Rattle.tile_requests.specs.Requests.{Chance, at_once, is_at_work, further, carried_on, events, cut}
use Rattle.tile_requests.specs.Routes.{request_for}
use Rattle.tile_service.specs.Run.{PendingRequest, RunState, Answer, Run, seat_after, settled, started, resumed, asked, sent, if_free, stepped, line_done, goes_on, first_of, rest_of, run}
use Rattle.tile_service.specs.Session.{session}
use Rattle.tile_service.specs.Alike.{without_bytes, any_bytes}
use Rattle.tile_service.proofs.AtOnce.{holds}
use Rattle.tile_service.proofs.WithoutBlobs.{plain}

-- CABINETS

abbrev plain_tile : Tile → Tile
plain_tile t = record { hit = t.hit; number = t.number; bytes = [] }

abbrev plain_actor : Actor → Actor
plain_actor actor.Idle = actor.Idle
plain_actor (actor.Waiting a force) = actor.Waiting a force
plain_actor (actor.Holding t a) = actor.Holding t a
plain_actor (actor.Rendered t blob tile) = actor.Rendered t (replicate (length blob) 0) (plain_tile tile)
plain_actor (actor.Failed t) = actor.Failed t

-- whether there is an outcome
abbrev marked : Option cached.TileOutcome → Option cached.TileOutcome
marked None = None
marked (Some o) = Some core.NoMemory

abbrev shape : Stepped → Stepped
shape r = record { cabinet = plain r.cabinet; actor = plain_actor r.actor; outcome = marked r.outcome }

plain_twice : (x : Actor) → plain_actor (plain_actor x) ≡ plain_actor x
plain_twice actor.Idle = refl
plain_twice (actor.Waiting a force) = refl
plain_twice (actor.Holding t a) = refl
plain_twice (actor.Rendered t blob tile) = ap (λ n. actor.Rendered t (replicate n 0) (plain_tile tile)) (length-replicate (length blob) 0)
plain_twice (actor.Failed t) = refl

marked_twice : (o : Option cached.TileOutcome) → marked (marked o) ≡ marked o
marked_twice None = refl
marked_twice (Some o) = refl

shape_twice : (r : Stepped) → shape (shape r) ≡ shape r
shape_twice r = rw (plain_twice r.actor, marked_twice r.outcome) refl

-- THE ASK

given_like : (s : State) (a : Address) (x : Option ℕ) → shape (given s a x) ≡ shape (given (plain s) a x)
given_like s a None = refl
given_like s a (Some k) = refl

busy_like : (s : State) (a : Address) (force : Bool) (x : Option ℕ) → shape (unless_busy s a force x) ≡ shape (unless_busy (plain s) a force x)
busy_like s a force (Some j) = refl
busy_like s a force None = given_like s a (next s.opening (now s))

kept_like : (s : State) (a : Address) (bytes others : Option (ℕ → ℕ)) (x : Option Kept) → shape (unless_kept s a bytes x) ≡ shape (unless_kept (plain s) a others x)
kept_like s a bytes others (Some t) = refl
kept_like s a bytes others None = busy_like s a false (running_for (block_of s.catalogue a) (now s).out)

began_like : (s : State) (a : Address) (force left : Bool) (n : ℕ) (unread : Bool) (bytes others : Option (ℕ → ℕ)) → shape (began s a force left n unread bytes) ≡ shape (began (plain s) a force left n unread others)
began_like s a force false n unread bytes others = refl
began_like s a true true n unread bytes others = busy_like (asked_at n s) a true (running_for (block_of s.catalogue a) (now (asked_at n s)).out)
began_like s a false true n unread bytes others = kept_like (asked_at n s) a bytes others (unless_unread unread (answering (asked_at n s) a))

-- THE END

off_like : (s : State) (t : Ticketed) (x : Option Render) → plain (off s t x) ≡ plain (off (plain s) t x)
off_like s t None = refl
off_like s t (Some r) = refl

module _ (s : State) (t : Ticketed) (xs ys : List ℕ) (e : length xs ≡ length ys) where
  stored_like : (n : ℕ) (p : Option ℕ) (unwritten : Bool) → plain (stored s t n xs p unwritten) ≡ plain (stored (plain s) t n ys p unwritten)
  stored_like n None unwritten = refl
  stored_like n (Some place) true = refl
  stored_like n (Some place) false = ap (λ (l : ℕ). plain (with_entry s (stored_entry (kept_at t n place l)))) e

  room_like : (n : ℕ) (unwritten full : Bool) → plain (with_room s t n xs unwritten full) ≡ plain (with_room (plain s) t n ys unwritten full)
  room_like n unwritten true = refl
  room_like n unwritten false = stored_like n (place_for s (length xs)) unwritten ∙ ap (λ (l : ℕ). plain (stored (plain s) t n ys (place_for s l) unwritten)) e

  mark_like : (n : ℕ) (unwritten : Bool) (mark : Option ℕ) → plain (unless_overtaken s t n xs unwritten mark) ≡ plain (unless_overtaken (plain s) t n ys unwritten mark)
  mark_like n unwritten (Some cut) = refl
  mark_like n unwritten None = room_like n unwritten (nat_le s.catalogue.kept_limit (others s t.meta))

  ended_like : (unwritten : Bool) (r : Option Render) → plain (ended s t xs unwritten r) ≡ plain (ended (plain s) t ys unwritten r)
  ended_like unwritten None = refl
  ended_like unwritten (Some r) = mark_like r.moment unwritten r.mark

-- AN EVENT

-- a blob of so many bytes is held
abbrev holding : State → Ticketed → ℕ → Stepped
holding s t n = record { cabinet = plain s; actor = actor.Rendered t (replicate n 0) (record { hit = false; number = t.number; bytes = [] }); outcome = None }

advanced_like : (s : State) (x : Actor) (left : Bool) (n : ℕ) (unread : Bool) (bytes : Option (ℕ → ℕ)) (unwritten : Bool)
    → shape (advanced s x left n unread bytes unwritten) ≡ shape (advanced (plain s) (plain_actor x) left n unread (any_bytes bytes) unwritten)
advanced_like s actor.Idle left n unread bytes unwritten = refl
advanced_like s (actor.Waiting a force) left n unread bytes unwritten = began_like s a force left n unread bytes (any_bytes bytes)
advanced_like s (actor.Holding t a) false n unread bytes unwritten = ap (λ u. shape (record { cabinet = u; actor = actor.Idle; outcome = Some core.NoMemory })) (off_like s t (render_of t (now s).out))
advanced_like s (actor.Holding t a) true n unread None unwritten = refl
advanced_like s (actor.Holding t a) true n unread (Some bytes) unwritten =
    ap (holding s t) (blob_long s.catalogue t.meta bytes ∙ sym (blob_long s.catalogue t.meta (λ i. 0)))
advanced_like s (actor.Rendered t blob tile) left n unread bytes unwritten =
    ap (λ u. shape (record { cabinet = u; actor = actor.Idle; outcome = Some core.NoMemory })) (ended_like s t blob (replicate (length blob) 0) (sym (length-replicate (length blob) 0)) unwritten (render_of t (now s).out))
advanced_like s (actor.Failed t) left n unread bytes unwritten = ap (λ u. shape (record { cabinet = u; actor = actor.Idle; outcome = Some core.NoMemory })) (off_like s t (render_of t (now s).out))

works_like : (x : Actor) → is_at_work (plain_actor x) ≡ is_at_work x
works_like actor.Idle = refl
works_like (actor.Waiting a force) = refl
works_like (actor.Holding t a) = refl
works_like (actor.Rendered t blob tile) = refl
works_like (actor.Failed t) = refl

further_like : (c : Chance) (r : Stepped) → shape (further c r) ≡ shape (further (without_bytes c) (shape r))
further_like c r = go (is_at_work r.actor) refl
  where
    go : (b : Bool) → is_at_work r.actor ≡ b → shape (further c r) ≡ shape (further (without_bytes c) (shape r))
    go true e = rw (works_like r.actor, e) (advanced_like r.cabinet r.actor c.work c.moment c.unread c.bytes c.unwritten)
    go false e = rw (works_like r.actor, e) (sym (shape_twice r))

any_twice : (bytes : Option (ℕ → ℕ)) → any_bytes (any_bytes bytes) ≡ any_bytes bytes
any_twice None = refl
any_twice (Some b) = refl

without_twice : (c : Chance) → without_bytes (without_bytes c) ≡ without_bytes c
without_twice c = ap (λ (x : Option (ℕ → ℕ)). let d : Chance = record { read = c.read; ask = c.ask; moment = c.moment; unread = c.unread; work = c.work; bytes = x; unwritten = c.unwritten; left = c.left } in d) (any_twice c.bytes)

further_same : (c : Chance) (r : Stepped) → shape (further (without_bytes c) r) ≡ shape (further (without_bytes c) (shape r))
further_same c r = further_like (without_bytes c) r ∙ ap (λ (d : Chance). shape (further d (shape r))) (without_twice c)

once_like : (c : Chance) (r q : Stepped) → shape r ≡ shape q → shape (carried_on c r) ≡ shape (carried_on (without_bytes c) q)
once_like c r q e =
    let d = without_bytes c in
    let first : shape (carried_on c r) ≡ shape (further d (shape (further d (shape r)))) = further_like c (further c r) ∙ ap (λ x. shape (further d x)) (further_like c r) in
    let second : shape (carried_on d q) ≡ shape (further d (shape (further d (shape q)))) = further_same c (further d q) ∙ ap (λ x. shape (further d x)) (further_same c q) in
    first ∙ ap (λ x. shape (further d (shape (further d x)))) e ∙ sym second

events_like : (mode : Mode) (s : State) (a : Address) (c : Chance) → shape (events mode s a c) ≡ shape (events mode (plain s) a (without_bytes c))
events_like Gets s a c = once_like c (began s a false c.ask c.moment c.unread c.bytes) (began (plain s) a false c.ask c.moment c.unread (any_bytes c.bytes)) (began_like s a false c.ask c.moment c.unread c.bytes (any_bytes c.bytes))
events_like Asks s a c = began_like s a false c.ask c.moment c.unread c.bytes (any_bytes c.bytes)
events_like Forces s a c = began_like s a true c.ask c.moment c.unread c.bytes (any_bytes c.bytes)

-- WORLDS

abbrev plain_seat : Option PendingRequest → Option PendingRequest
plain_seat None = None
plain_seat (Some b) = Some (record { start = b.start; message = b.message; address = b.address; place = b.place; actor = plain_actor b.actor })

abbrev plain_world : RunState → RunState
plain_world w = record { cabinet = plain w.cabinet; capabilities = w.capabilities; seats = map plain_seat w.seats }

seats_twice : (seats : List (Option PendingRequest)) → map plain_seat (map plain_seat seats) ≡ map plain_seat seats
seats_twice [] = refl
seats_twice (None ∷ seats) = ap (λ xs. None ∷ xs) (seats_twice seats)
seats_twice (Some b ∷ seats) = rw (plain_twice b.actor, seats_twice seats) refl

abbrev world_with : RunState → State → List (Option PendingRequest) → RunState
world_with w s seats = record { cabinet = s; capabilities = w.capabilities; seats = seats }

-- a cabinet of the same shape, and the seats as they were
same_seats : (w : RunState) (s t : State) → plain s ≡ plain t → plain_world (world_with w s w.seats) ≡ plain_world (world_with w t (map plain_seat w.seats))
same_seats w s t e = ap (λ u. world_with w u (map plain_seat w.seats)) e ∙ ap (world_with w (plain t)) (sym (seats_twice w.seats))

seat_like : (b : PendingRequest) (x : Actor) (o : Option cached.TileOutcome) → plain_seat (seat_after b x o) ≡ seat_after b (plain_actor x) (marked o)
seat_like b x None = refl
seat_like b x (Some o) = refl

settled_like : (w : RunState) (n i : ℕ) (c : Chance) (b d : PendingRequest) (r q : Stepped) → shape r ≡ shape q → ((x : Actor) (o : Option cached.TileOutcome) → seat_after b x o ≡ seat_after d x o)
    → plain_world (settled w n c i b r).0 ≡ plain_world (settled (plain_world w) n (without_bytes c) i d q).0
settled_like w n i c b d r q e same =
    let one : map plain_seat (slice_set w.seats i (seat_after b r.actor r.outcome)) ≡ slice_set (map plain_seat w.seats) i (seat_after b (plain_actor r.actor) (marked r.outcome)) =
    map-set plain_seat w.seats i (seat_after b r.actor r.outcome) ∙ ap (slice_set (map plain_seat w.seats) i) (seat_like b r.actor r.outcome) in
    let two : map plain_seat (slice_set (map plain_seat w.seats) i (seat_after d q.actor q.outcome)) ≡ slice_set (map plain_seat w.seats) i (seat_after d (plain_actor q.actor) (marked q.outcome)) =
    map-set plain_seat (map plain_seat w.seats) i (seat_after d q.actor q.outcome) ∙ rw (seats_twice w.seats) (ap (slice_set (map plain_seat w.seats) i) (seat_like d q.actor q.outcome)) in
    let mid : slice_set (map plain_seat w.seats) i (seat_after b (plain_actor r.actor) (marked r.outcome)) ≡ slice_set (map plain_seat w.seats) i (seat_after d (plain_actor q.actor) (marked q.outcome)) =
    ap (slice_set (map plain_seat w.seats) i) (same (plain_actor r.actor) (marked r.outcome) ∙ ap (λ x. seat_after d x.actor x.outcome) e) in
    ap (λ x. world_with w x.cabinet (map plain_seat (slice_set w.seats i (seat_after b r.actor r.outcome)))) e ∙ ap (world_with w (plain q.cabinet)) (one ∙ mid ∙ sym two)

-- LINES

abbrev world_in : RunState × List Answer → RunState
world_in d = plain_world d.0

asked_like : (w : RunState) (n : ℕ) (c : Chance) (mode : Mode) (i : ℕ) (m : Message) (r : Request) → world_in (asked w n c mode i m r) ≡ world_in (asked (plain_world w) n (without_bytes c) mode i m r)
asked_like w n c mode i m (request.Tile a) = settled_like w n i c (started w n m a) (started (plain_world w) n m a) (events mode w.cabinet a c) (events mode (plain w.cabinet) a (without_bytes c)) (events_like mode w.cabinet a c) (λ x o. refl)
asked_like w n c mode i m other = same_seats w (at_once w.cabinet c other).0 (at_once (plain w.cabinet) c other).0 (holds w.cabinet c other).like

either_like : (b : Bool) (d e f g : RunState × List Answer) → world_in d ≡ world_in f → world_in e ≡ world_in g → world_in (if b then d else e) ≡ world_in (if b then f else g)
either_like true d e f g h k = h
either_like false d e f g h k = k

sent_like : (w : RunState) (n : ℕ) (c : Chance) (mode : Mode) (i : ℕ) (m : Message) → world_in (sent w n c mode i m) ≡ world_in (sent (plain_world w) n (without_bytes c) mode i m)
sent_like w n c mode i m = either_like c.read _ _ _ _ (asked_like w n c mode i m (request_for w.cabinet.catalogue m)) (same_seats w w.cabinet (plain w.cabinet) refl)

abbrev worlds : Option (RunState × List Answer) → Option RunState
worlds d = option_map world_in d

free_like : (x : Option (Option PendingRequest)) (d e : RunState × List Answer) → world_in d ≡ world_in e → worlds (if_free x d) ≡ worlds (if_free (option_map plain_seat x) e)
free_like None d e same = refl
free_like (Some None) d e same = ap (λ t. Some t) same
free_like (Some (Some b)) d e same = refl

place_like : (x : Actor) (here place : ℕ) → place_of x here place ≡ place_of (plain_actor x) here place
place_like actor.Idle here place = refl
place_like (actor.Waiting a force) here place = refl
place_like (actor.Holding t a) here place = refl
place_like (actor.Rendered t blob tile) here place = refl
place_like (actor.Failed t) here place = refl

resumed_like : (w : RunState) (b d : PendingRequest) → plain_seat (Some b) ≡ Some d → (x : Actor) (o : Option cached.TileOutcome) → seat_after (resumed w b) x o ≡ seat_after (resumed (plain_world w) (record b { actor = plain_actor b.actor })) x o
resumed_like w b d is x None = rw (place_like b.actor (length w.cabinet.history) b.place) refl
resumed_like w b d is x (Some o) = refl

stepped_like : (w : RunState) (n : ℕ) (c : Chance) (i : ℕ) (x : Option (Option PendingRequest)) → worlds (stepped w n c i x) ≡ worlds (stepped (plain_world w) n (without_bytes c) i (option_map plain_seat x))
stepped_like w n c i None = refl
stepped_like w n c i (Some None) = refl
stepped_like w n c i (Some (Some b)) =
    let d : PendingRequest = record { start = b.start; message = b.message; address = b.address; place = b.place; actor = plain_actor b.actor } in
    ap (λ t. Some t) (settled_like w n i c (resumed w b) (resumed (plain_world w) d) (advanced w.cabinet b.actor c.work c.moment c.unread c.bytes c.unwritten) (advanced (plain w.cabinet) (plain_actor b.actor) c.work c.moment c.unread (any_bytes c.bytes) c.unwritten)
    (advanced_like w.cabinet b.actor c.work c.moment c.unread c.bytes c.unwritten) (resumed_like w b d refl))

done_like : (w : RunState) (n : ℕ) (c : Chance) (d : Option Action) → worlds (line_done w n c d) ≡ worlds (line_done (plain_world w) n (without_bytes c) d)
done_like w n c None = refl
done_like w n c (Some Nothing) = ap (λ t. Some t) (same_seats w w.cabinet (plain w.cabinet) refl)
done_like w n c (Some (Sends mode i m)) = rw (slice_get-map plain_seat w.seats i) (free_like (slice_get w.seats i) (sent w n c mode i m) (sent (plain_world w) n (without_bytes c) mode i m) (sent_like w n c mode i m))
done_like w n c (Some (Steps i)) = rw (slice_get-map plain_seat w.seats i) (stepped_like w n c i (slice_get w.seats i))

-- RUNS

abbrev told_of : Run → RunState × Option ℕ
told_of r = (plain_world r.world, r.refused)

first_like : (cs : List Chance) → without_bytes (first_of cs) ≡ first_of (map without_bytes cs)
first_like [] = refl
first_like (c ∷ cs) = refl

rest_like : (cs : List Chance) → map without_bytes (rest_of cs) ≡ rest_of (map without_bytes cs)
rest_like [] = refl
rest_like (c ∷ cs) = refl

all_twice : (cs : List Chance) → map without_bytes (map without_bytes cs) ≡ map without_bytes cs
all_twice [] = refl
all_twice (c ∷ cs) = rw (without_twice c, all_twice cs) refl

-- a line more
goes_like : (w v : RunState) (n : ℕ) (on off : RunState → Run) (x y : Option (RunState × List Answer)) → plain_world w ≡ plain_world v → worlds x ≡ worlds y
    → ((t u : RunState) → plain_world t ≡ plain_world u → told_of (on t) ≡ told_of (off u)) → told_of (goes_on w n x on) ≡ told_of (goes_on v n y off)
goes_like w v n on off None None e same h = ap (λ (t : RunState). let p : RunState × Option ℕ = (t, Some n) in p) e
goes_like w v n on off None (Some d) e same h = cc
goes_like w v n on off (Some d) None e same h = cc
goes_like w v n on off (Some d) (Some f) e same h = let k : plain_world d.0 ≡ plain_world f.0 = cc in h d.0 f.0 k

pub run_like : (lines : List (List ℕ)) (w v : RunState) (n : ℕ) (cs ds : List Chance) → plain_world w ≡ plain_world v → map without_bytes cs ≡ map without_bytes ds → told_of (run w n lines cs) ≡ told_of (run v n lines ds)
run_like [] w v n cs ds e k = ap (λ (t : RunState). let p : RunState × Option ℕ = (t, None) in p) e
run_like (line ∷ lines) w v n cs ds e k =
    let d = action_in line in
    let first : without_bytes (first_of cs) ≡ without_bytes (first_of ds) = first_like cs ∙ ap first_of k ∙ sym (first_like ds) in
    let rest : map without_bytes (rest_of cs) ≡ map without_bytes (rest_of ds) = rest_like cs ∙ ap rest_of k ∙ sym (rest_like ds) in
    let same : worlds (line_done w n (first_of cs) d) ≡ worlds (line_done v n (first_of ds) d) = done_like w n (first_of cs) d ∙ (rw (e, first) refl) ∙ sym (done_like v n (first_of ds) d) in
    goes_like w v n _ _ (line_done w n (first_of cs) d) (line_done v n (first_of ds) d) e same (λ t u h. run_like lines t u (n + 1) (rest_of cs) (rest_of ds) h rest)

pub history_like : (w : RunState) (n : ℕ) (lines : List (List ℕ)) (cs ds : List Chance) → map without_bytes cs ≡ map without_bytes ds → (run w n lines cs).world.cabinet.history ≡ (run w n lines ds).world.cabinet.history
history_like w n lines cs ds e = ap (λ (r : RunState × Option ℕ). r.0.cabinet.history) (run_like lines w w n cs ds refl e)

pub refused_like : (w : RunState) (n : ℕ) (lines : List (List ℕ)) (cs ds : List Chance) → map without_bytes cs ≡ map without_bytes ds → (run w n lines cs).refused ≡ (run w n lines ds).refused
refused_like w n lines cs ds e = ap (λ (r : RunState × Option ℕ). r.1) (run_like lines w w n cs ds refl e)

-- SESSIONS

session_shape : (messages : List Message) (w v : RunState) (i : ℕ) (cs ds : List Chance) → plain_world w ≡ plain_world v → map without_bytes cs ≡ map without_bytes ds → world_in (session w i messages cs) ≡ world_in (session v i messages ds)
session_shape [] w v i cs ds e k = e
session_shape (m ∷ messages) w v i cs ds e k =
    let first : without_bytes (first_of cs) ≡ without_bytes (first_of ds) = first_like cs ∙ ap first_of k ∙ sym (first_like ds) in
    let rest : map without_bytes (rest_of cs) ≡ map without_bytes (rest_of ds) = rest_like cs ∙ ap rest_of k ∙ sym (rest_like ds) in
    let same : world_in (sent w i (first_of cs) Gets 0 m) ≡ world_in (sent v i (first_of ds) Gets 0 m) =
    sent_like w i (first_of cs) Gets 0 m ∙ ap (λ (t : RunState). world_in (sent t i (without_bytes (first_of cs)) Gets 0 m)) e ∙ ap (λ (c : Chance). world_in (sent (plain_world v) i c Gets 0 m)) first ∙ sym (sent_like v i (first_of ds) Gets 0 m) in
    session_shape messages (sent w i (first_of cs) Gets 0 m).0 (sent v i (first_of ds) Gets 0 m).0 (i + 1) (rest_of cs) (rest_of ds) same rest

pub session_like : (w : RunState) (i : ℕ) (messages : List Message) (cs ds : List Chance) → map without_bytes cs ≡ map without_bytes ds → (session w i messages cs).0.cabinet.history ≡ (session w i messages ds).0.cabinet.history
session_like w i messages cs ds e = ap (λ (t : RunState). t.cabinet.history) (session_shape messages w w i cs ds refl e)
