-- What a line does, in the terms of worlds.
use Rattle.std.proofs.Common.{◌≡◌, ◌≤◌, zero, suc, ℕ, ◌+◌, ◌<◌, Bool, true, false, List, [], ◌∷◌, length, map, slice_get, slice_set, Option, Some, None, inl, inr, refl, sym, ap, ◌∙◌, subst, arith, append-nil}
use Rattle.std.specs.Option.{option_map}
use Rattle.std.proofs.lemmas.List.{map-set}
use Rattle.std.proofs.lemmas.Option.{slice_get-map, slice_get_within}
use Rattle.cabinet.specs.State.{State}
use Rattle.cache_core.specs.declared.actor.Actor.{Actor}
use Rattle.cache_core.specs.declared.actor.Actor.TheVariants as actor
use Rattle.cache_core.specs.declared.actor.Step.{Step}
use Rattle.cache_core.specs.declared.outcome.TileOutcome as cached
use Rattle.cache_core.specs.Advanced.{Advances}
use Rattle.cache_core.specs.Fits.{IsFit, IsTrueActor}
use Rattle.cache_core.specs.Shown.{shown, IsIdle}
use Rattle.base.specs.Causes.{RoseBy}
use Rattle.http_wire.specs.declared.message.Message.{Message}
use Rattle.matrix_geometry.specs.declared.address.Address.{Address}
use Rattle.tile_service.specs.declared.action_end.ActionEnd.{ActionEnd}
use Rattle.tile_service.specs.declared.action_end.ActionEnd.TheVariants.{Refused, Silent, Answers}
use Rattle.tile_requests.specs.declared.outcome.Outcome.{Outcome}
use Rattle.tile_requests.specs.declared.outcome.Outcome.TheVariants as outcome
use Rattle.tile_requests.specs.declared.outcome.Plain.TheVariants as plain
use Rattle.tile_requests.specs.declared.request.Mode.{Mode}
use Rattle.tile_requests.specs.declared.request.Request.{Request}
use Rattle.tile_requests.specs.declared.request.Request.TheVariants as request
use Rattle.tile_service.specs.declared.seats.Pending.{Pending}
use Rattle.tile_service.specs.declared.seats.ActorPlace.{ActorPlace}
use Rattle.tile_service.specs.declared.seats.ActorPlace.TheVariants as seat
use Rattle.tile_requests.specs.Immediate.{IsImmediate}
use Rattle.tile_service.specs.Performing.{IsAsked}
use Rattle.tile_requests.specs.Events.{BeginsByLine, MovesRequest}
use Rattle.tile_service.specs.Lines.{Action, Nothing, Sends, Steps}
use Rattle.tile_service.specs.OneLine.{IsPending, IsSeat, IsTrueSeat, IsSeated, Keeps, ActionEnds, Performs, seat_of}
use Rattle.tile_requests.specs.Requests.{owed, Chance, calm, disk_faults_in}
use Rattle.tile_requests.specs.Routes.{request_for, spelling_of}
use Rattle.sessions.specs.Outside.{FaultCounts}
use Rattle.tile_service.specs.Run.{PendingRequest, RunState, Answer, seat_after, answers_after, owed_at, settled, started, resumed, asked, sent, if_free, stepped, line_done, failures, unanswered, run_state_of}
use Rattle.tile_service.specs.Seats.{is_free, pending_at, next_seat, action_end_of}
use Rattle.tile_service.proofs.Immediately.{immediate_told, read_asks, same_events, with_ends}
use Rattle.tile_requests.proofs.Moving.{advance_moves, stay_covered}
use Rattle.tile_service.proofs.Seating.{one_of_all, settled_keeps}
use Rattle.tile_service.proofs.Telling.{Stays, same_stays, AsksNoTile, told_answer, told_keeps}

-- SEATS

seat_next : (b : PendingRequest) (x : Actor) (o : Option cached.TileOutcome) → seat_of (seat_after b x o) ≡ next_seat b.start (spelling_of b.message) b.address x o
seat_next b x None = refl
seat_next b x (Some o) = refl

set_seats : (busy : List (Option PendingRequest)) (seats : List ActorPlace) (i : ℕ) (b : PendingRequest) (x : Actor) (o : Option cached.TileOutcome) → map seat_of busy ≡ seats → map seat_of (slice_set busy i (seat_after b x o)) ≡ slice_set seats i (next_seat b.start (spelling_of b.message) b.address x o)
set_seats busy seats i b x o e = map-set seat_of busy i (seat_after b x o) ∙ rw (e, seat_next b x o) refl

there : (busy : List (Option PendingRequest)) (seats : List ActorPlace) (i : ℕ) → map seat_of busy ≡ seats → slice_get seats i ≡ option_map seat_of (slice_get busy i)
there busy seats i e = rw (sym e) (slice_get-map seat_of busy i)

free_there : (o : Option (Option PendingRequest)) → option_map seat_of o ≡ Some seat.Free → o ≡ Some None
free_there None e = cc
free_there (Some None) e = refl
free_there (Some (Some b)) e = let f : seat_of (Some b) ≡ seat.Free = cc in cc

is_taken : (o : Option (Option PendingRequest)) (d : RunState × List Answer) → is_free (option_map seat_of o) ≡ false → if_free o d ≡ None
is_taken None d e = refl
is_taken (Some None) d e = let f : true ≡ false = e in cc
is_taken (Some (Some b)) d e = refl

pending_there : (o : Option (Option PendingRequest)) (pending : Pending) → pending_at (option_map seat_of o) ≡ Some pending → (b : PendingRequest) × (o ≡ Some (Some b)) × (pending ≡ record { start = b.start; spelling = spelling_of b.message; address = b.address; actor = b.actor })
pending_there None pending e = let f : None ≡ Some pending = e in cc
pending_there (Some None) pending e = let f : None ≡ Some pending = e in cc
pending_there (Some (Some b)) pending e = (b, refl, cc)

none_pending : (w : RunState) (n : ℕ) (c : Chance) (i : ℕ) (o : Option (Option PendingRequest)) → pending_at (option_map seat_of o) ≡ None → stepped w n c i o ≡ None
none_pending w n c i None e = refl
none_pending w n c i (Some None) e = refl
none_pending w n c i (Some (Some b)) e = cc

-- WHAT LINES COME TO

pub refused_performs : (told : Option ℕ) (count : ℕ) (disk : FaultCounts) → disk.before ≤ disk.after → (s : State) (document : List ℕ) (seats : List ActorPlace) (n : ℕ) (action : Option Action)
    → ((busy : List (Option PendingRequest)) → map seat_of busy ≡ seats → line_done (run_state_of s document busy) n calm action ≡ None) → Performs told count count disk s document seats n action s seats Refused
refused_performs told count disk later s document seats n action f busy h = (busy, h.same, (f busy h.same, refl, omega arith, later))

pub taken_performs : (told : Option ℕ) (count : ℕ) (disk : FaultCounts) → disk.before ≤ disk.after → (s : State) (document : List ℕ) (seats : List ActorPlace) (n : ℕ) (mode : Mode) (i : ℕ) (m : Message) → is_free (slice_get seats i) ≡ false → Performs told count count disk s document seats n (Some (Sends mode i m)) s seats Refused
taken_performs told count disk later s document seats n mode i m e =
    refused_performs told count disk later s document seats n (Some (Sends mode i m)) (λ busy same. is_taken (slice_get busy i) (sent (run_state_of s document busy) n calm mode i m) (rw (sym (there busy seats i same)) e))

pub no_step_performs : (told : Option ℕ) (count : ℕ) (disk : FaultCounts) → disk.before ≤ disk.after → (s : State) (document : List ℕ) (seats : List ActorPlace) (n i : ℕ) → pending_at (slice_get seats i) ≡ None → Performs told count count disk s document seats n (Some (Steps i)) s seats Refused
no_step_performs told count disk later s document seats n i e =
    refused_performs told count disk later s document seats n (Some (Steps i)) (λ busy same. none_pending (run_state_of s document busy) n calm i (slice_get busy i) (rw (sym (there busy seats i same)) e))

pub nothing_keeps : (told : Option ℕ) (count : ℕ) (w : RunState) → Keeps told count count w w []
nothing_keeps told count w =
    record {
      later = omega arith;
      failed = stay_covered count count (unanswered w.seats) (failures [] + unanswered w.seats) (omega arith) (omega arith);
      world = λ is. is;
      sound = λ e is sound. sound;
      truth = λ e is sound. tt;
      fresh = λ is. tt;
      grows = ([], sym (append-nil w.cabinet.history));
      catalogue = refl;
      capabilities = refl;
    }

pub idle_performs : (told : Option ℕ) (count : ℕ) (disk : FaultCounts) → disk.before ≤ disk.after → (s : State) (document : List ℕ) (seats : List ActorPlace) (n : ℕ) → Performs told count count disk s document seats n (Some Nothing) s seats Silent
idle_performs told count disk later s document seats n busy h = (busy, h.same, (calm, refl, omega arith, nothing_keeps told count (run_state_of s document busy)))

-- EVENTS

module _ (told : Option ℕ) (before after : ℕ) (disk : FaultCounts) (s t : State) (first : Actor) (b : PendingRequest) (step : Step) (m : MovesRequest told before after s first b.address b.place step t) (document : List ℕ) (busy : List (Option PendingRequest)) (i : ℕ) (old : Option PendingRequest)
    (at : slice_get busy i ≡ Some old) (same : owed_at old ≡ owed first) (was : IsTrueSeat s.catalogue old → IsTrueActor s.catalogue first) (n : ℕ) (action : Option Action) (open_after : b.message.last ≡ false) (c : Bool → Chance) (left : (l : Bool) → (c l).left ≡ l) (faults : (l : Bool) → RoseBy (disk_faults_in (c l)) disk.before disk.after)
    (made : (l : Bool) → line_done (run_state_of s document busy) n (c l) action ≡ Some (settled (run_state_of s document busy) n (c l) i b (shown step t))) where
  abbrev there_after : RunState
  there_after = run_state_of t document (slice_set busy i (seat_after b step.actor step.outcome))

  made_with : (l : Bool) (o : Option cached.TileOutcome) → step.outcome ≡ o → line_done (run_state_of s document busy) n (c l) action ≡ Some (there_after, answers_after n i l b o)
  made_with l o e =
      let P : Bool → Option cached.TileOutcome → Type 0 = λ x y. line_done (run_state_of s document busy) n (c l) action ≡ Some (there_after, answers_after n i x b y) in
      subst (P l) e (subst (λ x. P x step.outcome) (left l) (made l))

  kept_with : (l : Bool) (o : Option cached.TileOutcome) → step.outcome ≡ o → Keeps told before after (run_state_of s document busy) there_after (answers_after n i l b o)
  kept_with l o e =
      let P : Option cached.TileOutcome → Type 0 = λ y. Keeps told before after (run_state_of s document busy) there_after (answers_after n i l b y) in
      subst P e (settled_keeps told before after s t first b step m (λ none. open_after) document busy i old at same was n l)

  pub settled_ends : (o : Option cached.TileOutcome) → step.outcome ≡ o → ActionEnds told before after disk (run_state_of s document busy) n action there_after (action_end_of i b.start (spelling_of b.message) o)
  settled_ends None e = (c true, made_with true None e, faults true, kept_with true None e)
  settled_ends (Some o) e =
      record {
        message = b.message;
        request = Some (request.Tile b.address);
        place = b.place;
        open_after = open_after;
        spelling = refl;
        chance = c;
        made = λ l. made_with l (Some o) e;
        faults = faults;
        keeps = λ l. kept_with l (Some o) e;
      }

-- A REQUEST OF A LINE

module _ (told : Option ℕ) (disk : FaultCounts) (s : State) (document : List ℕ) (seats : List ActorPlace) (n : ℕ) (mode : Mode) (i : ℕ) (m : Message) (open_after : m.last ≡ false) (free : slice_get seats i ≡ Some seat.Free) where
  abbrev action : Option Action
  action = Some (Sends mode i m)

  abbrev asks : Request
  asks = request_for s.catalogue m

  module _ (busy : List (Option PendingRequest)) (h : IsSeated s document seats busy) where
    abbrev w : RunState
    w = run_state_of s document busy

    at_seat : slice_get busy i ≡ Some None
    at_seat = free_there (slice_get busy i) (sym (there busy seats i h.same) ∙ free)

    goes : (c : Chance) → line_done w n c action ≡ Some (sent w n c mode i m)
    goes c = rw at_seat refl

    -- a message that was read asks for this
    reads : (c : Chance) (r : Request) (left : Bool) → r ≡ asks → line_done w n (with_ends c true left) action ≡ Some (asked w n (with_ends c true left) mode i m r)
    reads c r left e = goes (with_ends c true left) ∙ ap Some (read_asks w n c mode i m r left e)

  told_performs : (count : ℕ) (r : Option Request) (done : State × Outcome) (c : Bool → Chance) → ((left : Bool) → RoseBy (disk_faults_in (c left)) disk.before disk.after) → Stays s done → AsksNoTile r
      → ((busy : List (Option PendingRequest)) (h : IsSeated s document seats busy) (left : Bool) → line_done (run_state_of s document busy) n (c left) action ≡ Some (run_state_of done.0 document busy, told_answer s n i m r done.1 left ∷ []))
      → Performs told count count disk s document seats n action done.0 seats (Answers (record { actor = i; start = n; spelling = spelling_of m; outcome = done.1 }))
  told_performs count r done c faults stays other made busy h = (
    busy,
    h.same,
    record {
      message = m;
      request = r;
      place = length s.history;
      open_after = open_after;
      spelling = refl;
      chance = c;
      made = made busy h;
      faults = faults;
      keeps = λ left. told_keeps told count s done.0 document busy n i m r done.1 left stays other;
    },
  )

  pub unread_performs : (count : ℕ) → disk.before ≤ disk.after → Performs told count count disk s document seats n action s seats (Answers (record { actor = i; start = n; spelling = spelling_of m; outcome = outcome.Plain plain.NoMemory }))
  unread_performs count later = told_performs count None (s, outcome.Plain plain.NoMemory) (λ left. with_ends calm false left) (λ left. omega arith) (same_stays s (outcome.Plain plain.NoMemory) refl) tt (λ busy h left. goes busy h (with_ends calm false left))

  immediate_performs : (count : ℕ) (r : Request) (o : Outcome) (t : State) → r ≡ asks → IsImmediate disk.before disk.after s r o t → Performs told count count disk s document seats n action t seats (Answers (record { actor = i; start = n; spelling = spelling_of m; outcome = o }))
  immediate_performs count r o t e k =
      let d = immediate_told disk s r o t k in
      told_performs count (Some r) (t, o) (λ left. with_ends d.chance true left) (λ left. d.faults) d.stays d.other (λ busy h left. reads busy h d.chance r left e ∙ ap Some (d.made document busy n mode i m left))

  tile_performs : (before after : ℕ) (a : Address) (step : Step) (t : State) → request.Tile a ≡ asks → BeginsByLine told before after disk.before disk.after s a mode step t
      → Performs told before after disk s document seats n action t (slice_set seats i (next_seat n (spelling_of m) a step.actor step.outcome)) (action_end_of i n (spelling_of m) step.outcome)
  tile_performs before after a step t e o busy h =
      let v : RunState = run_state_of s document busy in
      let b : PendingRequest = started v n m a in
      let made : (l : Bool) → line_done v n (with_ends o.chance true l) action ≡ Some (settled v n (with_ends o.chance true l) i b (shown step t)) =
      λ l.
      let c = with_ends o.chance true l in
      reads busy h o.chance (request.Tile a) l e ∙ ap (λ r. Some (settled v n c i b r)) (sym (same_events mode s a o.chance true l) ∙ sym o.made) in (
        slice_set busy i (seat_after b step.actor step.outcome),
        set_seats busy seats i b step.actor step.outcome h.same,
        settled_ends told before after disk s t actor.Idle b step o.moves document busy i None (at_seat busy h) refl (λ x. tt) n action open_after (λ l. with_ends o.chance true l) (λ l. refl) (λ l. o.disk_cause) made step.outcome refl,
      )

  pub asked_performs : (before after : ℕ) (t : State) (seats' : List ActorPlace) (end : ActionEnd) (r : Request) → r ≡ asks → IsAsked told before after disk s seats n mode i (spelling_of m) r t seats' end → Performs told before after disk s document seats n action t seats' end
  asked_performs before after t seats' end r e (inl k) = rw (k.4, k.5) (tile_performs before after k.0 k.1 t (sym k.2 ∙ e) k.3)
  asked_performs before after t seats' end r e (inr k) = rw (k.2, k.3, k.4) (immediate_performs before r k.0 t e k.1)

-- A STEP

stepped_by : (told : Option ℕ) (before after : ℕ) (disk : FaultCounts) (s t : State) (document : List ℕ) (seats : List ActorPlace) (n i : ℕ) (b : PendingRequest) (step : Step) (busy : List (Option PendingRequest)) → IsSeated s document seats busy → slice_get busy i ≡ Some (Some b) → Advances told before after disk.before disk.after s b.actor step t
    → (later : List (Option PendingRequest)) × (map seat_of later ≡ slice_set seats i (next_seat b.start (spelling_of b.message) b.address step.actor step.outcome)) × ActionEnds told before after disk (run_state_of s document busy) n (Some (Steps i)) (run_state_of t document later) (action_end_of i b.start (spelling_of b.message) step.outcome)
stepped_by told before after disk s t document seats n i b step busy k at h =
    let v : RunState = run_state_of s document busy in
    let busily : IsPending s.catalogue s.history b = one_of_all (IsSeat s.catalogue s.history) busy i (Some b) at k.world in
    let r : PendingRequest = resumed v b in
    let moves : MovesRequest told before after s b.actor r.address r.place step t = advance_moves told before after disk.before disk.after s b.actor b.address b.place step t busily.fits busily.busy busily.within busily.fresh h in
    let c : Bool → Chance = λ l. record { read = true; ask = true; moment = h.moment; unread = h.unread; work = h.left; bytes = h.bytes; unwritten = h.unwritten; left = l } in
    let made : (l : Bool) → line_done v n (c l) (Some (Steps i)) ≡ Some (settled v n (c l) i r (shown step t)) = λ l. rw at (ap (λ x. Some (settled v n (c l) i r x)) (sym h.advanced)) in (
      slice_set busy i (seat_after r step.actor step.outcome),
      set_seats busy seats i r step.actor step.outcome k.same,
      settled_ends told before after disk s t b.actor r step moves document busy i (Some b) at refl (λ x. x) n (Some (Steps i)) busily.open_after c (λ l. refl) (λ l. h.disk_cause) made step.outcome refl,
    )

pub stepped_performs : (told : Option ℕ) (before after : ℕ) (disk : FaultCounts) (s t : State) (document : List ℕ) (seats : List ActorPlace) (n i : ℕ) (pending : Pending) (step : Step) → pending_at (slice_get seats i) ≡ Some pending → Advances told before after disk.before disk.after s pending.actor step t
    → Performs told before after disk s document seats n (Some (Steps i)) t (slice_set seats i (next_seat pending.start pending.spelling pending.address step.actor step.outcome)) (action_end_of i pending.start pending.spelling step.outcome)
stepped_performs told before after disk s t document seats n i pending step is h busy k =
    let found = pending_there (slice_get busy i) pending (rw (sym (there busy seats i k.same)) is) in
    let P : Pending → Type 0 = λ d.
    Advances told before after disk.before disk.after s d.actor step t
    → (later : List (Option PendingRequest)) × (map seat_of later ≡ slice_set seats i (next_seat d.start d.spelling d.address step.actor step.outcome)) × ActionEnds told before after disk (run_state_of s document busy) n (Some (Steps i)) (run_state_of t document later) (action_end_of i d.start d.spelling step.outcome) in
    subst P (sym found.2) (λ g. stepped_by told before after disk s t document seats n i found.0 step busy k found.1 g) h

-- the pending request of a busy actor has a next event
pub pending_fits : (s : State) (document : List ℕ) (seats : List ActorPlace) (i : ℕ) (pending : Pending) (x : Actor) (busy : List (Option PendingRequest)) → IsSeated s document seats busy → pending_at (slice_get seats i) ≡ Some pending → x ≡ pending.actor
    → (IsIdle x → ⊥) × ((a : Address) × IsFit s.catalogue a x)
pending_fits s document seats i pending x busy k is e =
    let found = pending_there (slice_get busy i) pending (rw (sym (there busy seats i k.same)) is) in
    let b = found.0 in
    let busily : IsPending s.catalogue s.history b = one_of_all (IsSeat s.catalogue s.history) busy i (Some b) found.1 k.world in
    let actor : x ≡ b.actor = e ∙ ap (λ d. d.actor) found.2 in
    let Idle : Actor → Type 0 = IsIdle in
    (λ idle. busily.busy (subst Idle actor idle), (b.address, rw actor busily.fits))

pending_is_there : (o : Option ActorPlace) (pending : Pending) → pending_at o ≡ Some pending → o ≡ Some (seat.Busy pending)
pending_is_there None pending e = let f : None ≡ Some pending = e in cc
pending_is_there (Some seat.Free) pending e = let f : None ≡ Some pending = e in cc
pending_is_there (Some (seat.Busy d)) pending e = cc

pub pending_within : (seats : List ActorPlace) (i : ℕ) (pending : Pending) → pending_at (slice_get seats i) ≡ Some pending → i < length seats
pending_within seats i pending e = slice_get_within seats i (seat.Busy pending) (pending_is_there (slice_get seats i) pending e)

pub set_there : (seats : List ActorPlace) (i : ℕ) (x : ActorPlace) → i < length seats → slice_get (slice_set seats i x) i ≡ Some x
set_there [] i x l = absurd (omega arith)
set_there (y ∷ ys) zero x l = refl
set_there (y ∷ ys) (suc i) x l = set_there ys i x (omega arith)
