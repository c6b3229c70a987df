-- The turns of a thread that has a cabinet for itself, as the events of a request: an ask or a force, a render, and the end of the render.
use Rattle.std.proofs.Common.{◌≡◌, ◌≤◌, ℕ, Bool, true, false, List, [], length, Option, Some, None, inl, inr, refl, sym, ap, ◌∙◌, subst, append-nil, arith}
use Rattle.std.specs.Prelude.{IsSome}
use Rattle.cabinet.specs.Commands.{Abandons, Asks, Finishes, Forces, IsFreshForced, IsFreshReply, IsTrueHit, IsUnread}
use Rattle.cabinet.specs.declared.entry.HistoryEntry.TheVariants as entry
use Rattle.cabinet.specs.declared.replies.Asked.{Asked}
use Rattle.cabinet.specs.declared.replies.Asked.TheVariants as asked
use Rattle.cabinet.specs.declared.replies.Forced.{Forced}
use Rattle.cabinet.specs.declared.replies.Forced.TheVariants as forced
use Rattle.cabinet.specs.State.{IsSound, State, asked_at, with_entry}
use Rattle.cabinet_chest.specs.declared.command.Command.{Command}
use Rattle.cabinet_chest.specs.declared.command.Command.TheVariants as command
use Rattle.cabinet_chest.specs.declared.shown.Note.{Note}
use Rattle.cabinet_chest.specs.declared.shown.Shown.{Shown}
use Rattle.cabinet_chest.specs.Replies.{IsAnswered, IsForcedAnswered, IsReplyTo}
use Rattle.cache_access.specs.Alone.{IsAtRest, IsStep}
use Rattle.cache_access.specs.Gets.{IsAbandon, IsFinish}
use Rattle.cache_access.specs.Stepping.{unsure}
use Rattle.cache_access.specs.Waits.{IsAsk, IsForce}
use Rattle.cache_access.proofs.Asked.{answered_by, forced_by}
use Rattle.cache_access.proofs.Resting.{ask_settles, force_settles}
use Rattle.cache_core.specs.declared.actor.Actor.{Actor}
use Rattle.cache_core.specs.declared.actor.Actor.TheVariants.{Failed, Holding, Rendered}
use Rattle.cache_core.specs.declared.actor.Step.{Step}
use Rattle.cache_core.specs.declared.outcome.TileOutcome.{TileOutcome}
use Rattle.cache_core.specs.declared.outcome.TileOutcome.TheVariants as outcome
use Rattle.cache_core.specs.Advanced.{Advances}
use Rattle.cache_core.specs.Begun.{Begins}
use Rattle.cache_core.specs.Fits.{ExtendsHistory, IsFit, IsFreshActor, IsFreshOutcome, place_of}
use Rattle.cache_core.specs.Steps.{advanced, disk_faults, ends, off, tile_at}
use Rattle.cache_core.specs.Steps as steps
use Rattle.cache_core.proofs.Beginnings.{hit_asked, spent_asked, spent_forced, ticket_asked, ticket_forced}
use Rattle.cache_core.proofs.Endings.{abandons_catalogue, abandons_grow, extends_fresh, failed_on, finish_cause, finishes_catalogue, finishes_grow, finishes_is, painted_on, went_unwritten}
use Rattle.catalog.specs.declared.catalogue.Catalogue.{Catalogue}
use Rattle.catalog.specs.LookUp.{IsTile}
use Rattle.base.specs.Causes.{Rose, RoseBy}
use Rattle.matrix_geometry.specs.declared.address.Address.{Address}
use Rattle.metatile_locks.specs.declared.render.Render.{Render}
use Rattle.metatile_locks.specs.Tickets.{Ticketed}
use Rattle.metatile_plan.specs.declared.metatile.MetaKey.{MetaKey}
use Rattle.raster_field.specs.Blocks.{blob_size, block_of, tile_part}
use Rattle.turnstile.specs.declared.view.Made.{Made}
use Rattle.tile_requests.specs.Events.{GoesFurther, RunsTo, ended_so}

-- ROWS between states that are the same, and counts that lie further apart

between : (P : State → State → Type 0) (s t u v : State) → u ≡ s → t ≡ v → P u v → P s t
between P s t u v e f h = subst (λ (w : State). P s w) (sym f) (subst (λ (w : State). P w v) e h)

unread_wider : (b before after a : ℕ) (s : State) (x : Address) → b ≤ before → after ≤ a → IsUnread before after s x → IsUnread b a s x
unread_wider b before after a s x l m (inl unkept) = inl unkept
unread_wider b before after a s x l m (inr rose) = inr (omega (arith, l, m, rose))

asks_wider : (b before after a : ℕ) (s t : State) (x : Address) (r : Asked) → b ≤ before → after ≤ a → Asks before after s x r t → Asks b a s x r t
asks_wider b before after a s t x (asked.Hit k bytes) l m row = row
asks_wider b before after a s t x (asked.Busy k) l m row = (unread_wider b before after a (asked_at t.clock.moment s) x l m row.0, row.1)
asks_wider b before after a s t x asked.Spent l m row = (unread_wider b before after a (asked_at t.clock.moment s) x l m row.0, row.1)
asks_wider b before after a s t x (asked.Ticket k) l m row = (unread_wider b before after a (asked_at t.clock.moment s) x l m row.0, row.1)

-- THE ASK OR THE FORCE

-- the actor holds the ticket that it was given for the tile
abbrev pub holding : Ticketed → Address → Step
holding k a = record { actor = Holding k a; outcome = None }

-- a request begins with this ticket, and leads to u
pub record HasTicket (before after : ℕ) (s : State) (a : Address) (force : Bool) (k : Ticketed) (u : State) : Type 0 where
  pub begins : Begins before after s a force (holding k a) u
  pub tile : IsTile u.catalogue a
  pub meta : k.meta ≡ block_of u.catalogue a
  pub same : u.catalogue ≡ s.catalogue

module _ (x : Shown) (a : Address) (tile : IsTile x.state.catalogue a) (m : Made Note) (step : IsStep x.state.catalogue x m) where
  abbrev c : Catalogue
  c = x.state.catalogue

  abbrev left : State
  left = m.note.after.state

  stays : left.catalogue ≡ c
  stays = (unsure c x m step).goes_on.same_catalogue ∙ (unsure c x m step).catalogue

  later : x.faults ≤ m.note.after.faults
  later = let l = step.later in let n = (unsure c x m step).later in omega arith

  answered : (r : Asked) → IsAsk a r m → IsAnswered c false m.note.before m.note.after a r
  answered r is = answered_by c false m.note.before m.note.after a r m.note.command m.note.reply is.command is.reply (unsure c x m step)

  row_of : (r : Asked) → IsAsk a r m → Asks x.faults m.note.after.faults x.state a r left
  row_of r is =
      between (λ (u v : State). Asks x.faults m.note.after.faults u a r v) x.state left m.note.before.state left step.state refl
      (asks_wider x.faults m.note.before.faults m.note.after.faults m.note.after.faults m.note.before.state left a r step.later (omega arith) (answered r is).row)

  fresh_of : (r : Asked) → IsAsk a r m → IsFreshReply x.state a r left
  fresh_of r is = subst (λ (u : State). IsFreshReply u a r left) step.state (answered r is).fresh

  true_of : (r : Asked) → IsAsk a r m → IsSound x.state → IsTrueHit c a r
  true_of r is sound = (answered_by c true m.note.before m.note.after a r m.note.command m.note.reply is.command is.reply (step.reply true (λ e. subst IsSound (sym step.state) sound))).truth refl

  pub busy_never : (k : ℕ) → IsAtRest x.state → IsAsk a (asked.Busy k) m → ⊥
  busy_never k rest is = ask_settles x.state left rest x.faults m.note.after.faults a (asked.Busy k) (row_of (asked.Busy k) is)

  pub asked_ticket : (k : Ticketed) → IsAsk a (asked.Ticket k) m → HasTicket x.faults m.note.after.faults x.state a false k left
  asked_ticket k is =
      let row = row_of (asked.Ticket k) is in
      record {
        begins = ticket_asked x.faults m.note.after.faults later x.state left left.clock.moment a k (holding k a) tile row.1 refl refl (fresh_of (asked.Ticket k) is) row.0;
        tile = subst (λ (d : Catalogue). IsTile d a) (sym stays) tile;
        meta = row.1.meta ∙ ap (λ (d : Catalogue). block_of d a) (sym stays);
        same = stays;
      }

  pub asked_spent : (t : State) (faults : ℕ) → t ≡ left → m.note.after.faults ≤ faults → IsAsk a asked.Spent m → Begins x.faults faults x.state a false (ended_so outcome.Spent) t
  asked_spent t faults e l is =
      let row = between (λ (u v : State). Asks x.faults faults u a asked.Spent v) x.state t x.state left refl e (asks_wider x.faults x.faults m.note.after.faults faults x.state left a asked.Spent (omega arith) l (row_of asked.Spent is)) in
      let k = later in
      spent_asked x.faults faults (omega arith) x.state t t.clock.moment a (ended_so outcome.Spent) tile row.0 row.1 refl refl

  pub asked_hit : (t : State) (faults : ℕ) → t ≡ left → m.note.after.faults ≤ faults → (k : ℕ) (bytes : List ℕ) → IsAsk a (asked.Hit k bytes) m → Begins x.faults faults x.state a false (ended_so (outcome.Tile (tile_at true k bytes))) t
  asked_hit t faults e l k bytes is =
      let r = asked.Hit k bytes in
      let row = between (λ (u v : State). Asks x.faults faults u a r v) x.state t x.state left refl e (row_of r is) in
      let fresh = subst (λ (v : State). IsFreshReply x.state a r v) (sym e) (fresh_of r is) in
      let n = later in
      hit_asked x.faults faults (omega arith) x.state t t.clock.moment a k bytes (ended_so (outcome.Tile (tile_at true k bytes))) tile row refl refl (true_of r is) fresh

  -- WITH FORCE, for the tile's metatile

  module _ (meta : MetaKey) (its : meta ≡ block_of c a) where
    forced_answer : (r : Forced) → IsForce meta r m → IsForcedAnswered c m.note.before m.note.after meta r
    forced_answer r is = forced_by c false m.note.before m.note.after meta r m.note.command m.note.reply is.command is.reply (unsure c x m step)

    forced_row : (r : Forced) → IsForce meta r m → Forces x.state (block_of c a) r left
    forced_row r is = subst (λ (k : MetaKey). Forces x.state k r left) its (subst (λ (u : State). Forces u meta r left) step.state (forced_answer r is).row)

    pub force_never_busy : (k : ℕ) → IsAtRest x.state → IsForce meta (forced.Busy k) m → ⊥
    force_never_busy k rest is = force_settles x.state left rest (block_of c a) (forced.Busy k) (forced_row (forced.Busy k) is)

    pub forced_ticket : (k : Ticketed) → IsForce meta (forced.Ticket k) m → HasTicket x.faults m.note.after.faults x.state a true k left
    forced_ticket k is =
        let r = forced.Ticket k in
        let row = forced_row r is in
        let fresh = subst (λ (u : State). IsFreshForced u a r left) step.state ((forced_answer r is).fresh a tile its) in
        record {
          begins = ticket_forced x.faults m.note.after.faults later x.state left left.clock.moment a k (holding k a) tile row refl refl fresh;
          tile = subst (λ (d : Catalogue). IsTile d a) (sym stays) tile;
          meta = row.meta ∙ ap (λ (d : Catalogue). block_of d a) (sym stays);
          same = stays;
        }

    pub forced_spent : (t : State) (faults : ℕ) → t ≡ left → m.note.after.faults ≤ faults → IsForce meta forced.Spent m → Begins x.faults faults x.state a true (ended_so outcome.Spent) t
    forced_spent t faults e l is =
        let row = subst (λ (v : State). Forces x.state (block_of c a) forced.Spent v) (sym e) (forced_row forced.Spent is) in
        let k = later in
        spent_forced x.faults faults (omega arith) x.state t t.clock.moment a (ended_so outcome.Spent) tile row refl refl

-- memory ran out at the ask or the force
pub begins_not : (before after : ℕ) (s t : State) (a : Address) (force : Bool) → before ≤ after → IsTile s.catalogue a → t ≡ s → Begins before after s a force (ended_so outcome.NoMemory) t
begins_not before after s t a force later tile same = record {
  left = false;
  moment = 0;
  unread = false;
  bytes = None;
  began = ap (λ (u : State). ends u outcome.NoMemory) same;
  later = later;
  cause = omega arith;
  fits = record { tile = tile; work = tt };
  actor = tt;
  not_failed = λ f. f;
  sound = λ sound. subst IsSound (sym same) sound;
  truth = λ sound. tt;
  held_fresh = tt;
  fresh = tt;
  grows = ([], ap (λ (u : State). u.history) same ∙ sym (append-nil s.history));
  catalogue = ap (λ (u : State). u.catalogue) same;
}

-- THE END

-- the last event, of which nothing is said of a modelled source
ending : (before after disk_before disk_after : ℕ) → before ≤ after → disk_before ≤ disk_after → (s t : State) (actor : Actor) (o : TileOutcome) (left unwritten : Bool)
    → RoseBy (disk_faults false unwritten) disk_before disk_after → ends t o ≡ advanced s actor left 0 false None unwritten → ExtendsHistory s.history t.history → t.catalogue ≡ s.catalogue
    → ((a : Address) (p : ℕ) → p ≤ length s.history → IsFreshActor s.catalogue s.history p a actor → IsFreshOutcome s.catalogue t.history (place_of actor (length s.history) p) a (Some o))
    → Advances None before after disk_before disk_after s actor (ended_so o) t
ending before after disk_before disk_after later disk_later s t actor o left unwritten cause is grows same fresh = record {
  left = left;
  moment = 0;
  unread = false;
  bytes = None;
  unwritten = unwritten;
  advanced = is;
  fits = λ a fit. record { tile = fit.tile; work = tt };
  later = later;
  cause = λ f. absurd f;
  disk_later = disk_later;
  disk_cause = cause;
  sound = λ h. absurd (cc);
  held = λ h. absurd (cc);
  truth = λ a fit h. absurd (cc);
  held_fresh = λ a p fit within young. tt;
  fresh = λ a p fit within young. fresh a p within young;
  grows = grows;
  catalogue = same;
}

rose_wider : (n b before after a : ℕ) → b ≤ before → after ≤ a → RoseBy n before after → RoseBy n b a
rose_wider n b before after a l m rose = omega (arith, l, m, rose)

off_is : (s : State) (k : Ticketed) (o : Option Render) → IsSome o → off s k o ≡ with_entry s (entry.Ended k.number)
off_is s k None is = let f : false ≡ true = is in cc
off_is s k (Some r) is = refl

abandons_is : (s t : State) (k : Ticketed) → Abandons s k t → t ≡ steps.abandoned s k
abandons_is s t k (inl row) = row.1 ∙ sym (ap (off s k) row.0)
abandons_is s t k (inr row) = row.1 ∙ sym (off_is s k _ row.0)

-- the turn at which a render ends, behind a state and a count, and before others
module _ (c : Catalogue) (q y : Shown) (m : Made Note) (step : IsStep c q m) (left : y.state ≡ m.note.after.state) (last : m.note.after.faults ≤ y.faults) where
  abbrev u : State
  u = q.state

  abbrev t : State
  t = y.state

  later_yet : q.faults ≤ y.faults
  later_yet = let l = step.later in let n = (unsure c q m step).later in omega arith

  answer_to : (does : Command) → m.note.command ≡ does → IsReplyTo c false m.note.before m.note.after does m.note.reply
  answer_to does is = subst (λ (d : Command). IsReplyTo c false m.note.before m.note.after d m.note.reply) is (unsure c q m step).answer

  pub finishes : (k : Ticketed) (blob bytes : List ℕ) (n : ℕ) → IsFinish k blob m → Advances None n n q.faults y.faults u (Rendered k blob (tile_at false k.number bytes)) (ended_so (outcome.Tile (tile_at false k.number bytes))) t
  finishes k blob bytes n is =
      let did = answer_to (command.Finish k blob) is in
      let r = did.0 in
      let row : Finishes u k blob r t = between (λ (v w : State). Finishes v k blob r w) u t m.note.before.state m.note.after.state step.state left did.2 in
      let cause = finish_cause m.note.before.faults m.note.after.faults m.note.before.state m.note.after.state k blob r (unsure c q m step).later did.2 did.3 in
      let o = outcome.Tile (tile_at false k.number bytes) in
      ending n n q.faults y.faults (omega arith) later_yet u t (Rendered k blob (tile_at false k.number bytes)) o true (went_unwritten r)
      (rose_wider _ q.faults m.note.before.faults m.note.after.faults y.faults step.later last cause)
      (ap (λ (v : State). ends v o) (finishes_is u t k blob r row)) (finishes_grow u t k blob r row) (finishes_catalogue u t k blob r row)
      (λ a p within young. extends_fresh u.catalogue u.history t.history p a k.number (finishes_grow u t k blob r row) within young)

  row_off : (k : Ticketed) → IsAbandon k m → Abandons u k t
  row_off k is = between (λ (v w : State). Abandons v k w) u t m.note.before.state m.note.after.state step.state left (answer_to (command.Abandon k) is).1

  none_named : RoseBy (disk_faults false false) q.faults y.faults
  none_named = let l = later_yet in omega arith

  pub gives_back : (k : Ticketed) (n : ℕ) → IsAbandon k m → Advances None n n q.faults y.faults u (Failed k) (ended_so outcome.SourceFailed) t
  gives_back k n is =
      let row = row_off k is in
      ending n n q.faults y.faults (omega arith) later_yet u t (Failed k) outcome.SourceFailed true false none_named
      (ap (λ (v : State). ends v outcome.SourceFailed) (abandons_is u t k row)) (abandons_grow u t k row) (abandons_catalogue u t k row) (λ a p within young. tt)

  pub runs_out : (k : Ticketed) (a : Address) (before after : ℕ) → before ≤ after → IsAbandon k m → Advances None before after q.faults y.faults u (Holding k a) (ended_so outcome.NoMemory) t
  runs_out k a before after later is =
      let row = row_off k is in
      ending before after q.faults y.faults later later_yet u t (Holding k a) outcome.NoMemory false false none_named
      (ap (λ (v : State). ends v outcome.NoMemory) (abandons_is u t k row)) (abandons_grow u t k row) (abandons_catalogue u t k row) (λ a p within young. tt)

-- ALL OF IT

module _ (before after : ℕ) (later : before ≤ after) where
  no_more : (disk : ℕ) (s : State) (o : TileOutcome) → GoesFurther None after after disk disk s (ended_so o) (ended_so o) s
  no_more disk s o = inl (refl, refl, refl, omega arith, omega arith)

  pub at_once : (disk_before disk_after : ℕ) (s t : State) (a : Address) (force : Bool) (o : TileOutcome) → Begins disk_before disk_after s a force (ended_so o) t → RunsTo before after disk_before disk_after s a force o t
  at_once disk_before disk_after s t a force o begins = record {
    asked = ended_so o;
    at_ask = t;
    disk_asked = disk_after;
    begins = begins;
    rendered = ended_so o;
    at_render = t;
    mid = after;
    disk_mid = disk_after;
    renders = inl (refl, refl, refl, later, omega arith);
    ends = no_more disk_after t o;
  }

  -- a ticket was given, by a turn that left this, and one more turn followed
  module _ (c : Catalogue) (disk : ℕ) (s : State) (q y : Shown) (a : Address) (force : Bool) (k : Ticketed) (h : HasTicket disk q.faults s a force k q.state)
      (m : Made Note) (step : IsStep c q m) (left : y.state ≡ m.note.after.state) (last : m.note.after.faults ≤ y.faults) where
    holds : IsFit q.state.catalogue a (Holding k a)
    holds = record { tile = h.tile; work = (refl, h.meta) }

    pub rendered_runs : (blob bytes : List ℕ) → length blob ≡ blob_size q.state.catalogue k.meta → bytes ≡ tile_part q.state.catalogue a blob → IsFinish k blob m
        → RunsTo before after disk y.faults s a force (outcome.Tile (tile_at false k.number bytes)) y.state
    rendered_runs blob bytes long part is = record {
      asked = holding k a;
      at_ask = q.state;
      disk_asked = q.faults;
      begins = h.begins;
      rendered = record { actor = Rendered k blob (tile_at false k.number bytes); outcome = None };
      at_render = q.state;
      mid = after;
      disk_mid = q.faults;
      renders = inr (refl, painted_on None before after q.faults later q.state k a blob bytes (record { actor = Rendered k blob (tile_at false k.number bytes); outcome = None }) holds long part (λ told. absurd (cc)) refl refl);
      ends = inr (refl, finishes c q y m step left last k blob bytes after is);
    }

    pub failed_runs : Rose before after → IsAbandon k m → RunsTo before after disk y.faults s a force outcome.SourceFailed y.state
    failed_runs rose is = record {
      asked = holding k a;
      at_ask = q.state;
      disk_asked = q.faults;
      begins = h.begins;
      rendered = record { actor = Failed k; outcome = None };
      at_render = q.state;
      mid = after;
      disk_mid = q.faults;
      renders = inr (refl, failed_on None before after q.faults later rose q.state k a (record { actor = Failed k; outcome = None }) refl refl);
      ends = inr (refl, gives_back c q y m step left last k after is);
    }

    pub starved_runs : IsAbandon k m → RunsTo before after disk y.faults s a force outcome.NoMemory y.state
    starved_runs is = record {
      asked = holding k a;
      at_ask = q.state;
      disk_asked = q.faults;
      begins = h.begins;
      rendered = ended_so outcome.NoMemory;
      at_render = y.state;
      mid = after;
      disk_mid = y.faults;
      renders = inr (refl, runs_out c q y m step left last k a before after later is);
      ends = no_more y.faults y.state outcome.NoMemory;
    }
