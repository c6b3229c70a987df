-- A get of a thread that has a cabinet for itself is the run of its events.
use Rattle.std.proofs.Common.{◌≡◌, ◌≤◌, ℕ, Bool, true, false, List, [], ◌∷◌, ◌++◌, Option, Some, None, Result, Ok, Err, inl, inr, refl, sym, ap, ◌∙◌, subst}
use Rattle.std.specs.Prelude.{IfErr, ◌⊎◌}
use Rattle.cabinet.specs.declared.replies.Asked.TheVariants as asked
use Rattle.cabinet.specs.State.{IsSound, fronted, now}
use Rattle.cabinet_chest.specs.declared.shown.Note.{Note}
use Rattle.cabinet_chest.specs.declared.shown.Shown.{Shown}
use Rattle.cache_access.specs.Alone.{AreSteps, IsAtRest}
use Rattle.cache_access.specs.declared.fault.GetFault.{GetFault}
use Rattle.cache_access.specs.declared.fault.GetFault.TheVariants.{OutOfMemory, SourceFault, Spent}
use Rattle.cache_access.specs.Gets.{HasAbandoned, HasGot, HasMetSpent, IsFromKept, IsFromRender, IsGot}
use Rattle.cache_access.specs.Waits.{AreBusyAsks, IsAsk}
use Rattle.cache_core.specs.declared.outcome.Tile.{Tile}
use Rattle.cache_core.specs.declared.outcome.TileOutcome.{TileOutcome}
use Rattle.cache_core.specs.declared.outcome.TileOutcome.TheVariants as outcome
use Rattle.cache_core.specs.Fits.{IsTrueOutcome}
use Rattle.cache_core.specs.Steps.{tile_at}
use Rattle.catalog.specs.declared.catalogue.Catalogue.{Catalogue}
use Rattle.catalog.specs.LookUp.{IsTile}
use Rattle.base.specs.Causes.{Rose}
use Rattle.matrix_geometry.specs.declared.address.Address.{Address}
use Rattle.metatile_locks.specs.Tickets.{Ticketed}
use Rattle.raster_field.specs.Blocks.{blob_size, tile_part}
use Rattle.turnstile.specs.declared.view.Made.{Made}
use Rattle.tile_requests.specs.declared.request.Mode.TheVariants.{Gets}
use Rattle.tile_requests.specs.Events.{BeginsByLine, RunsTo, ended_by, ended_so}
use Rattle.tile_requests.proofs.LoneTurns.{HasTicket, asked_hit, asked_spent, asked_ticket, at_once, begins_not, busy_never, failed_runs, rendered_runs, starved_runs}
use Rattle.tile_requests.proofs.Opening.{opens_gets}

-- A GET: no ask finds a render that runs

module _ (x y : Shown) (a : Address) (tile : IsTile x.state.catalogue a) (rest : IsAtRest x.state) where
  abbrev c : Catalogue
  c = x.state.catalogue

  none_busy : (busy : List (Made Note)) (ask : Made Note) (ends : List (Made Note)) → AreBusyAsks a busy → AreSteps c x (busy ++ ask ∷ ends) y → AreSteps c x (ask ∷ ends) y
  none_busy [] ask ends waited steps = steps
  none_busy (m ∷ busy) ask ends waited steps = absurd (busy_never x a tile m steps.0 waited.0.0 rest waited.0.1)

  no_turn : (gained : List (Made Note)) → AreBusyAsks a gained → AreSteps c x gained y → (y.state ≡ x.state) × (x.faults ≤ y.faults)
  no_turn [] waited steps = steps
  no_turn (m ∷ busy) waited steps = absurd (busy_never x a tile m steps.0 waited.0.0 rest waited.0.1)

  steps_of : (gained busy : List (Made Note)) (ask : Made Note) (ends : List (Made Note)) → gained ≡ busy ++ ask ∷ ends → AreBusyAsks a busy → AreSteps c x gained y → AreSteps c x (ask ∷ ends) y
  steps_of gained busy ask ends all waited steps = none_busy busy ask ends waited (subst (λ (ms : List (Made Note)). AreSteps c x ms y) all steps)

  module _ (before after : ℕ) (later : before ≤ after) where
    abbrev Runs : TileOutcome → Type 0
    Runs o = RunsTo before after x.faults y.faults x.state a false o y.state

    kept_runs : (tile : Tile) (ask : Made Note) (ends : List (Made Note)) → IsFromKept a ask ends tile → AreSteps c x (ask ∷ ends) y → Runs (outcome.Tile tile)
    kept_runs got ask ends h steps =
        let one = subst (λ (ms : List (Made Note)). AreSteps c x (ask ∷ ms) y) h.nothing steps in
        let is : tile_at true got.number got.bytes ≡ got = ap (λ (b : Bool). tile_at b got.number got.bytes) (sym h.hit) in
        subst (λ (k : Tile). Runs (outcome.Tile k)) is
        (at_once before after later x.faults y.faults x.state y.state a false (outcome.Tile (tile_at true got.number got.bytes)) (asked_hit x a tile ask one.0 y.state y.faults one.1.0 one.1.1 got.number got.bytes h.answer))

    ticket_of : (k : Ticketed) (ask : Made Note) (ends : List (Made Note)) → IsAsk a (asked.Ticket k) ask → AreSteps c x (ask ∷ ends) y → HasTicket x.faults ask.note.after.faults x.state a false k ask.note.after.state
    ticket_of k ask ends is steps = asked_ticket x a tile ask steps.0 k is

    render_runs : (tile : Tile) (ask : Made Note) (ends : List (Made Note)) → IsFromRender c a ask ends tile → AreSteps c x (ask ∷ ends) y → Runs (outcome.Tile tile)
    render_runs got ask ends h steps =
        let two = subst (λ (ms : List (Made Note)). AreSteps c x (ask ∷ ms) y) h.one steps in
        let has = ticket_of h.ticket ask (h.end ∷ []) h.answer two in
        let is : tile_at false h.ticket.number got.bytes ≡ got = ap (λ (b : Bool). tile_at b h.ticket.number got.bytes) (sym h.miss) ∙ ap (λ (n : ℕ). tile_at got.hit n got.bytes) (sym h.number) in
        subst (λ (k : Tile). Runs (outcome.Tile k)) is
        (rendered_runs before after later c x.faults x.state ask.note.after y a false h.ticket has h.end two.1.0 two.1.1.0 two.1.1.1 h.blob got.bytes
        (h.long ∙ ap (λ (d : Catalogue). blob_size d h.ticket.meta) (sym has.same)) (h.part ∙ ap (λ (d : Catalogue). tile_part d a h.blob) (sym has.same)) h.handed)

    got_runs : (Sound : Type 0) (gained : List (Made Note)) (got : Tile) → HasGot c Sound a (fronted (now x.state)) gained got → AreSteps c x gained y → Runs (outcome.Tile got)
    got_runs Sound gained got h steps = from_one h.from
      where
        turns : AreSteps c x (h.ask ∷ h.ends) y
        turns = steps_of gained h.busy h.ask h.ends h.all h.waited steps

        from_one : IsFromKept a h.ask h.ends got ⊎ IsFromRender c a h.ask h.ends got → Runs (outcome.Tile got)
        from_one (inl kept) = kept_runs got h.ask h.ends kept turns
        from_one (inr render) = render_runs got h.ask h.ends render turns

    spent_runs : (gained : List (Made Note)) → HasMetSpent a gained → AreSteps c x gained y → Runs outcome.Spent
    spent_runs gained h steps =
        let one = steps_of gained h.busy h.ask [] h.all h.waited steps in
        at_once before after later x.faults y.faults x.state y.state a false outcome.Spent (asked_spent x a tile h.ask one.0 y.state y.faults one.1.0 one.1.1 h.answer)

    none_runs : (gained : List (Made Note)) → AreBusyAsks a gained → AreSteps c x gained y → Runs outcome.NoMemory
    none_runs gained waited steps =
        let none = no_turn gained waited steps in
        at_once before after later x.faults y.faults x.state y.state a false outcome.NoMemory (begins_not x.faults y.faults x.state y.state a false none.1 tile none.0)

    module _ (gained : List (Made Note)) (h : HasAbandoned a gained) (steps : AreSteps c x gained y) where
      turns : AreSteps c x (h.ask ∷ h.end ∷ []) y
      turns = steps_of gained h.busy h.ask (h.end ∷ []) h.all h.waited steps

      given : HasTicket x.faults h.ask.note.after.faults x.state a false h.ticket h.ask.note.after.state
      given = ticket_of h.ticket h.ask (h.end ∷ []) h.answer turns

      failed : Rose before after → Runs outcome.SourceFailed
      failed rose = failed_runs before after later c x.faults x.state h.ask.note.after y a false h.ticket given h.end turns.1.0 turns.1.1.0 turns.1.1.1 rose h.ended

      starved : Runs outcome.NoMemory
      starved = starved_runs before after later c x.faults x.state h.ask.note.after y a false h.ticket given h.end turns.1.0 turns.1.1.0 turns.1.1.1 h.ended

    pub get_runs : (Sound : Type 0) (gained : List (Made Note)) (result : Result Tile GetFault) → AreSteps c x gained y → IsGot c Sound a (fronted (now x.state)) gained result
        → IfErr result (λ e. e ≡ SourceFault → Rose before after) → Runs (ended_by result)
    get_runs Sound gained (Ok got) steps h cause = got_runs Sound gained got h steps
    get_runs Sound gained (Err SourceFault) steps h cause = failed gained h steps (cause refl)
    get_runs Sound gained (Err Spent) steps h cause = spent_runs gained h steps
    get_runs Sound gained (Err OutOfMemory) steps (inl none) cause = none_runs gained none steps
    get_runs Sound gained (Err OutOfMemory) steps (inr h) cause = starved gained h steps

-- what a get came to is true, if what a modelled source renders is
got_true : (c : Catalogue) (Sound : Type 0) (a : Address) (x : Shown) (gained : List (Made Note)) (result : Result Tile GetFault) → IsGot c Sound a (fronted (now x.state)) gained result → Sound → IsTrueOutcome c a (Some (ended_by result))
got_true c Sound a x gained (Ok got) h sound = h.truth sound
got_true c Sound a x gained (Err SourceFault) h sound = tt
got_true c Sound a x gained (Err Spent) h sound = tt
got_true c Sound a x gained (Err OutOfMemory) h sound = tt

-- THE LINE THAT GETS A TILE

pub get_opens : (told : Option ℕ) (x y : Shown) (a : Address) (before after : ℕ) (gained : List (Made Note)) (result : Result Tile GetFault) → IsTile x.state.catalogue a → IsAtRest x.state → AreSteps x.state.catalogue x gained y
    → IsGot x.state.catalogue (IsSound x.state × (told ≡ Some x.state.catalogue.source)) a (fronted (now x.state)) gained result → before ≤ after → IfErr result (λ e. e ≡ SourceFault → Rose before after)
    → (told ≡ Some x.state.catalogue.source → IsSound x.state → IsSound y.state) → BeginsByLine told before after x.faults y.faults x.state a Gets (ended_so (ended_by result)) y.state
get_opens told x y a before after gained result tile rest steps got later cause still =
    let Sound = IsSound x.state × (told ≡ Some x.state.catalogue.source) in
    let r = get_runs x y a tile rest before after later Sound gained result steps got cause in
    let o = opens_gets None None before r.mid after x.faults r.disk_asked r.disk_mid y.faults x.state r.at_ask r.at_render y.state a Gets r.asked r.rendered (ended_so (ended_by result)) refl r.begins r.renders refl r.ends in
    let m = o.moves in
    record {
      chance = o.chance;
      made = o.made;
      disk_later = o.disk_later;
      disk_cause = o.disk_cause;
      moves = record {
        fits = m.fits;
        goes_on = m.goes_on;
        later = m.later;
        failed = m.failed;
        sound = λ tells is held. still tells is;
        held = λ tells is held. tt;
        truth = λ tells is held. got_true x.state.catalogue Sound a x gained result got (is, tells);
        within = m.within;
        held_fresh = m.held_fresh;
        fresh = m.fresh;
        grows = m.grows;
        catalogue = m.catalogue;
      };
    }
