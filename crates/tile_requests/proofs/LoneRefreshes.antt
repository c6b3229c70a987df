-- A refresh of a thread that has a cabinet for itself is the run of its events.
use Rattle.std.proofs.Common.{◌≡◌, ◌≤◌, ◌<◌, ℕ, Bool, true, false, List, [], ◌∷◌, ◌++◌, Option, Some, None, Result, Ok, Err, inl, inr, refl, sym, ap, ◌∙◌, subst}
use Rattle.std.specs.Prelude.{IfErr, IsSomeAnd}
use Rattle.cabinet.specs.declared.replies.Finished.{Finished}
use Rattle.cabinet.specs.State.{fronted, now}
use Rattle.cabinet_chest.specs.declared.shown.Note.{Note}
use Rattle.cabinet_chest.specs.declared.shown.Shown.{Shown}
use Rattle.cache_access.specs.Alone.{AreSteps, IsAtRest, IsStep}
use Rattle.cache_access.specs.declared.fault.GetFault.{GetFault}
use Rattle.cache_access.specs.declared.fault.GetFault.TheVariants.{OutOfMemory, SourceFault, Spent}
use Rattle.cache_access.specs.declared.refreshed.Refreshed.{Refreshed}
use Rattle.cache_access.specs.declared.refreshed.Refreshed.TheVariants.{AlreadyKept, Made as Remade, Unkept}
use Rattle.cache_access.specs.Refreshes.{AreBusyRequests, CameTo, GivesTicket, HasGivenUp, HasMetNoNumber, HasRefreshed, IsLeft, IsRendered, MeetsSpent}
use Rattle.cache_core.specs.declared.outcome.TileOutcome.{TileOutcome}
use Rattle.cache_core.specs.declared.outcome.TileOutcome.TheVariants as outcome
use Rattle.cache_core.specs.Begun.{Begins}
use Rattle.cache_core.specs.Steps.{tile_at}
use Rattle.catalog.specs.declared.catalogue.Catalogue.{Catalogue}
use Rattle.catalog.specs.LookUp.{IsTile, matrix_in}
use Rattle.catalog.specs.Valid.{IsValid}
use Rattle.base.specs.Causes.{Rose}
use Rattle.matrix_geometry.specs.declared.address.Address.{Address}
use Rattle.matrix_geometry.specs.declared.matrix.Matrix.{Matrix}
use Rattle.metatile_locks.specs.Tickets.{Ticketed}
use Rattle.metatile_plan.specs.declared.metatile.MetaKey.{MetaKey}
use Rattle.metatile_plan.specs.Plan.{IsMetaIn}
use Rattle.raster_field.specs.Blocks.{IsMeta, blob_size, block_of, factors_at, first_tile, tile_part}
use Rattle.raster_field.proofs.Firsts.{first_in}
use Rattle.raster_field.proofs.Metas.{its_plan, parts}
use Rattle.turnstile.specs.declared.view.Made.{Made}
use Rattle.tile_requests.specs.Events.{RefreshEndsAs, RunsTo, ended_so}
use Rattle.tile_requests.proofs.LoneTurns.{HasTicket, asked_hit, asked_spent, asked_ticket, at_once, begins_not, busy_never, failed_runs, force_never_busy, forced_spent, forced_ticket, rendered_runs, starved_runs}

-- THE FIRST TILE of a metatile

on_matrix : (c : Catalogue) (m : MetaKey) (o : Option Matrix) → IsSomeAnd o (λ x. IsMetaIn (factors_at c m.theme) x m) → IsSomeAnd o (λ x. ((first_tile c m).row < x.rows) × ((first_tile c m).col < x.cols))
on_matrix c m None is = is
on_matrix c m (Some x) is = (is.row, is.col)

first_is_tile : (c : Catalogue) (m : MetaKey) → IsMeta c m → IsTile c (first_tile c m)
first_is_tile c m is = record { layer = is.layer; style = is.style; values = is.values; place = on_matrix c m (matrix_in c m.grid m.z) is.place }

first_is_in : (c : Catalogue) (m : MetaKey) → IsValid c → IsMeta c m → m ≡ block_of c (first_tile c m)
first_is_in c m valid is = let p = its_plan c m valid (parts c m is) in sym (first_in (factors_at c m.theme) m p.x p.y)

-- A REFRESH, by the first tile of its metatile

module _ (x y : Shown) (meta : MetaKey) (valid : IsValid x.state.catalogue) (of : IsMeta x.state.catalogue meta) (rest : IsAtRest x.state) where
  abbrev c : Catalogue
  c = x.state.catalogue

  abbrev first : Address
  first = first_tile c meta

  abbrev its_tile : IsTile c first
  its_tile = first_is_tile c meta of

  abbrev its_block : meta ≡ block_of c first
  its_block = first_is_in c meta valid of

  busy_not : (force : Bool) (m : Made Note) (busy : List (Made Note)) → AreBusyRequests c meta force (m ∷ busy) → IsStep c x m → ⊥
  busy_not false m busy waited step = busy_never x first its_tile m step waited.0.0 rest waited.0.1
  busy_not true m busy waited step = force_never_busy x first its_tile m step meta its_block waited.0.0 rest waited.0.1

  none_asked : (force : Bool) (busy : List (Made Note)) (ask : Made Note) (ends : List (Made Note)) → AreBusyRequests c meta force busy → AreSteps c x (busy ++ ask ∷ ends) y → AreSteps c x (ask ∷ ends) y
  none_asked force [] ask ends waited steps = steps
  none_asked force (m ∷ busy) ask ends waited steps = absurd (busy_not force m busy waited steps.0)

  not_turned : (force : Bool) (gained : List (Made Note)) → AreBusyRequests c meta force gained → AreSteps c x gained y → (y.state ≡ x.state) × (x.faults ≤ y.faults)
  not_turned force [] waited steps = steps
  not_turned force (m ∷ busy) waited steps = absurd (busy_not force m busy waited steps.0)

  turns_of : (force : Bool) (gained busy : List (Made Note)) (ask : Made Note) (ends : List (Made Note)) → gained ≡ busy ++ ask ∷ ends → AreBusyRequests c meta force busy → AreSteps c x gained y → AreSteps c x (ask ∷ ends) y
  turns_of force gained busy ask ends all waited steps = none_asked force busy ask ends waited (subst (λ (ms : List (Made Note)). AreSteps c x ms y) all steps)

  given_by : (force : Bool) (k : Ticketed) (ask : Made Note) → GivesTicket c meta force k ask → IsStep c x ask → HasTicket x.faults ask.note.after.faults x.state first force k ask.note.after.state
  given_by false k ask gives step = asked_ticket x first its_tile ask step k gives
  given_by true k ask gives step = forced_ticket x first its_tile ask step meta its_block k gives

  spent_by : (force : Bool) (ask : Made Note) → MeetsSpent c meta force ask → IsStep c x ask → y.state ≡ ask.note.after.state → ask.note.after.faults ≤ y.faults → Begins x.faults y.faults x.state first force (ended_so outcome.Spent) y.state
  spent_by false ask meets step left last = asked_spent x first its_tile ask step y.state y.faults left last meets
  spent_by true ask meets step left last = forced_spent x first its_tile ask step meta its_block y.state y.faults left last meets

  module _ (force : Bool) (before after : ℕ) (later : before ≤ after) where
    abbrev Comes : Result Refreshed GetFault → Type 0
    Comes result = (o : TileOutcome) × RunsTo before after x.faults y.faults x.state first force o y.state × RefreshEndsAs result o

    left_comes : (ask : Made Note) (ends : List (Made Note)) (k : ℕ) → IsLeft c meta force ask ends k → AreSteps c x (ask ∷ ends) y → Comes (Ok (AlreadyKept k))
    left_comes ask ends k h steps =
        let one = subst (λ (ms : List (Made Note)). AreSteps c x (ask ∷ ms) y) h.nothing steps in
        let o = outcome.Tile (tile_at true k h.bytes) in
        let runs = at_once before after later x.faults y.faults x.state y.state first false o (asked_hit x first its_tile ask one.0 y.state y.faults one.1.0 one.1.1 k h.bytes h.answer) in
        (o, subst (λ (b : Bool). RunsTo before after x.faults y.faults x.state first b o y.state) (sym h.without_force) runs, (tile_at true k h.bytes, refl, refl))

    remade_runs : (Sound : Type 0) (ask : Made Note) (ends : List (Made Note)) (k : ℕ) (r : Finished) → (h : IsRendered c Sound meta force ask ends k r) → AreSteps c x (ask ∷ ends) y
        → RunsTo before after x.faults y.faults x.state first force (outcome.Tile (tile_at false h.ticket.number (tile_part c first h.blob))) y.state
    remade_runs Sound ask ends k r h steps =
        let two = subst (λ (ms : List (Made Note)). AreSteps c x (ask ∷ ms) y) h.one steps in
        let has = given_by force h.ticket ask h.answer two.0 in
        rendered_runs before after later c x.faults x.state ask.note.after y first force h.ticket has h.end two.1.0 two.1.1.0 two.1.1.1 h.blob (tile_part c first h.blob)
        (h.long ∙ ap (blob_size c) (sym h.meta) ∙ ap (λ (d : Catalogue). blob_size d h.ticket.meta) (sym has.same)) (ap (λ (d : Catalogue). tile_part d first h.blob) (sym has.same)) h.handed.command

    module _ (Sound : Type 0) (gained : List (Made Note)) (steps : AreSteps c x gained y) where
      refreshed_comes : (z : Refreshed) → HasRefreshed c Sound meta force (fronted (now x.state)) gained z → Comes (Ok z)
      refreshed_comes (AlreadyKept k) h = left_comes h.ask h.ends k h.became (turns_of force gained h.busy h.ask h.ends h.all h.waited steps)
      refreshed_comes (Remade k) h =
          let made = h.became in
          let tile = tile_at false made.ticket.number (tile_part c first made.blob) in
          (outcome.Tile tile, remade_runs Sound h.ask h.ends k _ made (turns_of force gained h.busy h.ask h.ends h.all h.waited steps), (tile, refl, sym made.number))
      refreshed_comes (Unkept k) h =
          let made = h.became.2 in
          let tile = tile_at false made.ticket.number (tile_part c first made.blob) in
          (outcome.Tile tile, remade_runs Sound h.ask h.ends k _ made (turns_of force gained h.busy h.ask h.ends h.all h.waited steps), (tile, refl, sym made.number))

      module _ (h : HasGivenUp c meta force gained) where
        both : AreSteps c x (h.ask ∷ h.end ∷ []) y
        both = turns_of force gained h.busy h.ask (h.end ∷ []) h.all h.waited steps

        ticket_given : HasTicket x.faults h.ask.note.after.faults x.state first force h.ticket h.ask.note.after.state
        ticket_given = given_by force h.ticket h.ask h.answer both.0

        fails : Rose before after → Comes (Err SourceFault)
        fails rose = (outcome.SourceFailed, failed_runs before after later c x.faults x.state h.ask.note.after y first force h.ticket ticket_given h.end both.1.0 both.1.1.0 both.1.1.1 rose h.ended, refl)

        starves : Comes (Err OutOfMemory)
        starves = (outcome.NoMemory, starved_runs before after later c x.faults x.state h.ask.note.after y first force h.ticket ticket_given h.end both.1.0 both.1.1.0 both.1.1.1 h.ended, refl)

      spent_comes : HasMetNoNumber c meta force gained → Comes (Err Spent)
      spent_comes h =
          let one = turns_of force gained h.busy h.ask [] h.all h.waited steps in
          (outcome.Spent, at_once before after later x.faults y.faults x.state y.state first force outcome.Spent (spent_by force h.ask h.answer one.0 one.1.0 one.1.1), refl)

      none_comes : AreBusyRequests c meta force gained → Comes (Err OutOfMemory)
      none_comes waited =
          let none = not_turned force gained waited steps in
          (outcome.NoMemory, at_once before after later x.faults y.faults x.state y.state first force outcome.NoMemory (begins_not x.faults y.faults x.state y.state first force none.1 its_tile none.0), refl)

      pub refresh_runs : (result : Result Refreshed GetFault) → CameTo c Sound meta force (fronted (now x.state)) gained result → IfErr result (λ e. e ≡ SourceFault → Rose before after) → Comes result
      refresh_runs (Ok z) h cause = refreshed_comes z h
      refresh_runs (Err SourceFault) h cause = fails h (cause refl)
      refresh_runs (Err Spent) h cause = spent_comes h
      refresh_runs (Err OutOfMemory) (inl none) cause = none_comes none
      refresh_runs (Err OutOfMemory) (inr h) cause = starves h
