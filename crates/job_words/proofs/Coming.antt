-- What a visit came to: to a metatile by its three events, to a cut by its reply.
use Rattle.std.specs.Prelude.{Contains, if◌then◌else◌, IfErr, Result, Ok, Err, slice_get}
use Rattle.std.specs.declared.alloc.AllocError.{AllocError}
use Rattle.std.proofs.Common.{◌≡◌, ◌≤◌, ◌+◌, ℕ, Bool, true, false, List, [], ◌∷◌, Option, Some, refl, sym, ap, subst, ◌∙◌, arith}
use Rattle.std.proofs.lemmas.List.Elements.{Contains-get_or}
use Rattle.std.proofs.lemmas.Option.{get_or_from_slice_get, slice_get_within}
use Rattle.cabinet.specs.Commands.{Cuts, IsCountedCut}
use Rattle.cabinet.specs.declared.replies.CutReply.{CutReply}
use Rattle.cabinet.specs.declared.replies.CutReply.TheVariants as cut
use Rattle.cabinet.specs.State.{State, IsSound, fronted, now}
use Rattle.cabinet_chest.specs.declared.command.Command.{Command}
use Rattle.cabinet_chest.specs.declared.command.Command.TheVariants as command
use Rattle.cabinet_chest.specs.declared.command.Reply.{Reply}
use Rattle.cabinet_chest.specs.declared.command.Reply.TheVariants as reply
use Rattle.cabinet_chest.specs.declared.shown.Note.{Note}
use Rattle.cabinet_chest.specs.declared.shown.Shown.{Shown}
use Rattle.cabinet_chest.specs.Replies.{IsCutAnswered, IsReplyTo, MayReply}
use Rattle.cache_access.specs.declared.fault.GetFault.{GetFault}
use Rattle.cache_access.specs.declared.fault.GetFault.TheVariants as got
use Rattle.cache_access.specs.declared.refreshed.Refreshed.{Refreshed}
use Rattle.cache_access.specs.Alone.{AreSteps}
use Rattle.cache_access.specs.Refreshes.{CameTo}
use Rattle.cache_access.specs.Stepping.{unsure}
use Rattle.cache_access.specs.Turned.{IsOf}
use Rattle.cache_core.specs.declared.outcome.TileOutcome as cached
use Rattle.cache_core.specs.declared.outcome.TileOutcome.TheVariants as outcome
use Rattle.cache_core.specs.Steps.{Stepped, ends}
use Rattle.catalog.specs.declared.catalogue.Catalogue.{Catalogue}
use Rattle.base.specs.Causes.{Rose, RoseBy}
use Rattle.job_places.specs.declared.place.PlaceEnd.{PlaceEnd}
use Rattle.cache_access.specs.declared.refreshed.Refreshed.TheVariants as refreshed
use Rattle.job_places.specs.declared.place.PlaceEnd.TheVariants.{Done, Failed, Unkept}
use Rattle.job_places.specs.declared.place.PlaceFault.{PlaceFault}
use Rattle.job_places.specs.declared.place.PlaceFault.TheVariants as fault
use Rattle.job_places.specs.Ends.{end_of_cut, end_of_refresh}
use Rattle.job_places.specs.Visits.{IsVisit, IsWorkAt, Truncates, Visit, forces, visit_of}
use Rattle.job_forms.specs.declared.job.Job.{Job}
use Rattle.job_forms.specs.Places.{Metatile, Cut, Place, places}
use Rattle.job_words.specs.Coming.{ComesTo}
use Rattle.job_words.specs.Run.{failed_by, is_disk, is_source}
use Rattle.job_words.specs.Visit.{CutsOnce, EndsBy, ends_keeping}
use Rattle.job_words.proofs.Carrying.{CarriesOn, carries}
use Rattle.job_words.proofs.Keeping.{KeepsSo, came_keeps}
use Rattle.job_words.proofs.AtRest.{cut_rests, refreshed_done}
use Rattle.metatile_plan.specs.declared.metatile.MetaKey.{MetaKey}
use Rattle.raster_field.specs.Blocks.{IsMeta, first_tile}
use Rattle.tile_requests.specs.Events.{RefreshEndsAs, RunsTo, failing}
use Rattle.tile_requests.specs.Requests.{calm}
use Rattle.sessions.specs.Outside.{FaultCounts, counts}
use Rattle.tile_service.specs.Session.{IsAtRest}
use Rattle.tile_service.proofs.AtRest.{IsDone}
use Rattle.source_render.specs.Renders.{GivenImage, Renders, renders}
use Rattle.truncation_list.specs.declared.book.FrontedBook.{FrontedBook}
use Rattle.truncation_list.specs.declared.cover.Cover.{Cover}
use Rattle.turnstile.specs.declared.view.Made.{Made}

-- COUNTS

-- a count that didn't fall rose by none
none_rose : (before after : ℕ) → before ≤ after → RoseBy 0 before after
none_rose before after later = omega arith

-- a place fails by the source where its tile does, and by no fault of the disk
none_by_tile : (which : PlaceFault → Bool) (kept : Bool) → failed_by which (if kept then Done else Unkept) ≡ 0
none_by_tile which true = refl
none_by_tile which false = refl

source_same : (u : State) (o : cached.TileOutcome) (e : PlaceEnd) → EndsBy u o e → failing (Some o) ≡ failed_by is_source e
source_same u (outcome.Tile tile) e is = sym (ap (failed_by is_source) is ∙ none_by_tile is_source (ends_keeping u.history))
source_same u outcome.SourceFailed e is = ap (failed_by is_source) (sym is)
source_same u outcome.Spent e is = ap (failed_by is_source) (sym is)
source_same u outcome.NoMemory e is = ap (failed_by is_source) (sym is)

disk_none : (u : State) (o : cached.TileOutcome) (e : PlaceEnd) → EndsBy u o e → failed_by is_disk e ≡ 0
disk_none u (outcome.Tile tile) e is = ap (failed_by is_disk) is ∙ none_by_tile is_disk (ends_keeping u.history)
disk_none u outcome.SourceFailed e is = ap (failed_by is_disk) is
disk_none u outcome.Spent e is = ap (failed_by is_disk) is
disk_none u outcome.NoMemory e is = ap (failed_by is_disk) is

with_none : (n m before after : ℕ) → m ≡ 0 → RoseBy n before after → RoseBy (n + m) before after
with_none n m before after none rose = omega (arith, none, rose)

behind_none : (n before after : ℕ) → RoseBy n before after → RoseBy (0 + n) before after
behind_none n before after rose = omega (arith, rose)

-- A METATILE

module _ (told : Option ℕ) (renders disk : FaultCounts) (force : Bool) (s : State) (m : MetaKey) (o : cached.TileOutcome) (t : State) (rest : IsAtRest s) (h : CarriesOn renders disk force s (first_tile s.catalogue m) o t) where
  done : IsDone (ends t o)
  done = let P : Stepped → Type 0 = IsDone in subst P (sym h.made) (refreshed_done force s m h.chances rest)

  refresh_comes : (e : PlaceEnd) → EndsBy t o e → (told ≡ Some s.catalogue.source → IsSound s → IsSound t) → ComesTo told renders disk force s (Metatile m) e t
  refresh_comes e by still =
      record {
        chances = h.chances;
        made = (o, sym h.made, by);
        later = h.moves.later;
        disk_later = h.disk_later;
        failed = failed_so (h.moves.failed renders.before 0 (none_rose renders.before renders.before (omega arith)));
        faults = with_none _ (failed_by is_disk e) disk.before disk.after (disk_none t o e by) h.faults;
        sound = still;
        catalogue = h.moves.catalogue;
        rests = done.rests;
      }
    where
      failed_so : RoseBy (0 + (failing (Some o) + 0)) renders.before renders.after → RoseBy (failed_by is_source e) renders.before renders.after
      failed_so rose = let same : failing (Some o) ≡ failed_by is_source e = source_same t o e by in omega (arith, same, rose)

-- A CUT

cut_source : (reply : Result CutReply AllocError) → failed_by is_source (end_of_cut reply) ≡ 0
cut_source (Ok (cut.Done t)) = refl
cut_source (Ok cut.Full) = refl
cut_source (Ok (cut.DiskFault before after)) = refl
cut_source (Ok cut.Spent) = refl
cut_source (Err failed) = refl

cut_catalogue : (s : State) (cover : Cover) (reply : Result CutReply AllocError) (u : State) → CutsOnce s cover reply u → u.catalogue ≡ s.catalogue
cut_catalogue s cover (Ok (cut.Done t)) u row = ap (λ (x : State). x.catalogue) row.2
cut_catalogue s cover (Ok (cut.DiskFault before after)) u row = ap (λ (x : State). x.catalogue) row.4
cut_catalogue s cover (Ok cut.Full) u row = ap (λ (x : State). x.catalogue) row.2
cut_catalogue s cover (Ok cut.Spent) u row = ap (λ (x : State). x.catalogue) row.1
cut_catalogue s cover (Err failed) u row = ap (λ (x : State). x.catalogue) row

-- what the reply of a cut names of the disk is no more than its count rose by
cut_faults : (s : State) (cover : Cover) (reply : CutReply) (u : State) (before after : ℕ) → before ≤ after → Cuts s cover reply u → IsCountedCut before after reply → RoseBy (failed_by is_disk (end_of_cut (Ok reply))) before after
cut_faults s cover (cut.Done t) u before after later row counted = none_rose before after later
cut_faults s cover cut.Full u before after later row counted = none_rose before after later
cut_faults s cover (cut.DiskFault b a) u before after later row counted = subst (λ n. RoseBy 1 n after) counted.0 (subst (RoseBy 1 b) counted.1 row.3)
cut_faults s cover cut.Spent u before after later row counted = none_rose before after later

rose_through : (n first before after last : ℕ) → first ≤ before → after ≤ last → RoseBy n before after → RoseBy n first last
rose_through n first before after last earlier later rose = omega (arith, earlier, later, rose)

cut_same : (x y : CutReply) → reply.Cut x ≡ reply.Cut y → y ≡ x
cut_same x y e = cc

-- the reply of a turn that cuts
module _ (c : Catalogue) (told : Bool) (b a : Shown) (cover : Cover) (x : CutReply) where
  cut_to : IsReplyTo c told b a (command.Cut cover) (reply.Cut x) → IsCutAnswered b a cover x
  cut_to h = subst (λ (y : CutReply). IsCutAnswered b a cover y) (cut_same x h.0 h.1) h.2

  cut_by : (does : Command) (r : Reply) → does ≡ command.Cut cover → r ≡ reply.Cut x → MayReply c told b a does r → IsCutAnswered b a cover x
  cut_by does r is_cut is_answer may = cut_to (subst (λ (z : Reply). IsReplyTo c told b a (command.Cut cover) z) is_answer (subst (λ (d : Command). IsReplyTo c told b a d r) is_cut may.answer))

-- what a truncation came to, by the one turn of a thread that has the cabinet for itself, or by none
record IsCutSo (x y : Shown) (cover : Cover) (answer : Result CutReply AllocError) : Type 0 where
  row : CutsOnce x.state cover answer y.state
  later : x.faults ≤ y.faults
  faults : RoseBy (failed_by is_disk (end_of_cut answer)) x.faults y.faults

cut_in_one : (x y : Shown) (cover : Cover) (r : CutReply) (turn : Made Note) → IsOf (command.Cut cover) (reply.Cut r) turn → AreSteps x.state.catalogue x (turn ∷ []) y → IsCutSo x y cover (Ok r)
cut_in_one x y cover r turn of steps =
    let b = turn.note.before in
    let a = turn.note.after in
    let step = steps.0 in
    let may = unsure x.state.catalogue x turn step in
    let is = cut_by x.state.catalogue false b a cover r turn.note.command turn.note.reply of.command of.reply may in
    let later = may.later in
    let first = step.later in
    let last = steps.1.1 in
    record {
      row = subst (λ (u : State). Cuts x.state cover r u) (sym steps.1.0) (subst (λ (s : State). Cuts s cover r a.state) step.state is.row);
      later = omega (arith, first, later, last);
      faults = rose_through (failed_by is_disk (end_of_cut (Ok r))) x.faults b.faults a.faults y.faults first last (cut_faults b.state cover r a.state b.faults a.faults later is.row is.counted);
    }

cut_so : (x y : Shown) (cover : Cover) (gained : List (Made Note)) (answer : Result CutReply AllocError) → Truncates cover gained answer → AreSteps x.state.catalogue x gained y → IsCutSo x y cover answer
cut_so x y cover gained (Ok r) cuts steps = cut_in_one x y cover r cuts.0 cuts.2 (subst (λ (ms : List (Made Note)). AreSteps x.state.catalogue x ms y) cuts.1 steps)
cut_so x y cover gained (Err failed) cuts steps =
    let none = subst (λ (ms : List (Made Note)). AreSteps x.state.catalogue x ms y) cuts steps in
    record { row = none.0; later = none.1; faults = none_rose x.faults y.faults none.1 }

cut_comes : (told : Option ℕ) (before after : ℕ) (x y : Shown) (force : Bool) (cover : Cover) (answer : Result CutReply AllocError) → IsAtRest x.state → after ≡ before → IsCutSo x y cover answer
    → (told ≡ Some x.state.catalogue.source → IsSound x.state → IsSound y.state) → ComesTo told (counts before after) (counts x.faults y.faults) force x.state (Cut cover) (end_of_cut answer) y.state
cut_comes told before after x y force cover answer rest same is still = record {
  chances = record { asking = calm; rendering = calm; ending = calm };
  made = (answer, is.row, refl);
  later = omega (arith, same);
  disk_later = is.later;
  failed = let e = cut_source answer in omega (arith, e, same);
  faults = behind_none (failed_by is_disk (end_of_cut answer)) x.faults y.faults is.faults;
  sound = still;
  catalogue = cut_catalogue x.state cover answer y.state is.row;
  rests = cut_rests x.state cover answer y.state is.row rest;
}

-- A VISIT over any access, by a thread that has the cabinet for itself

contains_at : {X : Type 0} (xs : List X) (i : ℕ) (x : X) → slice_get xs i ≡ Some x → Contains xs x
contains_at xs i x e = subst (Contains xs) (get_or_from_slice_get xs i x x e) (Contains-get_or xs i x (slice_get_within xs i x e))

cause_of : (r : Result Refreshed GetFault) (Cause : Type 0) → (r ≡ Err got.SourceFault → Cause) → IfErr r (λ e. e ≡ got.SourceFault → Cause)
cause_of (Ok x) Cause h = tt
cause_of (Err e) Cause h = λ is. h (ap Err is)

-- the place ends by its refresh as by the outcome of its tile
tile_end : (kept is : Bool) → kept ≡ is → (if is then Done else Unkept) ≡ (if kept then Done else Unkept)
tile_end kept is same = ap (λ (b : Bool). if b then Done else Unkept) (sym same)

same_end : (u : State) (r : Result Refreshed GetFault) (o : cached.TileOutcome) → RefreshEndsAs r o → KeepsSo u r → EndsBy u o (end_of_refresh r)
same_end u (Ok (refreshed.AlreadyKept n)) o so keeps = subst (λ (x : cached.TileOutcome). EndsBy u x Done) (sym so.1) (tile_end (ends_keeping u.history) true keeps)
same_end u (Ok (refreshed.Made n)) o so keeps = subst (λ (x : cached.TileOutcome). EndsBy u x Done) (sym so.1) (tile_end (ends_keeping u.history) true keeps)
same_end u (Ok (refreshed.Unkept n)) o so keeps = subst (λ (x : cached.TileOutcome). EndsBy u x Unkept) (sym so.1) (tile_end (ends_keeping u.history) false keeps)
same_end u (Err got.SourceFault) o so keeps = subst (λ (x : cached.TileOutcome). EndsBy u x (Failed fault.Source)) (sym so) refl
same_end u (Err got.Spent) o so keeps = subst (λ (x : cached.TileOutcome). EndsBy u x (Failed fault.Spent)) (sym so) refl
same_end u (Err got.OutOfMemory) o so keeps = subst (λ (x : cached.TileOutcome). EndsBy u x (Failed fault.Memory)) (sym so) refl

module _ (told : Option ℕ) (before after : ℕ) (x y : Shown) (job : Job) (rest : IsAtRest x.state) where
  abbrev Truth : Type 0
  Truth = IsSound x.state × (told ≡ Some x.state.catalogue.source)

  -- what its refresh of a metatile comes to, as events
  abbrev pub RefreshesSo : Type 0
  RefreshesSo =
      (m : MetaKey) (force : Bool) (gained : List (Made Note)) (result : Result Refreshed GetFault) → IsMeta x.state.catalogue m → AreSteps x.state.catalogue x gained y
      → CameTo x.state.catalogue Truth m force (fronted (now x.state)) gained result → before ≤ after → IfErr result (λ e. e ≡ got.SourceFault → Rose before after)
      → (o : cached.TileOutcome) × RunsTo before after x.faults y.faults x.state (first_tile x.state.catalogue m) force o y.state × RefreshEndsAs result o

  module _ (refreshes : RefreshesSo) (metas : (m : MetaKey) → Contains (places x.state.catalogue job) (Metatile m) → IsMeta x.state.catalogue m) (still : told ≡ Some x.state.catalogue.source → IsSound x.state → IsSound y.state)
      (place : ℕ) (sees : FrontedBook) (first last : List GivenImage) (gained : List (Made Note)) (steps : AreSteps x.state.catalogue x gained y) (end : PlaceEnd) where
    abbrev visit : Visit
    visit = visit_of place (fronted (now x.state)) sees (renders before first) (renders after last) gained end

    comes_at : (p : Place) → slice_get (places x.state.catalogue job) place ≡ Some p → IsWorkAt x.state.catalogue Truth job.kind p visit → ComesTo told (counts before after) (counts x.faults y.faults) (forces job.kind) x.state p end y.state
    comes_at (Metatile m) at work =
        let force = forces job.kind in
        let runs = refreshes m force gained work.answer (metas m (contains_at (places x.state.catalogue job) place (Metatile m) at)) steps work.came_to work.goes_on.later (cause_of work.answer (Rose before after) work.cause) in
        subst (λ (e : PlaceEnd). ComesTo told (counts before after) (counts x.faults y.faults) force x.state (Metatile m) e y.state) (sym work.ended)
        (refresh_comes told (counts before after) (counts x.faults y.faults) force x.state m runs.0 y.state rest (carries before after x.faults y.faults x.state (first_tile x.state.catalogue m) force runs.0 y.state runs.1) (end_of_refresh work.answer) (same_end y.state work.answer runs.0 runs.2 (came_keeps x.state.catalogue y Truth m force (fronted (now x.state)) x gained work.answer steps work.came_to)) still)
    comes_at (Cut cover) at work =
        subst (λ (e : PlaceEnd). ComesTo told (counts before after) (counts x.faults y.faults) (forces job.kind) x.state (Cut cover) e y.state) (sym work.0.2)
        (cut_comes told before after x y (forces job.kind) cover work.0.0 rest (ap (λ (r : Renders). r.failures) work.1) (cut_so x y cover gained work.0.0 work.0.1 steps) still)

    pub visit_comes : IsVisit x.state.catalogue Truth job visit → (p : Place) × (slice_get (places x.state.catalogue job) place ≡ Some p) × ComesTo told (counts before after) (counts x.faults y.faults) (forces job.kind) x.state p end y.state
    visit_comes h = (h.at, h.is_place, comes_at h.at h.is_place h.work)
