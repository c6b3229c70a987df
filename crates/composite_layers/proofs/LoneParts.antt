-- A composition by a thread that has the cabinet for itself: the turns of its gets are the events of its parts.
use Rattle.std.proofs.Common.{◌≡◌, ◌≤◌, ℕ, ◌+◌, ◌⊎◌, List, [], ◌∷◌, Option, Some, Result, Ok, Err, refl, sym, ap, ◌∙◌, subst, arith, inl, inr}
use Rattle.std.specs.Prelude.{IfErr, IsSomeAnd}
use Rattle.cabinet.specs.State.{State, IsSound, fronted, now}
use Rattle.cabinet_chest.specs.declared.shown.Note.{Note}
use Rattle.cabinet_chest.specs.declared.shown.Shown.{Shown}
use Rattle.cabinet_chest.specs.Acts.{seen}
use Rattle.cache_access.specs.Alone.{AreSteps}
use Rattle.cache_access.specs.declared.fault.GetFault.{GetFault}
use Rattle.cache_access.specs.declared.fault.GetFault.TheVariants as got
use Rattle.cache_access.specs.Gets.{IsGot as IsGotBy}
use Rattle.cache_core.specs.declared.outcome.Tile.{Tile}
use Rattle.cache_core.specs.declared.outcome.TileOutcome.{TileOutcome}
use Rattle.cache_core.specs.Steps.{Stepped}
use Rattle.cache_core.specs.Shown.{shown}
use Rattle.catalog.specs.declared.catalogue.Catalogue.{Catalogue}
use Rattle.catalog.specs.LookUp.{IsTile, matrix_in}
use Rattle.base.specs.Causes.{Rose, RoseBy}
use Rattle.matrix_geometry.specs.declared.address.Address.{Address}
use Rattle.tile_requests.specs.declared.request.Mode.TheVariants.{Gets}
use Rattle.tile_requests.specs.Events.{BeginsByLine, ended_by, ended_so, failing}
use Rattle.tile_service.specs.Session.{IsAtRest}
use Rattle.tile_service.proofs.AtRest.{IsDone, get_done}
use Rattle.truncation_list.specs.declared.book.FrontedBook.{FrontedBook}
use Rattle.turnstile.specs.declared.view.Made.{Made}
use Rattle.layer_recipes.specs.declared.composed.Composed.{Composed}
use Rattle.layer_recipes.specs.declared.composed.ComposeFault.{ComposeFault}
use Rattle.layer_recipes.specs.declared.composed.ComposeFault.TheVariants as fault
use Rattle.layer_recipes.specs.Composite.{composite, laid_over}
use Rattle.layer_recipes.specs.declared.place.TilePlace.{TilePlace}
use Rattle.layer_recipes.specs.declared.recipe.Part.{Part}
use Rattle.layer_recipes.specs.OfCatalogue.{tile_at}
use Rattle.composite_layers.specs.OverAccess as over
use Rattle.composite_layers.specs.OverAccess.{ComposesAt, GetsAt, MomentOf}
use Rattle.composite_layers.specs.Composes.{Composes, HasComposed, HasStopped, Stops, fault_of}
use Rattle.composite_layers.specs.Parts.{AreGot, CompositionMoment, IsPartGot, keyed, moment}

-- ONE PART

done_of : (told : Option ℕ) (before after disk_before disk_after : ℕ) (s : State) (a : Address) (ended : TileOutcome) (t : State) → IsAtRest s → BeginsByLine told before after disk_before disk_after s a Gets (ended_so ended) t → IsDone (shown (ended_so ended) t)
done_of told before after disk_before disk_after s a ended t rest h = let P : Stepped → Type 0 = IsDone in subst P (sym h.made) (get_done a h.chance s rest)

no_more : (n : ℕ) → RoseBy (0 + 0) n n
no_more n = omega arith

-- the events of a request that has its outcome
got_of : (told : Option ℕ) (before after disk_before disk_after : ℕ) (s : State) (a : Address) (ended : TileOutcome) (t : State) → IsAtRest s → BeginsByLine told before after disk_before disk_after s a Gets (ended_so ended) t
    → IsPartGot told (moment s before disk_before) a ended (moment t after disk_after)
got_of told before after disk_before disk_after s a ended t rest h = record {
  chance = h.chance;
  made = sym h.made;
  failed = λ fails. (let counted = h.moves.failed before 0 (no_more before) in let told_of = ap (λ (o : TileOutcome). failing (Some o)) fails in rw told_of at counted);
  later = h.moves.later;
  disk = h.disk_cause;
  fresh = h.moves.fresh;
  truth = λ tells sound. h.moves.truth tells sound tt;
  sound = λ tells sound. h.moves.sound tells sound tt;
  grows = h.moves.grows;
  catalogue = h.moves.catalogue;
  rests = (done_of told before after disk_before disk_after s a ended t rest h).rests;
}

-- what is known of the turns of any get by such a thread
abbrev pub Known : Type 0
Known = (told : Option ℕ) (x y : Shown) (a : Address) (before after : ℕ) (gained : List (Made Note)) (result : Result Tile GetFault)
    → IsTile x.state.catalogue a → IsAtRest x.state → AreSteps x.state.catalogue x gained y
    → IsGotBy x.state.catalogue (IsSound x.state × (told ≡ Some x.state.catalogue.source)) a (fronted (now x.state)) gained result
    → before ≤ after → IfErr result (λ e. e ≡ got.SourceFault → Rose before after) → (told ≡ Some x.state.catalogue.source → IsSound x.state → IsSound y.state)
    → BeginsByLine told before after x.faults y.faults x.state a Gets (ended_so (ended_by result)) y.state

faults_same : (e : GetFault) → fault_of (ended_by (Err e)) ≡ Some (over.fault_of e)
faults_same got.SourceFault = refl
faults_same got.Spent = refl
faults_same got.OutOfMemory = refl

module _ {C : Type 0} (state : C → State) (disk : C → ℕ) (told : Option ℕ) (c : Catalogue) (place : TilePlace) (known : Known) where
  abbrev leads : C → C → List (Made Note) → Type 0
  leads x y gained = AreSteps (state x).catalogue (seen (disk x) (state x)) gained (seen (disk y) (state y))

  abbrev sound : C → Type 0
  sound x = IsSound (state x)

  abbrev book : C → FrontedBook
  book x = fronted (now (state x))

  abbrev gets : Address → MomentOf C → MomentOf C → Result Tile GetFault → Type 0
  gets = GetsAt leads sound book told c

  -- the same moment, of the cabinet
  abbrev of : MomentOf C → CompositionMoment
  of m = moment (state m.cache) m.renders.failures (disk m.cache)

  part_got : (a : Address) (m n : MomentOf C) (r : Result Tile GetFault) → (state m.cache).catalogue ≡ c → IsAtRest (state m.cache) → gets a m n r → IsPartGot told (of m) a (ended_by r) (of n)
  part_got a m n r same rest h =
      let s = state m.cache in
      let t = state n.cache in
      let x = seen (disk m.cache) s in
      let y = seen (disk n.cache) t in
      let tile = subst (λ (d : Catalogue). IsTile d a) (sym same) h.tile in
      let got = subst (λ (d : Catalogue). IsGotBy d (IsSound s × (told ≡ Some d.source)) a (fronted (now s)) h.gets.gained r) (sym same) h.gets.got in
      let still = subst (λ (d : Catalogue). told ≡ Some d.source → IsSound s → IsSound t) (sym same) h.still in
      got_of told m.renders.failures n.renders.failures (disk m.cache) (disk n.cache) s a (ended_by r) t rest (known told x y a m.renders.failures n.renders.failures h.gets.gained r tile rest h.gets.gains got h.goes_on.later h.cause still)

  -- ALL PARTS

  are_got : (m : MomentOf C) (ps : List Part) (tiles : List Tile) (n : MomentOf C) → (state m.cache).catalogue ≡ c → IsAtRest (state m.cache) → over.AreGot gets place m ps tiles n
      → AreGot told place (of m) ps tiles (of n) × ((state n.cache).catalogue ≡ c) × IsAtRest (state n.cache)
  are_got m [] [] n same rest h = (ap of h, ap (λ (x : MomentOf C). (state x.cache).catalogue) h ∙ same, subst (λ (x : MomentOf C). IsAtRest (state x.cache)) (sym h) rest)
  are_got m [] (t ∷ ts) n same rest h = absurd h
  are_got m (p ∷ ps) [] n same rest h = absurd h
  are_got m (p ∷ ps) (t ∷ ts) n same rest h =
      let one = part_got (tile_at place p) m h.0 (Ok t) same rest h.1 in
      let more = are_got h.0 ps ts n (one.catalogue ∙ same) one.rests h.2 in
      ((of h.0, one, more.0), more.1, more.2)

  stops_so : (m : MomentOf C) (p : Part) (stop : ComposeFault) (n : MomentOf C) → (state m.cache).catalogue ≡ c → IsAtRest (state m.cache) → over.Stops gets place m p stop n → Stops told place (of m) p stop (of n)
  stops_so m p stop n same rest (inl s) = inl (ended_by (Err s.0), part_got (tile_at place p) m n (Err s.0) same rest s.1, faults_same s.0 ∙ ap Some s.2)
  stops_so m p stop n same rest (inr s) = inr (s.0, part_got (tile_at place p) m n (Ok s.0) same rest s.1, s.2)

  stopped_so : (m : MomentOf C) (ps : List Part) (stop : ComposeFault) (n : MomentOf C) → (state m.cache).catalogue ≡ c → IsAtRest (state m.cache) → over.HasStopped gets place m ps stop n → HasStopped told place (of m) ps stop (of n)
  stopped_so m ps stop n same rest h =
      let above = are_got m h.above h.tiles h.mid same rest h.got in
      record { above = h.above; part = h.part; below = h.below; all = h.all; tiles = h.tiles; mid = of h.mid; got = above.0; stops = stops_so h.mid h.part stop n above.1 above.2 h.stops }

  composed_so : (m : MomentOf C) (ps : List Part) (numbers bytes : List ℕ) (n : MomentOf C) → (state m.cache).catalogue ≡ c → IsAtRest (state m.cache)
      → over.HasComposed gets c (sound m.cache × (told ≡ Some c.source)) (book m.cache) place m ps numbers bytes n → HasComposed told place (of m) ps numbers bytes (of n)
  composed_so m ps numbers bytes n same rest h =
      let all = are_got m ps h.tiles n same rest h.got in
      record {
        tiles = h.tiles;
        got = all.0;
        numbered = h.numbered;
        laid = subst (λ (d : Catalogue). IsSomeAnd (matrix_in d place.grid place.z) (λ x. bytes ≡ laid_over x (keyed ps h.tiles))) (sym same) h.laid;
        truth = λ tells is_sound. h.truth (is_sound, tells ∙ ap (λ (d : Catalogue). Some d.source) same) ∙ ap (λ (d : Catalogue). composite d place ps numbers) (sym same);
        rests = all.2;
      }

  faulted_so : (m : MomentOf C) (ps : List Part) (stop : ComposeFault) (n : MomentOf C) → (state m.cache).catalogue ≡ c → IsAtRest (state m.cache)
      → over.HasStopped gets place m ps stop n ⊎ ((stop ≡ fault.OutOfMemory) × (n ≡ m)) → HasStopped told place (of m) ps stop (of n) ⊎ ((stop ≡ fault.OutOfMemory) × (of n ≡ of m))
  faulted_so m ps stop n same rest (inl h) = inl (stopped_so m ps stop n same rest h)
  faulted_so m ps stop n same rest (inr h) = inr (h.0, ap of h.1)

  pub composes_so : (m : MomentOf C) (ps : List Part) (r : Result Composed ComposeFault) (n : MomentOf C) → (state m.cache).catalogue ≡ c → IsAtRest (state m.cache) → ComposesAt leads sound book told c place m ps r n → Composes told place (of m) ps r (of n)
  composes_so m ps (Ok composed) n same rest h = composed_so m ps composed.numbers.items composed.bytes.items n same rest h.came_to
  composes_so m ps (Err stop) n same rest h = faulted_so m ps stop n same rest h.came_to
