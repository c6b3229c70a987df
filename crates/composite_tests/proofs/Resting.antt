-- A cabinet in which a composite was made is ready for the next one.
use Rattle.std.proofs.Common.{ℕ, List, [], ◌∷◌, Option, Result, Ok, Err, sym, subst, inl, inr}
use Rattle.cache_core.specs.declared.outcome.Tile.{Tile}
use Rattle.cache_core.specs.declared.outcome.TileOutcome.{TileOutcome}
use Rattle.cache_core.specs.declared.outcome.TileOutcome.TheVariants as core
use Rattle.catalog.specs.declared.catalogue.Catalogue.{Catalogue}
use Rattle.catalog.specs.Valid.{IsValid}
use Rattle.composite_layers.specs.Composes.{Composes, HasStopped, Stops}
use Rattle.composite_layers.specs.Parts.{AreGot, CompositionMoment, IsPartGot}
use Rattle.layer_recipes.specs.declared.composed.Composed.{Composed}
use Rattle.layer_recipes.specs.declared.composed.ComposeFault.{ComposeFault}
use Rattle.layer_recipes.specs.declared.place.TilePlace.{TilePlace}
use Rattle.layer_recipes.specs.declared.recipe.Part.{Part}
use Rattle.layer_recipes.specs.declared.recipe.Recipe.{Recipe}
use Rattle.layer_recipes.specs.OfCatalogue.{IsRecipeOf}
use Rattle.matrix_geometry.specs.declared.address.Address.{Address}
use Rattle.composite_tests.specs.Ready.{IsReady}

got_ready : (told : Option ℕ) (r : Recipe) (m n : CompositionMoment) (a : Address) (ended : TileOutcome) → IsPartGot told m a ended n → IsReady m.cabinet r → IsReady n.cabinet r
got_ready told r m n a ended got ready = record {
  valid = subst (λ (c : Catalogue). IsValid c) (sym got.catalogue) ready.valid;
  recipe = subst (λ (c : Catalogue). IsRecipeOf c r) (sym got.catalogue) ready.recipe;
  rests = got.rests;
}

are_got_ready : (told : Option ℕ) (place : TilePlace) (r : Recipe) (m : CompositionMoment) (ps : List Part) (tiles : List Tile) (n : CompositionMoment) → AreGot told place m ps tiles n → IsReady m.cabinet r → IsReady n.cabinet r
are_got_ready told place r m [] [] n got ready = subst (λ (x : CompositionMoment). IsReady x.cabinet r) (sym got) ready
are_got_ready told place r m [] (t ∷ ts) n got ready = absurd got
are_got_ready told place r m (p ∷ ps) [] n got ready = absurd got
are_got_ready told place r m (p ∷ ps) (t ∷ ts) n got ready = are_got_ready told place r got.0 ps ts n got.2 (got_ready told r m got.0 _ (core.Tile t) got.1 ready)

stops_ready : (told : Option ℕ) (place : TilePlace) (r : Recipe) (m : CompositionMoment) (part : Part) (stop : ComposeFault) (n : CompositionMoment) → Stops told place m part stop n → IsReady m.cabinet r → IsReady n.cabinet r
stops_ready told place r m part stop n (inl s) ready = got_ready told r m n _ s.0 s.1 ready
stops_ready told place r m part stop n (inr s) ready = got_ready told r m n _ (core.Tile s.0) s.1 ready

stopped_ready : (told : Option ℕ) (place : TilePlace) (r : Recipe) (m : CompositionMoment) (ps : List Part) (stop : ComposeFault) (n : CompositionMoment) → HasStopped told place m ps stop n → IsReady m.cabinet r → IsReady n.cabinet r
stopped_ready told place r m ps stop n h ready = stops_ready told place r h.mid h.part stop n h.stops (are_got_ready told place r m h.above h.tiles h.mid h.got ready)

pub composes_ready : (told : Option ℕ) (place : TilePlace) (r : Recipe) (m : CompositionMoment) (ps : List Part) (result : Result Composed ComposeFault) (n : CompositionMoment) → Composes told place m ps result n → IsReady m.cabinet r → IsReady n.cabinet r
composes_ready told place r m ps (Ok composed) n h ready = are_got_ready told place r m ps h.tiles n h.got ready
composes_ready told place r m ps (Err stop) n (inl h) ready = stopped_ready told place r m ps stop n h ready
composes_ready told place r m ps (Err stop) n (inr h) ready = subst (λ (x : CompositionMoment). IsReady x.cabinet r) (sym h.1) ready
