-- A composition over any access, by a pass of a hall.
use Rattle.std.proofs.Common.{◌≡◌, ℕ, true, List, [], ◌∷◌, Option, Some, Result, Ok, Err, sym, ap, ◌∙◌, subst, inl, inr}
use Rattle.cabinet_chest.specs.declared.shown.Note.{Note}
use Rattle.cache_access.specs.declared.fault.GetFault.{GetFault}
use Rattle.cache_access.specs.declared.fault.GetFault.TheVariants as got
use Rattle.cache_access.specs.Gets.{IsGot}
use Rattle.cache_core.specs.declared.outcome.Tile.{Tile}
use Rattle.cache_hall.specs.Gained.{same_told}
use Rattle.cache_hall.specs.Gets.{Gets}
use Rattle.cache_hall.specs.Turned.{GainsTurns, HallPass}
use Rattle.catalog.specs.declared.catalogue.Catalogue.{Catalogue}
use Rattle.layer_recipes.specs.declared.composed.Composed.{Composed}
use Rattle.layer_recipes.specs.declared.composed.ComposeFault.{ComposeFault}
use Rattle.layer_recipes.specs.declared.place.TilePlace.{TilePlace}
use Rattle.layer_recipes.specs.declared.recipe.Part.{Part}
use Rattle.layer_recipes.specs.OfCatalogue.{tile_at}
use Rattle.matrix_geometry.specs.declared.address.Address.{Address}
use Rattle.source_render.specs.Renders.{GivenImage, StaysGiven}
use Rattle.source_render.proofs.Staying.{stays_itself, stays_on}
use Rattle.truncation_list.specs.declared.book.FrontedBook.{FrontedBook}
use Rattle.turnstile.specs.declared.view.Made.{Made}
use Rattle.composite_layers.specs.OverAccess.{AreGot, CameTo, ComposesAt, GetsAt, HasStopped, MomentOf, Stops}
use Rattle.composite_layers.proofs.Later.{sourced_later}
use Rattle.composite_hall.specs.OverHall.{ComposesOver}

-- what makes the bytes true may be known by less
got_if : (c : Catalogue) (P Q : Type 0) (a : Address) (seen : FrontedBook) (gained : List (Made Note)) (r : Result Tile GetFault) → (Q → P) → IsGot c P a seen gained r → IsGot c Q a seen gained r
got_if c P Q a seen gained (Ok tile) less h = record {
  busy = h.busy;
  ask = h.ask;
  ends = h.ends;
  all = h.all;
  waited = h.waited;
  from = h.from;
  newer_than_seen = h.newer_than_seen;
  newer_than_found = h.newer_than_found;
  fresh = h.fresh;
  truth = λ q. h.truth (less q);
}
got_if c P Q a seen gained (Err got.SourceFault) less h = h
got_if c P Q a seen gained (Err got.Spent) less h = h
got_if c P Q a seen gained (Err got.OutOfMemory) less h = h

module _ (told : Option ℕ) (c : Catalogue) (place : TilePlace) where
  abbrev gets : Address → MomentOf HallPass → MomentOf HallPass → Result Tile GetFault → Type 0
  gets = GetsAt {C = HallPass} (λ p q gained. GainsTurns c p q gained) (λ p. p.told ≡ true) (λ p. p.book) told c

  -- if the pass tells a sound cabinet, the source is the catalogue's
  abbrev Owes : MomentOf HallPass → Type 0
  Owes m = m.cache.told ≡ true → told ≡ Some c.source

  -- what was given stays given while parts are got
  got_stays : (m : MomentOf HallPass) (ps : List Part) (tiles : List Tile) (n : MomentOf HallPass) → AreGot gets place m ps tiles n → StaysGiven m.renders.gave n.renders.gave
  got_stays m [] [] n h = subst (λ (x : MomentOf HallPass). StaysGiven x.renders.gave n.renders.gave) h (stays_itself n.renders.gave)
  got_stays m [] (t ∷ ts) n h = absurd h
  got_stays m (p ∷ ps) [] n h = absurd h
  got_stays m (p ∷ ps) (t ∷ ts) n h = stays_on m.renders.gave h.0.renders.gave n.renders.gave h.1.goes_on.grows (got_stays h.0 ps ts n h.2)

  stops_stays : (m : MomentOf HallPass) (p : Part) (stop : ComposeFault) (n : MomentOf HallPass) → Stops gets place m p stop n → StaysGiven m.renders.gave n.renders.gave
  stops_stays m p stop n (inl s) = s.1.goes_on.grows
  stops_stays m p stop n (inr s) = s.1.goes_on.grows

  -- a part's blobs are cut out of what was given by then, and so of what is given at last
  part_got : (gave : List GivenImage) (a : Address) (m n : MomentOf HallPass) (r : Result Tile GetFault) → StaysGiven n.renders.gave gave → Owes m → gets a m n r → Gets c gave a m.cache n.cache r
  part_got gave a m n r stays owes h = record {
    gained = h.gets.gained;
    gains = h.gets.gains;
    from_source = sourced_later c n.renders.gave gave stays h.gets.gained h.gets.from_source;
    got = got_if c ((m.cache.told ≡ true) × (told ≡ Some c.source)) (m.cache.told ≡ true) a m.cache.book h.gets.gained r (λ tells. (tells, owes tells)) h.gets.got;
  }

  owes_on : (a : Address) (m n : MomentOf HallPass) (r : Result Tile GetFault) → Owes m → gets a m n r → Owes n
  owes_on a m n r owes h = λ tells. owes (sym (same_told c m.cache n.cache h.gets.gained h.gets.gains) ∙ tells)

  are_got : (gave : List GivenImage) (m : MomentOf HallPass) (ps : List Part) (tiles : List Tile) (n : MomentOf HallPass) → StaysGiven n.renders.gave gave → Owes m → AreGot gets place m ps tiles n
      → AreGot (Gets c gave) place m.cache ps tiles n.cache × Owes n
  are_got gave m [] [] n stays owes h = (ap (λ (x : MomentOf HallPass). x.cache) h, subst (λ (x : MomentOf HallPass). Owes x) (sym h) owes)
  are_got gave m [] (t ∷ ts) n stays owes h = absurd h
  are_got gave m (p ∷ ps) [] n stays owes h = absurd h
  are_got gave m (p ∷ ps) (t ∷ ts) n stays owes h =
      let more = are_got gave h.0 ps ts n stays (owes_on (tile_at place p) m h.0 (Ok t) owes h.1) h.2 in
      let stays_then = stays_on h.0.renders.gave n.renders.gave gave (got_stays h.0 ps ts n h.2) stays in
      ((h.0.cache, part_got gave (tile_at place p) m h.0 (Ok t) stays_then owes h.1, more.0), more.1)

  stops_so : (m : MomentOf HallPass) (p : Part) (stop : ComposeFault) (n : MomentOf HallPass) → Owes m → Stops gets place m p stop n → Stops (Gets c n.renders.gave) place m.cache p stop n.cache
  stops_so m p stop n owes (inl s) = inl (s.0, part_got n.renders.gave (tile_at place p) m n (Err s.0) (stays_itself n.renders.gave) owes s.1, s.2)
  stops_so m p stop n owes (inr s) = inr (s.0, part_got n.renders.gave (tile_at place p) m n (Ok s.0) (stays_itself n.renders.gave) owes s.1, s.2)

  stopped_so : (m : MomentOf HallPass) (ps : List Part) (stop : ComposeFault) (n : MomentOf HallPass) → Owes m → HasStopped gets place m ps stop n → HasStopped (Gets c n.renders.gave) place m.cache ps stop n.cache
  stopped_so m ps stop n owes h =
      let above = are_got n.renders.gave m h.above h.tiles h.mid (stops_stays h.mid h.part stop n h.stops) owes h.got in
      record { above = h.above; part = h.part; below = h.below; all = h.all; tiles = h.tiles; mid = h.mid.cache; got = above.0; stops = stops_so h.mid h.part stop n above.1 h.stops }

  came_so : (m : MomentOf HallPass) (ps : List Part) (r : Result Composed ComposeFault) (n : MomentOf HallPass) → Owes m → CameTo gets c ((m.cache.told ≡ true) × (told ≡ Some c.source)) m.cache.book place m ps r n
      → CameTo (Gets c n.renders.gave) c (m.cache.told ≡ true) m.cache.book place m.cache ps r n.cache
  came_so m ps (Ok composed) n owes h = record {
    tiles = h.tiles;
    got = (are_got n.renders.gave m ps h.tiles n (stays_itself n.renders.gave) owes h.got).0;
    numbered = h.numbered;
    laid = h.laid;
    truth = λ tells. h.truth (tells, owes tells);
    newer = h.newer;
  }
  came_so m ps (Err stop) n owes (inl h) = inl (stopped_so m ps stop n owes h)
  came_so m ps (Err stop) n owes (inr h) = inr (h.0, ap (λ (x : MomentOf HallPass). x.cache) h.1)

  pub composes_so : (m : MomentOf HallPass) (ps : List Part) (r : Result Composed ComposeFault) (n : MomentOf HallPass) → Owes m
      → ComposesAt {C = HallPass} (λ p q gained. GainsTurns c p q gained) (λ p. p.told ≡ true) (λ p. p.book) told c place m ps r n → ComposesOver c n.renders.gave place m.cache ps r n.cache
  composes_so m ps r n owes h = record { gained = h.gained; gains = h.gains; from_source = h.from_source; came_to = came_so m ps r n owes h.came_to }
