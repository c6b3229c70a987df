-- What a composition over any access comes to.
use Rattle.std.proofs.Common.{◌≡◌, ℕ, List, [], ◌∷◌, ◌++◌, Option, Some, Result, Ok, Err, false, refl, sym, ap, ◌∙◌, subst, inl, inr}
use Rattle.std.specs.Prelude.{IsSomeAnd}
use Rattle.cabinet_chest.specs.declared.shown.Note.{Note}
use Rattle.cache_access.specs.declared.fault.GetFault.{GetFault}
use Rattle.cache_access.specs.Gets.{HasGot, IsNewerThanBook}
use Rattle.cache_access.specs.Sourced.{AreFromSource}
use Rattle.cache_access.specs.Turned.{AreTurns, left_by}
use Rattle.cache_access.proofs.Sourcing.{sourced_more}
use Rattle.cache_access.proofs.Turning.{left_answers}
use Rattle.cache_core.specs.declared.outcome.Tile.{Tile}
use Rattle.catalog.specs.declared.catalogue.Catalogue.{Catalogue}
use Rattle.catalog.specs.LookUp.{matrix_in}
use Rattle.matrix_geometry.specs.declared.address.Address.{Address}
use Rattle.matrix_geometry.specs.declared.matrix.Matrix.{Matrix}
use Rattle.raster_field.specs.declared.colour.Colour.{Colour}
use Rattle.raster_field.specs.TileText.{tile_text}
use Rattle.layer_recipes.specs.declared.composed.Composed.{Composed}
use Rattle.layer_recipes.specs.declared.composed.ComposeFault.{ComposeFault}
use Rattle.layer_recipes.specs.declared.composed.ComposeFault.TheVariants as fault
use Rattle.layer_recipes.specs.declared.place.TilePlace.{TilePlace}
use Rattle.layer_recipes.specs.declared.recipe.Part.{Part}
use Rattle.layer_recipes.specs.Composite.{composite, laid_over, told_parts}
use Rattle.layer_recipes.specs.OfCatalogue.{tile_at}
use Rattle.layer_recipes.specs.Overlaid.{Lays, OverlaySheet}
use Rattle.source_render.specs.Renders.{StaysGiven}
use Rattle.source_render.proofs.Staying.{stays_itself, stays_on}
use Rattle.truncation_list.proofs.Answering.{answers_for_cut, fronted_itself, fronted_through}
use Rattle.truncation_list.specs.declared.book.FrontedBook.{FrontedBook}
use Rattle.truncation_list.specs.Books.{AnswersForFronted}
use Rattle.turnstile.specs.declared.view.Made.{Made}
use Rattle.composite_layers.specs.OverAccess.{AreGot, AreLaidSoFar, AreNewer, ComposesAt, GetsAt, HasComposed, HasStopped, MomentOf, Stops}
use Rattle.composite_layers.specs.Parts.{keyed, numbers_of}
use Rattle.composite_layers.proofs.Later.{sourced_later}

-- BOOKS

-- the book that turns lead to answers for the one that they began with
pub turns_answer : (c : Catalogue) (seen left : FrontedBook) (ms : List (Made Note)) → AreTurns c false seen ms left → AnswersForFronted left seen
turns_answer c seen left [] turns = turns
turns_answer c seen left (m ∷ ms) turns = fronted_through left (left_by m) seen (turns_answer c (left_by m) left ms turns.1) (left_answers c false seen m turns.0)

older : (c : Catalogue) (a : Address) (number : ℕ) (seen later : FrontedBook) → AnswersForFronted later seen → IsNewerThanBook c a number later → IsNewerThanBook c a number seen
older c a number seen later answers newer = λ cut covers listed. newer cut covers (answers_for_cut later.book seen.book cut answers.book listed)

module _ {C : Type 0} (leads : C → C → List (Made Note) → Type 0) (sound : C → Type 0) (seen : C → FrontedBook) (told : Option ℕ) (c : Catalogue) (place : TilePlace) where
  abbrev gets : Address → MomentOf C → MomentOf C → Result Tile GetFault → Type 0
  gets = GetsAt leads sound seen told c

  abbrev Sound : MomentOf C → Type 0
  Sound m = sound m.cache × (told ≡ Some c.source)

  -- TEXTS

  -- if the cache is sound, the texts are those of the pictures
  told_texts : (m : MomentOf C) (ps : List Part) (tiles : List Tile) (n : MomentOf C) → Sound m → AreGot gets place m ps tiles n → keyed ps tiles ≡ told_parts c place ps (numbers_of tiles)
  told_texts m [] [] n known got = refl
  told_texts m [] (t ∷ ts) n known got = absurd got
  told_texts m (p ∷ ps) [] n known got = absurd got
  told_texts m (p ∷ ps) (t ∷ ts) n known got =
      let one : HasGot c (Sound m) (tile_at place p) (seen m.cache) got.1.gets.gained t = got.1.gets.got in
      let rest = told_texts got.0 ps ts n (got.1.still known.1 known.0, known.1) got.2 in
      ap (λ (xs : List ℕ). (p.key, xs) ∷ keyed ps ts) (one.truth known) ∙ ap (λ (xs : List (Colour × List ℕ)). (p.key, tile_text c t.number (tile_at place p)) ∷ xs) rest

  -- NEWNESS

  -- a tile that was got is newer than what had been seen at any time before
  newer_than : ((x y : C) (gained : List (Made Note)) → leads x y gained → AnswersForFronted (seen y) (seen x)) → (book : FrontedBook) (m : MomentOf C) (ps : List Part) (tiles : List Tile) (n : MomentOf C)
      → AnswersForFronted (seen m.cache) book → AreGot gets place m ps tiles n → AreNewer c place book ps tiles
  newer_than on book m [] tiles n answers got = tt
  newer_than on book m (p ∷ ps) [] n answers got = tt
  newer_than on book m (p ∷ ps) (t ∷ ts) n answers got =
      let one : HasGot c (Sound m) (tile_at place p) (seen m.cache) got.1.gets.gained t = got.1.gets.got in (
        older c (tile_at place p) t.number book (seen m.cache) answers one.newer_than_seen,
        newer_than on book got.0 ps ts n (fronted_through (seen got.0.cache) (seen m.cache) book (on m.cache got.0.cache got.1.gets.gained got.1.gets.gains) answers) got.2,
      )

  composed_of : ((x y : C) (gained : List (Made Note)) → leads x y gained → AnswersForFronted (seen y) (seen x)) → (m n : MomentOf C) (ps : List Part) (x : Matrix) (first sheet : OverlaySheet) (numbers bytes : List ℕ)
      → ((parts : List Part) (numbers : List ℕ) → laid_over x (told_parts c place parts numbers) ≡ composite c place parts numbers)
      → matrix_in c place.grid place.z ≡ Some x → first.matrix ≡ x → AreLaidSoFar gets place m ps first sheet numbers n
      → ((parts : List (Colour × List ℕ)) → Lays sheet parts → bytes ≡ laid_over sheet.matrix parts) → HasComposed gets c (Sound m) (seen m.cache) place m ps numbers bytes n
  composed_of on m n ps x first sheet numbers bytes law matrix is so_far gives =
      let text : bytes ≡ laid_over x (keyed ps so_far.tiles) = gives (keyed ps so_far.tiles) so_far.lays ∙ ap (λ (y : Matrix). laid_over y (keyed ps so_far.tiles)) (so_far.matrix ∙ is) in
      record {
        tiles = so_far.tiles;
        got = so_far.got;
        numbered = so_far.numbered;
        laid = subst (λ (o : Option Matrix). IsSomeAnd o (λ x. bytes ≡ laid_over x (keyed ps so_far.tiles))) (sym matrix) text;
        truth = λ known. text ∙ ap (λ (parts : List (Colour × List ℕ)). laid_over x parts) (told_texts m ps so_far.tiles n known so_far.got)
            ∙ law ps (numbers_of so_far.tiles) ∙ sym (ap (λ (ks : List ℕ). composite c place ps ks) so_far.numbered);
        newer = newer_than on (seen m.cache) m ps so_far.tiles n (fronted_itself (seen m.cache)) so_far.got;
      }

  -- ALL TURNS

  record HasGained (m n : MomentOf C) : Type 0 where
    gained : List (Made Note)
    gains : leads m.cache n.cache gained
    from_source : AreFromSource c n.renders.gave gained
    grows : StaysGiven m.renders.gave n.renders.gave

  gained_by : (a : Address) (m n : MomentOf C) (r : Result Tile GetFault) → gets a m n r → HasGained m n
  gained_by a m n r h = record { gained = h.gets.gained; gains = h.gets.gains; from_source = h.gets.from_source; grows = h.goes_on.grows }

  module _ (none : (x : C) → leads x x []) (on : (x y z : C) (first then : List (Made Note)) → leads x y first → leads y z then → leads x z (first ++ then)) where
    gained_none : (m : MomentOf C) → HasGained m m
    gained_none m = record { gained = []; gains = none m.cache; from_source = tt; grows = stays_itself m.renders.gave }

    gained_then : (m k n : MomentOf C) → HasGained m k → HasGained k n → HasGained m n
    gained_then m k n first then = record {
      gained = first.gained ++ then.gained;
      gains = on m.cache k.cache n.cache first.gained then.gained first.gains then.gains;
      from_source = sourced_more c n.renders.gave first.gained then.gained (sourced_later c k.renders.gave n.renders.gave then.grows first.gained first.from_source) then.from_source;
      grows = stays_on m.renders.gave k.renders.gave n.renders.gave first.grows then.grows;
    }

    gained_all : (m : MomentOf C) (ps : List Part) (tiles : List Tile) (n : MomentOf C) → AreGot gets place m ps tiles n → HasGained m n
    gained_all m [] [] n got = subst (HasGained m) (sym got) (gained_none m)
    gained_all m [] (t ∷ ts) n got = absurd got
    gained_all m (p ∷ ps) [] n got = absurd got
    gained_all m (p ∷ ps) (t ∷ ts) n got = gained_then m got.0 n (gained_by (tile_at place p) m got.0 (Ok t) got.1) (gained_all got.0 ps ts n got.2)

    stops_gained : (m : MomentOf C) (part : Part) (stop : ComposeFault) (n : MomentOf C) → Stops gets place m part stop n → HasGained m n
    stops_gained m part stop n (inl s) = gained_by (tile_at place part) m n (Err s.0) s.1
    stops_gained m part stop n (inr s) = gained_by (tile_at place part) m n (Ok s.0) s.1

    -- THE WHOLE

    pub composes_of : ((x y : C) (gained : List (Made Note)) → leads x y gained → AnswersForFronted (seen y) (seen x)) → (m n : MomentOf C) (ps : List Part) (x : Matrix) (first sheet : OverlaySheet) (composed : Composed)
        → ((parts : List Part) (numbers : List ℕ) → laid_over x (told_parts c place parts numbers) ≡ composite c place parts numbers)
        → matrix_in c place.grid place.z ≡ Some x → first.matrix ≡ x → AreLaidSoFar gets place m ps first sheet composed.numbers.items n
        → ((parts : List (Colour × List ℕ)) → Lays sheet parts → composed.bytes.items ≡ laid_over sheet.matrix parts) → ComposesAt leads sound seen told c place m ps (Ok composed) n
    composes_of answer m n ps x first sheet composed law matrix is so_far gives =
        let all : HasGained m n = gained_all m ps so_far.tiles n so_far.got in
        record { gained = all.gained; gains = all.gains; from_source = all.from_source; came_to = composed_of answer m n ps x first sheet composed.numbers.items composed.bytes.items law matrix is so_far gives }

    pub composes_stopped : (m n : MomentOf C) (ps : List Part) (stop : ComposeFault) → HasStopped gets place m ps stop n → ComposesAt leads sound seen told c place m ps (Err stop) n
    composes_stopped m n ps stop h =
        let all : HasGained m n = gained_then m h.mid n (gained_all m h.above h.tiles h.mid h.got) (stops_gained h.mid h.part stop n h.stops) in
        record { gained = all.gained; gains = all.gains; from_source = all.from_source; came_to = inl h }

    pub composes_nothing : (m : MomentOf C) (ps : List Part) → ComposesAt leads sound seen told c place m ps (Err fault.OutOfMemory) m
    composes_nothing m ps = let all : HasGained m m = gained_none m in record { gained = all.gained; gains = all.gains; from_source = all.from_source; came_to = inr (refl, refl) }
