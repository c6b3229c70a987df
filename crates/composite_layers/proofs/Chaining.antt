-- Parts that were got one after the other.
use Rattle.std.proofs.Common.{◌≡◌, ℕ, ◌<◌, suc, zero, List, [], ◌∷◌, ◌++◌, length, take, drop, get_or, Result, Ok, refl, sym, ap, ◌∙◌, subst, arith}
use Rattle.std.specs.List.{AllByRecursion}
use Rattle.std.proofs.lemmas.List.{take-append-drop}
use Rattle.std.proofs.Math.Seq.{drop-cons}
use Rattle.cache_access.specs.declared.fault.GetFault.{GetFault}
use Rattle.cache_core.specs.declared.outcome.Tile.{Tile}
use Rattle.matrix_geometry.specs.declared.address.Address.{Address}
use Rattle.raster_field.specs.declared.colour.Colour.{Colour}
use Rattle.layer_recipes.specs.declared.composed.ComposeFault.{ComposeFault}
use Rattle.layer_recipes.specs.declared.place.TilePlace.{TilePlace}
use Rattle.layer_recipes.specs.declared.recipe.Part.{Part}
use Rattle.layer_recipes.specs.OfCatalogue.{tile_at}
use Rattle.layer_recipes.specs.Overlaid.{Lays, OverlaySheet}
use Rattle.composite_layers.specs.OverAccess.{AreGot, AreLaidSoFar, HasStopped, IsLaid, Stops}
use Rattle.composite_layers.specs.Parts.{keyed, numbers_of}

numbers_more : (tiles : List Tile) (tile : Tile) → numbers_of (tiles ++ tile ∷ []) ≡ numbers_of tiles ++ tile.number ∷ []
numbers_more [] tile = refl
numbers_more (t ∷ ts) tile = ap (λ (xs : List ℕ). t.number ∷ xs) (numbers_more ts tile)

module _ {C : Type 0} (gets : Address → C → C → Result Tile GetFault → Type 0) (place : TilePlace) where
  -- ONE PART MORE

  got_more : (m : C) (ps : List Part) (tiles : List Tile) (n k : C) (p : Part) (tile : Tile) → AreGot gets place m ps tiles n → gets (tile_at place p) n k (Ok tile) → AreGot gets place m (ps ++ p ∷ []) (tiles ++ tile ∷ []) k
  got_more m [] [] n k p tile so_far got = (k, subst (λ (x : C). gets (tile_at place p) x k (Ok tile)) so_far got, refl)
  got_more m [] (t ∷ ts) n k p tile so_far got = absurd so_far
  got_more m (q ∷ ps) [] n k p tile so_far got = absurd so_far
  got_more m (q ∷ ps) (t ∷ ts) n k p tile so_far got = (so_far.0, so_far.1, got_more so_far.0 ps ts n k p tile so_far.2 got)

  keyed_more : (m : C) (ps : List Part) (tiles : List Tile) (n : C) (p : Part) (tile : Tile) → AreGot gets place m ps tiles n → keyed (ps ++ p ∷ []) (tiles ++ tile ∷ []) ≡ keyed ps tiles ++ (p.key, tile.bytes) ∷ []
  keyed_more m [] [] n p tile so_far = refl
  keyed_more m [] (t ∷ ts) n p tile so_far = absurd so_far
  keyed_more m (q ∷ ps) [] n p tile so_far = absurd so_far
  keyed_more m (q ∷ ps) (t ∷ ts) n p tile so_far = ap (λ (xs : List (Colour × List ℕ)). (q.key, t.bytes) ∷ xs) (keyed_more so_far.0 ps ts n p tile so_far.2)

  pub none_laid : (m : C) (sheet : OverlaySheet) (numbers : List ℕ) → Lays sheet [] → numbers ≡ [] → AreLaidSoFar gets place m [] sheet sheet numbers m
  none_laid m sheet numbers lays none = record { tiles = []; got = refl; matrix = refl; lays = lays; numbered = none }

  pub more_laid : (m n k : C) (ps qs : List Part) (p : Part) (first sheet sheet' : OverlaySheet) (numbers numbers' : List ℕ) → qs ≡ ps ++ p ∷ []
      → AreLaidSoFar gets place m ps first sheet numbers n → IsLaid gets place n p sheet sheet' numbers numbers' k → AreLaidSoFar gets place m qs first sheet' numbers' k
  more_laid m n k ps qs p first sheet sheet' numbers numbers' are so_far is =
      subst (λ (xs : List Part). AreLaidSoFar gets place m xs first sheet' numbers' k) (sym are) (record {
        tiles = so_far.tiles ++ is.tile ∷ [];
        got = got_more m ps so_far.tiles n k p is.tile so_far.got is.got;
        matrix = is.matrix ∙ so_far.matrix;
        lays = subst (λ (xs : List (Colour × List ℕ)). Lays sheet' xs) (sym (keyed_more m ps so_far.tiles n p is.tile so_far.got)) (is.lays (keyed ps so_far.tiles) so_far.lays);
        numbered = is.numbered ∙ ap (λ (xs : List ℕ). xs ++ is.tile.number ∷ []) so_far.numbered ∙ sym (numbers_more so_far.tiles is.tile);
      })

  -- a part stopped it
  pub stopped_at : (m n k : C) (ps above below : List Part) (p : Part) (first sheet : OverlaySheet) (numbers : List ℕ) (stop : ComposeFault) → ps ≡ above ++ p ∷ below
      → AreLaidSoFar gets place m above first sheet numbers n → Stops gets place n p stop k → HasStopped gets place m ps stop k
  stopped_at m n k ps above below p first sheet numbers stop all so_far stops =
      record { above = above; part = p; below = below; all = all; tiles = so_far.tiles; mid = n; got = so_far.got; stops = stops }

-- PLACES in the list of parts

pub part_at : {A : Type 0} (P : A → Type 0) (xs : List A) (i : ℕ) (d : A) → AllByRecursion P xs → i < length xs → P (get_or xs i d)
part_at P [] i d all within = absurd (omega arith)
part_at P (y ∷ ys) zero d all within = all.0
part_at P (y ∷ ys) (suc i) d all within = part_at P ys i d all.1 (omega arith)

pub parted_at : {A : Type 0} (xs : List A) (i : ℕ) (d : A) → i < length xs → xs ≡ take i xs ++ get_or xs i d ∷ drop (suc i) xs
parted_at xs i d within = sym (take-append-drop i xs) ∙ ap (λ (ys : List _). take i xs ++ ys) (drop-cons xs i d within)
