-- The order of a line of a composition.
use Rattle.std.specs.Prelude.{ℕ, ◌≡◌, ◌+◌, ◌==◌, ◌&&◌, nat_eq, nat_le, nat_lt, if◌then◌else◌, List, length, take, drop, slice_get, slice_index, Option, Some, None, option_map, Result, Ok, Err, codes, ⊤}
use Rattle.std.specs.List.{starts_with}
use Rattle.std.specs.Str.Parse.{digits_value}
use Rattle.catalog.specs.declared.catalogue.Catalogue.{Catalogue}
use Rattle.job_forms.specs.Cover.{cover_of}
use Rattle.job_forms.specs.Outcome.{Outcome}
use Rattle.layer_recipes.specs.declared.place.TilePlace.{TilePlace}
use Rattle.layer_recipes.specs.OfCatalogue.{IsPlaceIn}
use Rattle.schedule_text.specs.declared.line.TheConstants.{LINE_LIMIT}
use Rattle.schedule_text.specs.Line.{digits_len}
use Rattle.served_covers.specs.OfCatalogue.{IsCoverOf}
use Rattle.truncation_list.specs.declared.cover.Cover.{Cover}
use Rattle.wmts_kvp.specs.Rows.{below, is_number}
use Rattle.compose_words.specs.declared.orders.CompositionOrder.{CompositionOrder}
use Rattle.compose_words.specs.declared.orders.CompositionOrder.TheVariants as order
use Rattle.compose_words.specs.declared.orders.UnreadOrder.{UnreadOrder}
use Rattle.compose_words.specs.declared.orders.UnreadOrder.TheVariants as unread

infixl 10 ◌>>=◌
abbrev ◌>>=◌ : {A B : Type 0} → Option A → (A → Option B) → Option B
(Some x) >>= f = f x
None >>= f = None

-- A PLACE

-- the number of 1 to 10 digits that a text is, where it is below the limit; zeros may stand in front
abbrev pub number_below : ℕ → List ℕ → Option ℕ
number_below limit digits = if nat_le (length digits) 10 && is_number digits then below limit (digits_value 10 digits) else None

-- the place that three texts name: the number of a matrix of the grid, and a row and a column of that matrix
unfoldable pub place_in : Catalogue → ℕ → List ℕ → List ℕ → List ℕ → Option TilePlace
place_in c grid z row col = do
  g ← slice_get c.grids grid
  z ← number_below (length g.matrices) z
  m ← slice_get g.matrices z
  row ← number_below m.rows row
  col ← number_below m.cols col
  Some (record { grid = grid; z = z; row = row; col = col })

-- the digits that a text begins with, and what stands behind the one blank (32 in ASCII) after them; none where no blank stands there
abbrev pub digits_and_rest : List ℕ → Option (List ℕ × List ℕ)
digits_and_rest text = if slice_index text (digits_len text) == 32 then Some (take (digits_len text) text, drop (digits_len text + 1) text) else None

-- three numbers with one blank between them
unfoldable pub place_of : Catalogue → ℕ → List ℕ → Option TilePlace
place_of c grid text = do
  first ← digits_and_rest text
  second ← digits_and_rest first.1
  place_in c grid first.0 second.0 second.1

-- A LINE

-- what stands behind a word in a line that begins with it
abbrev pub behind : List ℕ → List ℕ → Option (List ℕ)
behind word line = if starts_with nat_eq line word then Some (drop (length word) line) else None

-- the truncation by a cover, unless that was refused
abbrev pub truncation : Outcome Cover → Option CompositionOrder
truncation (Ok cover) = Some (order.Truncate cover)
truncation (Err fault) = None

-- by what stands behind `GET `, where that stands in front, or else by what stands behind `TRUNCATE `
abbrev pub order_by : Catalogue → ℕ → Option (List ℕ) → Option (List ℕ) → Option CompositionOrder
order_by c grid (Some place) cover = option_map order.Get (place_of c grid place)
order_by c grid None (Some cover) = truncation (cover_of c cover)
order_by c grid None None = None

-- What a line orders, for a recipe on the grid of this number: `GET` and a place, or `TRUNCATE` and a cover, in no more bytes than a line of
-- a schedule may have; none where a line isn't of this form.
unfoldable pub order_of : Catalogue → ℕ → List ℕ → Option CompositionOrder
order_of c grid line = if nat_lt LINE_LIMIT (length line) then None else order_by c grid (behind (codes "GET ") line) (behind (codes "TRUNCATE ") line)

-- the order is for this catalogue and this grid
abbrev pub IsOrderOf : Catalogue → ℕ → CompositionOrder → Type 0
IsOrderOf c grid (order.Get place) = (place.grid ≡ grid) × IsPlaceIn c place
IsOrderOf c grid (order.Truncate cover) = IsCoverOf c cover

-- what a reading gave is that, unless memory ran out
abbrev pub IsReadAs : Option CompositionOrder → Result CompositionOrder UnreadOrder → Type 0
IsReadAs o (Ok given) = o ≡ Some given
IsReadAs o (Err unread.Refused) = o ≡ None
IsReadAs o (Err unread.OutOfMemory) = ⊤
