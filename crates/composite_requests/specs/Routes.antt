-- Where a message leads below /composites/, by the recipes of a server.
use Rattle.std.specs.Prelude.{ℕ, ◌≡◌, ◌==◌, nat_eq, if◌then◌else◌, List, [], ◌∷◌, length, Option, Some, None, option_and_then, option_map, slice_get, Ok, Err, codes, IsSomeAnd, ⊤}
use Rattle.std.specs.List.{slice_split, starts_with}
use Rattle.catalog.specs.declared.catalogue.Catalogue.{Catalogue}
use Rattle.http_wire.specs.declared.message.Message.{Message}
use Rattle.http_wire.specs.declared.message.Method.{Method}
use Rattle.http_wire.specs.declared.message.Method.TheVariants.{Get}
use Rattle.layer_recipes.specs.declared.book.RecipeBook.{RecipeBook}
use Rattle.layer_recipes.specs.declared.place.TilePlace.{TilePlace}
use Rattle.layer_recipes.specs.Books.{recipe_named}
use Rattle.layer_recipes.specs.OfCatalogue.{IsPlaceIn}
use Rattle.tile_requests.specs.Routes.{path_of}
use Rattle.wmts_kvp.specs.declared.query.Query.TheVariants as query
use Rattle.wmts_kvp.specs.Rows.{Row}
use Rattle.wmts_rest.specs.Paths.{after, before, text_of}
use Rattle.composite_requests.specs.declared.request.CompositeRequest.{CompositeRequest}
use Rattle.composite_requests.specs.declared.request.CompositeRequest.TheVariants as request
use Rattle.composite_requests.specs.Places.{place_in}

-- THE PATH

-- the text, or else the other one
abbrev pub or_else : Option (List ℕ) → Option (List ℕ) → Option (List ℕ)
or_else None other = other
or_else (Some text) other = Some text

-- what stands before `.ppm` or `.png`
abbrev pub before_ending : List ℕ → Option (List ℕ)
before_ending text = or_else (before (codes ".ppm") text) (before (codes ".png") text)

-- what stands between `/composites/` and that
unfoldable pub inside : List ℕ → Option (List ℕ)
inside path = option_and_then before_ending (after (codes "/composites/") path)

-- WHAT IS ASKED FOR

-- the composite of a recipe at a place, or the refusal of the place
abbrev pub composite_or : ℕ → Row TilePlace → CompositeRequest
composite_or number (Ok place) = request.Composite number place
composite_or number (Err (query.Refused code locator)) = request.Refused code locator
composite_or number (Err (query.Tile a)) = request.NotFound
composite_or number (Err query.Capabilities) = request.NotFound

-- the grid of the recipe of this number
abbrev pub grid_at : RecipeBook → ℕ → Option ℕ
grid_at book number = option_map (λ n. n.recipe.grid) (slice_get book.recipes.items number)

abbrev pub on_grid : Catalogue → ℕ → Option ℕ → List ℕ → List ℕ → List ℕ → CompositeRequest
on_grid c number None z row col = request.NotFound
on_grid c number (Some grid) z row col = composite_or number (place_in c grid z row col)

abbrev pub of_recipe : Catalogue → RecipeBook → Option ℕ → List ℕ → List ℕ → List ℕ → CompositeRequest
of_recipe c book None z row col = request.NotFound
of_recipe c book (Some number) z row col = on_grid c number (grid_at book number) z row col

-- four segments: the name of a recipe, and the numbers of a matrix, a row and a column, each with its escapes decoded
abbrev pub of_segments : Catalogue → RecipeBook → List (List ℕ) → CompositeRequest
of_segments c book [] = request.NotFound
of_segments c book (name ∷ []) = request.NotFound
of_segments c book (name ∷ z ∷ []) = request.NotFound
of_segments c book (name ∷ z ∷ row ∷ []) = request.NotFound
of_segments c book (name ∷ z ∷ row ∷ col ∷ []) = of_recipe c book (recipe_named book (text_of name)) (text_of z) (text_of row) (text_of col)
of_segments c book (name ∷ z ∷ row ∷ col ∷ more ∷ rest) = request.NotFound

abbrev pub of_inside : Catalogue → RecipeBook → Option (List ℕ) → CompositeRequest
of_inside c book None = request.NotFound
of_inside c book (Some text) = of_segments c book (slice_split (λ b. b == 47) text)

-- the path takes one method
abbrev pub by_get : Method → CompositeRequest → CompositeRequest
by_get Get r = r
by_get method r = request.WrongMethod

-- what a message asks for below /composites/, where there are recipes; all other paths are another table's
unfoldable pub request_for : Catalogue → RecipeBook → Message → Option CompositeRequest
request_for c book m =
    if length book.recipes.items == 0 then None else
    (if starts_with nat_eq (path_of m.target) (codes "/composites/") then Some (by_get m.method (of_inside c book (inside (path_of m.target)))) else
    None)

-- a composite that is asked for is of a recipe that is there, at a place of its grid
abbrev pub IsOf : Catalogue → RecipeBook → CompositeRequest → Type 0
IsOf c book (request.Composite number place) = IsSomeAnd (slice_get book.recipes.items number) (λ n. place.grid ≡ n.recipe.grid) × IsPlaceIn c place
IsOf c book (request.Refused code locator) = ⊤
IsOf c book request.NotFound = ⊤
IsOf c book request.WrongMethod = ⊤
