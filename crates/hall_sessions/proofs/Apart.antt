-- The path of a composite is none of the table of paths: no message asks for a tile there.
use Rattle.std.proofs.Common.{ℕ, ◌≡◌, ◌==◌, ◌++◌, Bool, true, false, if◌then◌else◌, List, take, drop, length, Some, None, codes, nat_eq, refl, sym, ap, ◌∙◌, take-append-drop}
use Rattle.std.specs.List.{starts_with}
use Rattle.std.proofs.lemmas.Slice.Eq.{bytes_eq-Decides}
use Rattle.catalog.specs.declared.catalogue.Catalogue.{Catalogue}
use Rattle.composite_requests.specs.Routes.{by_get, inside, of_inside, request_for as composite_request_for}
use Rattle.http_wire.specs.declared.message.Message.{Message}
use Rattle.http_wire.specs.declared.message.Method.{Method}
use Rattle.layer_recipes.specs.declared.book.RecipeBook.{RecipeBook}
use Rattle.matrix_geometry.specs.declared.address.Address.{Address}
use Rattle.tile_requests.specs.declared.request.Request.TheVariants as request
use Rattle.tile_requests.specs.Routes.{path_of, request_at, request_for}

-- a path that begins so is this front and a rest
begun : (path : List ℕ) → starts_with nat_eq path (codes "/composites/") ≡ true → path ≡ codes "/composites/" ++ drop 12 path
begun path is =
    let front : codes "/composites/" ≡ take 12 path = (bytes_eq-Decides (codes "/composites/") (take 12 path)).0 is in
    sym (take-append-drop 12 path) ∙ ap (λ (xs : List ℕ). xs ++ drop 12 path) (sym front)

-- there is nothing in the table
not_found : (c : Catalogue) (method : Method) (target body rest : List ℕ) → path_of target ≡ codes "/composites/" ++ rest → request_at c method target body ≡ request.NotFound
unfolding request_at
not_found c method target body rest is = rw is refl

no_tile : (a : Address) → request.NotFound ≡ request.Tile a → ⊥
no_tile a e = absurd (cc)

by_path : (c : Catalogue) (recipes : RecipeBook) (m : Message) (a : Address) → request_for c m ≡ request.Tile a → (none starts : Bool) → starts_with nat_eq (path_of m.target) (codes "/composites/") ≡ starts
    → (if none then None else (if starts then Some (by_get m.method (of_inside c recipes (inside (path_of m.target)))) else None)) ≡ None
by_path c recipes m a is true starts so = refl
by_path c recipes m a is false true so = absurd (no_tile a (sym (not_found c m.method m.target m.body (drop 12 (path_of m.target)) (begun (path_of m.target) so)) ∙ is))
by_path c recipes m a is false false so = refl

-- who asks for a tile asks for no composite, whatever the recipes
pub no_composite_at_tile : (c : Catalogue) (recipes : RecipeBook) (m : Message) (a : Address) → request_for c m ≡ request.Tile a → composite_request_for c recipes m ≡ None
unfolding composite_request_for
no_composite_at_tile c recipes m a is = by_path c recipes m a is (length recipes.recipes.items == 0) (starts_with nat_eq (path_of m.target) (codes "/composites/")) refl
