-- Passes of a new hall fit it, and so does a book without recipes.
use Rattle.std.proofs.Common.{◌≡◌, false, List, [], length, ap, sym, subst, arith, ◌∙◌}
use Rattle.std.specs.List.{AllByRecursion}
use Rattle.catalog.specs.Demo.{demo}
use Rattle.catalog.specs.declared.catalogue.Catalogue.{Catalogue}
use Rattle.catalog.specs.Valid.{IsValid}
use Rattle.layer_recipes.specs.declared.book.NamedRecipe.{NamedRecipe}
use Rattle.layer_recipes.specs.declared.book.RecipeBook.{RecipeBook}
use Rattle.layer_recipes.specs.Books.{IsBookOf, IsNamedOf}
use Rattle.truncation_list.specs.declared.book.FrontedBook.{FrontedBook}
use Rattle.turnstile.specs.Passes.{Identity}
use Rattle.cache_hall.specs.Opened.{IsFirstPass}
use Rattle.cache_hall.specs.Turned.{HallPass, IsPassOf}
use Rattle.hall_tests.specs.Fit.{IsFit}

pub fit_first : (t : Identity) (c : Catalogue) (book : FrontedBook) (p : HallPass) → IsPassOf t.table c p → IsFirstPass false book p → c ≡ demo → IsValid c → IsFit t c p
fit_first t c book p of first is valid = record { of = of; untold = first.same_mark; is_demo = is; valid = valid }

pub no_recipes_fit : (c : Catalogue) (b : RecipeBook) → b.recipes.items ≡ [] → IsBookOf c b
no_recipes_fit c b none = record {
  few = let count : length b.recipes.items ≡ 0 = ap length none in omega (arith, count);
  each = subst (λ (ns : List NamedRecipe). AllByRecursion (IsNamedOf c) ns) (sym none) tt;
}
