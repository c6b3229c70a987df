use Rattle.std.proofs.Common.{◌≡◌, [], length, map, drop}
use Rattle.std.specs.List.{AllByRecursion}
use Rattle.serde_json.specs.View.{view}
use Rattle.layer_recipes.specs.OfCatalogue.{IsPartOf}
use Rattle.layer_recipes.specs.Outcome.{entries}
use Rattle.layer_recipes.specs.Recipes.{part_in}
use Rattle.layer_recipes.proofs.part.each_part.Given as goal

-- the objects that are left give the same as all of them, and each part so far is of the catalogue
abbrev pub invariant-loop-object : goal.invariant-loop-object
invariant-loop-object l =
    record {
      count : length l.parts.items ≡ l.object-index;
      of : AllByRecursion (IsPartOf l.catalogue l.grid) l.parts.items;
      same : entries (λ before. part_in l.catalogue l.grid (length before)) l.parts.items (map view (drop l.object-index l.objects)) ≡ entries (λ before. part_in l.catalogue l.grid (length before)) [] (map view l.objects);
    }
