use Rattle.std.proofs.Common.{◌≡◌, ◌≤◌, [], length, map}
use Rattle.std.specs.List.{AllByRecursion}
use Rattle.serde_json.specs.View.{members_view}
use Rattle.layer_recipes.specs.Books.{IsNamedOf, entries_in, entry_of}
use Rattle.layer_recipes.proofs.book_reading.entries_in.Given as goal

-- the members that are left give the same as all of them, and each recipe so far is of the catalogue
abbrev pub invariant-loop-name : goal.invariant-loop-name
invariant-loop-name l =
    record {
      few : length l.recipes.items ≤ 64;
      of : AllByRecursion (IsNamedOf l.catalogue) l.recipes.items;
      same : entries_in l.catalogue (map entry_of l.recipes.items) (members_view l.name-iterator) ≡ entries_in l.catalogue [] (members_view l.members.entries);
    }
