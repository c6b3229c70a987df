use Rattle.std.proofs.Common.{◌≡◌, [], Ok, length, map, drop}
use Rattle.catalog.specs.FirstFault.{each, grid_number_test}
use Rattle.config_text.specs.Reading.{entries}
use Rattle.config_text.specs.Layers.{grid_number}
use Rattle.config_text.proofs.layers.numbers_of.Given as goal

abbrev pub invariant-loop-name : goal.invariant-loop-name
invariant-loop-name l =
    record {
      count : length l.numbers.items ≡ l.name-index;
      met : each (grid_number_test l.at l.grids) [] l.numbers.items ≡ Ok tt;
      same : entries (grid_number l.at l.grids) l.numbers.items (map (λ n. n) (drop l.name-index l.names)) ≡ entries (grid_number l.at l.grids) [] (map (λ n. n) l.names);
    }
