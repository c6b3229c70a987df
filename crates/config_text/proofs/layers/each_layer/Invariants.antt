use Rattle.std.proofs.Common.{◌≡◌, [], Ok, length, map, drop}
use Rattle.serde_json.specs.View.{view}
use Rattle.catalog.specs.FirstFault.{each, layer_test}
use Rattle.config_text.specs.Reading.{entries}
use Rattle.config_text.specs.Layers.{layer_of}
use Rattle.config_text.proofs.layers.each_layer.Given as goal

abbrev pub invariant-loop-value : goal.invariant-loop-value
invariant-loop-value l =
    record {
      count : length l.layers.items ≡ l.value-index;
      met : each (layer_test l.grids) [] l.layers.items ≡ Ok tt;
      same : entries (layer_of l.grids) l.layers.items (map view (drop l.value-index l.values)) ≡ entries (layer_of l.grids) [] (map view l.values);
    }
