use Rattle.std.proofs.Common.{◌≡◌, [], length, map, drop}
use Rattle.serde_json.specs.View.{view}
use Rattle.http_source.specs.Forms.{layer_url}
use Rattle.http_source.specs.Outcome.{entries}
use Rattle.http_source.proofs.layers.each_layer.Given as goal

-- the objects that are left give the same as all of them
abbrev pub invariant-loop-object : goal.invariant-loop-object
invariant-loop-object l =
    record {
      count : length l.entries.items ≡ l.object-index;
      same : entries (layer_url l.catalogue) l.entries.items (map view (drop l.object-index l.objects)) ≡ entries (layer_url l.catalogue) [] (map view l.objects);
    }
