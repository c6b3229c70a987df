use Rattle.std.proofs.Common.{◌≡◌, [], Ok, length, map, drop}
use Rattle.serde_json.specs.View.{view}
use Rattle.catalog.specs.FirstFault.{each}
use Rattle.config_text.specs.Reading.{entries}
use Rattle.config_text.proofs.each.each.Given as goal

abbrev pub invariant-loop-value : goal.invariant-loop-value
invariant-loop-value g l =
    record {
      count : length l.entries.items ≡ l.value-index;
      met : each g.E.Entry.met [] l.entries.items ≡ Ok tt;
      same : entries (g.E.Entry.entry l.owner) l.entries.items (map view (drop l.value-index l.values)) ≡ entries (g.E.Entry.entry l.owner) [] (map view l.values);
    }
