use Rattle.std.proofs.Common.{◌≡◌, [], map, drop}
use Rattle.serde_json.specs.View.{view}
use Rattle.config_text.specs.Reading.{entries}
use Rattle.config_text.specs.Layers.{row_of}
use Rattle.config_text.proofs.styles.rows_of.Given as goal

abbrev pub invariant-loop-value : goal.invariant-loop-value
invariant-loop-value l = entries (λ before. row_of l.at) l.rows.items (map view (drop l.value-index l.values)) ≡ entries (λ before. row_of l.at) [] (map view l.values)
