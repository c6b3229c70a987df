use Rattle.std.proofs.Common.{◌≡◌, [], map, drop}
use Rattle.serde_json.specs.View.{view}
use Rattle.config_text.specs.Ages.{age_row}
use Rattle.config_text.specs.Reading.{entries}
use Rattle.config_text.proofs.ages.rows_of.Given as goal

abbrev pub invariant-loop-value : goal.invariant-loop-value
invariant-loop-value l = entries (λ before. age_row l.at) l.rows.items (map view (drop l.value-index l.values)) ≡ entries (λ before. age_row l.at) [] (map view l.values)
