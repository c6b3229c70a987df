use Rattle.std.proofs.Common.{◌≡◌, map, drop}
use Rattle.std.specs.List.{list_all}
use Rattle.serde_json.specs.View.{view}
use Rattle.http_source.specs.Members.{is_object}
use Rattle.http_source.proofs.member.are_objects.Given as goal

abbrev pub invariant-loop-value : goal.invariant-loop-value
invariant-loop-value l = list_all is_object (map view (drop l.value-index l.values)) ≡ list_all is_object (map view l.values)
