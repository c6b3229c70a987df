use Rattle.std.proofs.Common.{flat_map, ap, ◌∙◌}
use Rattle.std.proofs.lemmas.List.Concat.{flat_map-append}
use Rattle.metrics_text.specs.Exposition.{ended, lines_of}
use Rattle.metrics_text.proofs.LineFeeds.{in_all}
use Rattle.metrics_text.proofs.ReadBack.{read_back}
use Rattle.metrics_text.proofs.laws.laws_of_metrics.Goals as goal

pub returns : goal.returns
returns c = record {
  lines = in_all;
  order = λ first others. ap (flat_map ended) (flat_map-append lines_of first others) ∙ flat_map-append ended (flat_map lines_of first) (flat_map lines_of others);
  value = read_back;
}
