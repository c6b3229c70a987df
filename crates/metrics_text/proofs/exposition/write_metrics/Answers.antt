use Rattle.metrics_text.proofs.Joined.{whole_text}
use Rattle.metrics_text.proofs.exposition.write_metrics.Goals as goal

pub returns : goal.returns
returns c = record {
  metrics = rw (c.in_ok-push_families.ensures, c.new-text.ensures.items) (whole_text c.args.families.now);
}
