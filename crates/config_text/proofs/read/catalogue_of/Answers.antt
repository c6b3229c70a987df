use Rattle.std.proofs.Common.{rules}
use Rattle.catalog.proofs.DemoValid.{demo_met}
use Rattle.config_text.proofs.EmptyText.{empty_digest}
use Rattle.config_text.proofs.read.catalogue_of.Goals as goal

pub returns-then-is_empty-clause-digest : goal.returns-then-is_empty-clause-digest
returns-then-is_empty-clause-digest c = rw c.in_ok-demo.ensures.demo (empty_digest _ (search rules))

pub returns-then-is_empty-clause-met : goal.returns-then-is_empty-clause-met
returns-then-is_empty-clause-met c = rw c.in_ok-demo.ensures.demo demo_met
