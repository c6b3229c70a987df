use Rattle.std.proofs.Common.{◌∷◌, ◌++◌}
use Rattle.change_feed.specs.Runs.{called}
use Rattle.change_feed.proofs.Lawful.{cut_above, cut_again, cut_between, cut_stands, kept_after}
use Rattle.change_feed.proofs.Running.{runs_make}
use Rattle.change_feed.proofs.laws.laws_of_feeds.Goals as goal

pub returns-clause-once : goal.returns-clause-once
returns-clause-once x s t before between after c d k reply begins runs cuts = cut_above s t before between after c d k reply begins runs cuts

pub returns-clause-kept : goal.returns-clause-kept
returns-clause-kept x s t before after c k found begins runs is = kept_after s t before after c k begins runs found is

pub returns-clause-rises : goal.returns-clause-rises
returns-clause-rises x s t before between after c d k i reply begins runs cuts above below = cut_between s t before between after c d k reply begins runs cuts i above below

pub returns-clause-stands : goal.returns-clause-stands
returns-clause-stands x s t before after c k reply begins runs cuts = cut_stands s t before after c k reply begins runs cuts

pub returns-clause-made : goal.returns-clause-made
returns-clause-made x s t events m begins runs found = runs_make s t events m begins runs found

pub returns-clause-again : goal.returns-clause-again
returns-clause-again x s t before between after c d first reply begins runs cuts again same = cut_again s t before between after c d first reply begins runs cuts again same
