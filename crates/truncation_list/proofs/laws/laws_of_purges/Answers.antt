use Rattle.truncation_list.proofs.Remaining.{added_answers, entered_answers, floor_below_above, floor_below_least, in_order_added, lists_new, purged_answers, raised_answers}
use Rattle.truncation_list.specs.Purge.{purged}
use Rattle.std.proofs.Common.{Some}
use Rattle.truncation_list.proofs.Rule.{remaining_is_by_rule}
use Rattle.truncation_list.proofs.laws.laws_of_purges.Goals as goal

pub returns : goal.returns
returns c = record {
  rule = remaining_is_by_rule;
  added = added_answers;
  lists = λ number cover least book. lists_new number cover (purged (Some cover) least book);
  order = in_order_added;
  purged = purged_answers;
  entered = entered_answers;
  raised = raised_answers;
  below_least = λ cover least book. floor_below_least least book.cuts book.floor;
  below_above = λ cover least number book. floor_below_above least number book.cuts book.floor;
}
