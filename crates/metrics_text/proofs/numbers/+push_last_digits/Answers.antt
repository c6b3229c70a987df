use Rattle.std.proofs.Common.{rules}
use Rattle.metrics_text.proofs.Joined.{digit_added}
use Rattle.metrics_text.proofs.numbers.+push_last_digits.Goals as goal

pub returns : goal.returns
returns t c = digit_added _ _ _ c.args.count c.args.number (search rules) c.in_ok-push_last_digits.ensures c.in_ok-push_last_digit.ensures
