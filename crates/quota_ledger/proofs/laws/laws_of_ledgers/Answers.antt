use Rattle.quota_ledger.proofs.Balance.{balanced_parts}
use Rattle.quota_ledger.proofs.Counting.{added_part, counted_part, removed_part, same_layers, sums_of}
use Rattle.quota_ledger.proofs.Holding.{holds_some}
use Rattle.quota_ledger.proofs.laws.laws_of_ledgers.Goals as goal

pub returns : goal.returns
returns c = record { added = added_part; removed = removed_part; sums = sums_of; counted = counted_part; layers = same_layers; balanced = balanced_parts; holds = holds_some }
