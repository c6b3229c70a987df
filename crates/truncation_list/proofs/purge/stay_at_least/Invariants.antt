use Rattle.std.proofs.Common.{◌≡◌, ◌+◌, ◌≤◌, length, drop, IsTrue}
use Rattle.truncation_list.specs.Listed.{IsSettled}
use Rattle.truncation_list.specs.Purge.{remaining}
use Rattle.truncation_list.proofs.purge.stay_at_least.Given as goal

abbrev pub invariant-counting : goal.invariant-counting
invariant-counting l = record {
  counted : length (remaining l.cover l.least l.cuts.cuts) + length l.cuts.cuts ≡ l.left + l.i + length (remaining l.cover l.least (drop l.i l.cuts.cuts));
  enough : l.limit ≤ l.left;
  few : length l.cuts.cuts ≤ l.left + l.i;
  settled : IsTrue l.is_settled → IsSettled (drop l.i l.cuts.cuts);
}
