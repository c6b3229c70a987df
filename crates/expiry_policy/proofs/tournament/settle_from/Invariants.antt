use Rattle.std.proofs.Common.{◌<◌, length, slice_index}
use Rattle.expiry_policy.specs.Entries.{goes}
use Rattle.expiry_policy.specs.Tournaments.{IsRankedUpTo}
use Rattle.expiry_policy.proofs.tournament.settle_from.Given as goal

abbrev pub invariant-climbing : goal.invariant-climbing
invariant-climbing l = (l.at < length l.winners) × IsRankedUpTo (goes l.order l.held.entries) (length l.winners) (slice_index l.winners) l.changed l.at

abbrev pub decreases-climbing : goal.decreases-climbing
decreases-climbing l = l.at
