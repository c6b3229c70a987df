use Rattle.std.proofs.Common.{◌≡◌, ◌-◌, ◌/◌, length, slice_index, vec_len, subst, arith}
use Rattle.expiry_policy.specs.Entries.{goes}
use Rattle.expiry_policy.specs.Tournaments.{IsRankedUpTo}
use Rattle.expiry_policy.proofs.Climbs.{list_popped}
use Rattle.expiry_policy.proofs.tournament.Tournament.pop.Goals as goal

pub settle_above-requires-clause-right : goal.settle_above-requires-clause-right
settle_above-requires-clause-right c =
    let old = c.args.self.now in
    let new = c.pop.new.self in
    let items = old.winners.ok.0 in
    let fewer = new.ok.0 in
    let size : vec_len old.winners ≡ length old.winners.items = omega arith in
    let last : length new.items ≡ c.len-last.result = omega arith in
    let node : length new.items - 1 ≡ c.saturating_sub.result = omega arith in
    subst (λ k. IsRankedUpTo (goes old.order c.args.held.now.entries) (length new.items) (slice_index new.items) k (c.saturating_sub.result / 2)) last
    (subst (λ k. IsRankedUpTo (goes old.order c.args.held.now.entries) (length new.items) (slice_index new.items) (length new.items) (k / 2)) node
    (list_popped (goes old.order c.args.held.now.entries) old.winners.items new.items (vec_len old.winners) size (omega arith) c.pop.ensures.rest c.requires.ranked))
