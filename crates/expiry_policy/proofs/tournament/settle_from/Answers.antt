use Rattle.std.proofs.Common.{◌*◌, ◌+◌, length, slice_index, arith}
use Rattle.expiry_policy.specs.Entries.{goes}
use Rattle.expiry_policy.proofs.Climbs.{set_all, set_more, set_none}
use Rattle.expiry_policy.proofs.Winners.{right_within}
use Rattle.expiry_policy.proofs.tournament.settle_from.Goals as goal

pub winner_of-winner-requires-clause-left : goal.winner_of-winner-requires-clause-left
winner_of-winner-requires-clause-left c = λ few.
    let l = c.climbing in
    right_within (goes c.args.order c.args.held.now.entries) (length l.winners) (slice_index l.winners) l.at (2 * l.at + 1) l.invariant.1.but (omega arith) few

pub winner_of-winner-requires-clause-right : goal.winner_of-winner-requires-clause-right
winner_of-winner-requires-clause-right c = λ few.
    let l = c.climbing in
    right_within (goes c.args.order c.args.held.now.entries) (length l.winners) (slice_index l.winners) l.at (2 * l.at + 2) l.invariant.1.but (omega arith) few

pub returns-then-winner-changed : goal.returns-then-winner-changed
returns-then-winner-changed c =
    let l = c.climbing in
    set_none (goes c.args.order c.args.held.now.entries) l.winners c.args.changed l.at c.winner_of-winner.result l.invariant.0 l.invariant.1 c.winner_of-winner.ensures c.if-winner-winners.true c.if-winner-changed.true

pub returns-then-at-eq0 : goal.returns-then-at-eq0
returns-then-at-eq0 c =
    let l = c.climbing in
    set_all (goes c.args.order c.args.held.now.entries) l.winners c.args.changed l.at c.winner_of-winner.result l.invariant.0 l.invariant.1 c.winner_of-winner.ensures c.if-at-eq0.true

pub climbing-preserved : goal.climbing-preserved
climbing-preserved c =
    let l = c.climbing in
    set_more (goes c.args.order c.args.held.now.entries) l.winners c.args.changed l.at c.winner_of-winner.result l.invariant.0 l.invariant.1 c.winner_of-winner.ensures (omega arith)
