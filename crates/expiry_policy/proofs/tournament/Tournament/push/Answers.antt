use Rattle.std.proofs.Common.{◌≡◌, length, arith}
use Rattle.expiry_policy.specs.Entries.{goes}
use Rattle.expiry_policy.proofs.Climbs.{list_pushed}
use Rattle.expiry_policy.proofs.tournament.Tournament.push.Goals as goal

pub settle-requires-clause-right : goal.settle-requires-clause-right
settle-requires-clause-right c =
    let old = c.args.self.now in
    let items = old.winners.ok.0 in
    let last : c.len-last.result ≡ length old.winners.items = omega arith in
    list_pushed (goes old.order c.args.held.now.entries) old.winners.items c.push_reserved.new.self.items c.len-last.result last c.push_reserved.ensures.items c.requires.ranked
