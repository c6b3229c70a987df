use Rattle.std.proofs.Common.{sym}
use Rattle.expiry_policy.proofs.Changes.{winner_leads}
use Rattle.expiry_policy.proofs.layer.leader.Goals as goal

pub returns-in-Some : goal.returns-in-Some
returns-in-Some c =
    let t = c.args.tournament.now in
    winner_leads t.order c.args.held.now.entries t.winners.items c.in-Some.at c.use_at.result c.requires.size c.requires.ranked (sym c.in-Some.ensures) c.use_at.ensures.value c.use_at.ensures.found
