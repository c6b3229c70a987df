use Rattle.std.proofs.Common.{◌≡◌, ◌+◌, ◌*◌, length, slice_index, sym, ap, subst, ◌∙◌}
use Rattle.expiry_policy.specs.Entries.{goes}
use Rattle.expiry_policy.specs.Tournaments.{Wins, pick}
use Rattle.expiry_policy.proofs.Rankings.{goes_ranks}
use Rattle.expiry_policy.proofs.Winners.{winner_picked}
use Rattle.expiry_policy.proofs.tournament.winner_of.Goals as goal

pub returns : goal.returns
returns c =
    let es = c.args.held.now.entries in
    let ws = c.args.winners.now in
    let k = c.args.node in
    let two : c.first_of.result ≡ pick (goes c.args.order es) (length ws) (slice_index ws) (pick (goes c.args.order es) (length ws) (slice_index ws) k (2 * k + 1)) (2 * k + 2) =
    c.first_of.ensures ∙ ap (λ x. pick (goes c.args.order es) (length ws) (slice_index ws) x (2 * k + 2)) c.first_of-first.ensures in
    subst (Wins (goes c.args.order es) (length ws) (slice_index ws) k) (sym two)
    (winner_picked (goes c.args.order es) (goes_ranks c.args.order es) (length ws) (slice_index ws) k c.requires.node c.requires.left c.requires.right)
