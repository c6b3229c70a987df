use Rattle.std.proofs.Common.{◌≡◌, ◌<◌, List, [], None, length, map, ap, subst, arith}
use Rattle.truncation_list.specs.declared.book.Cut.{Cut}
use Rattle.truncation_list.specs.Purge.{remaining}
use Rattle.cabinet.specs.History.{least_of}
use Rattle.cabinet_records.specs.Played.{replayed_of}
use Rattle.cabinet_records.specs.Replay.{book_after, unplayed}
use Rattle.cabinet_records.specs.Shows.{IsCutAt}
use Rattle.cabinet_records.proofs.Judged.{no_cuts}
use Rattle.cabinet_records.proofs.replay.finishing.finish.Goals as goal

pub unreachable-requires : goal.unreachable-requires
unreachable-requires c =
    let f = c.requires.2 in
    let r = replayed_of c.args.progress in
    let none : r.cuts ≡ [] = no_cuts c.requires.0 unplayed c.requires.1 r f.replays (subst (IsCutAt c.requires.1) c.in-None-last_cut.is f.cut) in
    let fewer : length (book_after r).cuts ≡ 0 = ap (λ (cuts : List Cut). length (remaining None (least_of (map (λ t. t.number) r.kept)) cuts)) none in
    let many : c.args.limit < length (book_after r).cuts = c.in-None.ensures.many in
    omega (arith, fewer, many)
