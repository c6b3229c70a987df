use Rattle.std.proofs.Common.{arith, ap, subst, sym, List, length}
use Rattle.job_board.specs.Hands.{AreFresh, SheetHolding}
use Rattle.seed_jobs.specs.Members.{tallies_of, workers_of}
use Rattle.seed_jobs.specs.Idles.{all_idle}
use Rattle.seed_jobs.proofs.Counting.{counts}
use Rattle.seed_jobs.proofs.Joining.{may_join_again, may_join_of, may_work}
use Rattle.seed_jobs.proofs.Swapping.{as_many_hands, how_many}
use Rattle.seed_jobs.proofs.crews.run_by_crew.Goals as goal

pub crew_works-watch-requires-clause-size : goal.crew_works-watch-requires-clause-size
crew_works-watch-requires-clause-size g c =
    let hands = ap (λ (hs : List SheetHolding). length hs) c.assemble.ensures.hands in
    let same = as_many_hands g.S.Source.told g.S.Source.faults g.S.Source.gave c.assemble.new.crew.items in
    let few = c.requires.few in
    omega (arith, hands, same, few)

pub crew_works-watch-requires-clause-fresh : goal.crew_works-watch-requires-clause-fresh
crew_works-watch-requires-clause-fresh g c κs within = subst (λ (hs : List SheetHolding). AreFresh c.args.sheet.now hs) (sym c.assemble.ensures.hands) c.requires.fresh

pub crew_works-watch-requires-clause-crew : goal.crew_works-watch-requires-clause-crew
crew_works-watch-requires-clause-crew g c κs within =
    let workers = workers_of g.S.Source.told g.S.Source.faults g.S.Source.gave c.assemble.new.crew.items in
    may_work c.args.hall.now.turnstile.table c.args.hall.now.catalogue c.args.sheet.now workers (subst (λ (hs : List SheetHolding). AreFresh c.args.sheet.now hs) (sym c.assemble.ensures.hands) c.requires.fresh)
    (may_join_of c.args.hall.now.turnstile.table c.args.hall.now.catalogue _ (all_idle g.S.Source.told g.S.Source.faults g.S.Source.gave c.assemble.new.idle.items) workers c.assemble.ensures.members c.requires.idle)

pub crew_works-watch-requires-clause-some : goal.crew_works-watch-requires-clause-some
crew_works-watch-requires-clause-some g c =
    let hands = ap (λ (hs : List SheetHolding). length hs) c.assemble.ensures.hands in
    let same = as_many_hands g.S.Source.told g.S.Source.faults g.S.Source.gave c.assemble.new.crew.items in
    let some = c.requires.some in
    omega (arith, hands, same, some)

pub disband-requires : goal.disband-requires
disband-requires g c =
    let eight = counts g.S.Source.told g.S.Source.faults g.S.Source.gave c.args.hall.now.turnstile.table c.args.hall.now.catalogue c.args.job.now c.args.idle.now.items c.assemble.new.idle.items c.assemble.new.crew.items c.crew_works-watch.new.crew.items c.assemble.ensures.members c.crew_works-watch.ensures.worked in
    let all = c.requires.members.0 in
    let room = c.requires.members.1 in
    let kept = c.assemble.ensures.room.1 in
    record { room = omega (arith, eight, all, room, kept) }

pub returns-clause-run : goal.returns-clause-run
returns-clause-run g c = (
  record {
    others = all_idle g.S.Source.told g.S.Source.faults g.S.Source.gave c.assemble.new.idle.items;
    crew = workers_of g.S.Source.told g.S.Source.faults g.S.Source.gave c.assemble.new.crew.items;
    crew_after = workers_of g.S.Source.told g.S.Source.faults g.S.Source.gave c.crew_works-watch.new.crew.items;
    tallies = tallies_of c.crew_works-watch.new.crew.items;
    were = c.assemble.ensures.members;
    are = c.disband.ensures.members;
    hands_are = c.assemble.ensures.hands;
    worked = c.crew_works-watch.ensures.worked;
    shared = c.crew_works-watch.ensures.shared;
  },
  c.crew_works-watch.ensures.ended,
)

pub returns-clause-idle : goal.returns-clause-idle
returns-clause-idle g c =
    may_join_again c.args.hall.now.turnstile.table c.args.hall.now.catalogue c.args.job.now _ (all_idle g.S.Source.told g.S.Source.faults g.S.Source.gave c.assemble.new.idle.items) _
    (workers_of g.S.Source.told g.S.Source.faults g.S.Source.gave c.assemble.new.crew.items) (workers_of g.S.Source.told g.S.Source.faults g.S.Source.gave c.crew_works-watch.new.crew.items) (tallies_of c.crew_works-watch.new.crew.items)
    c.assemble.ensures.members c.disband.ensures.members c.crew_works-watch.ensures.worked c.requires.idle

pub returns-clause-members : goal.returns-clause-members
returns-clause-members g c =
    let eight = counts g.S.Source.told g.S.Source.faults g.S.Source.gave c.args.hall.now.turnstile.table c.args.hall.now.catalogue c.args.job.now c.args.idle.now.items c.assemble.new.idle.items c.assemble.new.crew.items c.crew_works-watch.new.crew.items c.assemble.ensures.members c.crew_works-watch.ensures.worked in
    let all = c.requires.members.0 in
    let now = how_many g.S.Source.told g.S.Source.faults g.S.Source.gave c.disband.new.idle.items c.assemble.new.idle.items c.crew_works-watch.new.crew.items c.disband.ensures.members in
    let room = c.requires.members.1 in
    let kept = c.assemble.ensures.room.1 in
    let still = c.disband.ensures.room.1 in
    (omega (arith, eight, all, now), omega (arith, room, kept, still))
