use Rattle.std.proofs.Common.{arith, subst, sym, ap, ◌∙◌}
use Rattle.job_board.specs.Hands.{SheetHolding, watching}
use Rattle.seed_jobs.specs.Crews.{hands_of}
use Rattle.seed_jobs.specs.Gathered.{HasHeard}
use Rattle.seed_jobs.specs.Members.{workers_of}
use Rattle.seed_jobs.proofs.Heard.{hears_all, hears_of, hears_one}
use Rattle.seed_jobs.proofs.gathering.hear.Goals as goal

pub gather-requires : goal.gather-requires
gather-requires g c =
    record { own = hears_of g.S.Source.told g.S.Source.faults g.S.Source.gave c.args.sheet.now c.args.hand.now c.hearing.hand c.args.members.now c.hearing.members c.hearing.i c.index-members-i.result c.hearing.invariant c.requires.own c.requires.theirs c.hearing-test.true }

pub hearing-preserved : goal.hearing-preserved
hearing-preserved g c =
    hears_one c.args.hand.now c.hearing.hand c.gather.new.into c.gather.new.of c.args.members.now c.hearing.members c.hearing.i c.index-members-i.result c.hearing.invariant c.hearing-test.true c.gather.ensures.same c.gather.ensures.gathered

pub returns-clause-heard : goal.returns-clause-heard
returns-clause-heard g c =
    subst (λ (h : SheetHolding). HasHeard c.args.hand.now h (hands_of (workers_of g.S.Source.told g.S.Source.faults g.S.Source.gave c.args.members.now))) (sym c.watch_from.ensures.same)
    (hears_all g.S.Source.told g.S.Source.faults g.S.Source.gave c.args.hand.now c.hearing.hand c.args.members.now c.hearing.members c.hearing.i c.hearing.invariant (omega (arith, c.hearing-test.false)))

pub watch_from-requires : goal.watch_from-requires
watch_from-requires g c = record { own = ap (λ (h : SheetHolding). h.sheet) c.hearing.invariant.is ∙ c.requires.own }

pub returns-clause-watch : goal.returns-clause-watch
returns-clause-watch g c = c.watch_from.ensures.watch ∙ ap (λ (h : SheetHolding). watching c.args.sheet.now h.seen) (sym c.watch_from.ensures.same)
