use Rattle.std.proofs.Common.{All, List, ap, refl, subst, sym}
use Rattle.seed_jobs.specs.Idles.{Idle, MayJoin, Standby}
use Rattle.seed_jobs.proofs.History.{none_next, numbered, some_next}
use Rattle.seed_jobs.proofs.running.run_next.Goals as goal

pub run_posted-requires-clause-idle : goal.run_posted-requires-clause-idle
run_posted-requires-clause-idle g c κs within =
    subst (λ (is : List Idle). All (MayJoin c.args.hall.now.turnstile.table c.args.hall.now.catalogue) is) (sym (ap (λ (s : Standby). s.idle) c.runner.view_is)) c.requires.ready.idle

pub run_posted-requires-clause-number : goal.run_posted-requires-clause-number
run_posted-requires-clause-number g c κs within = numbered _ _ c.in-Some.posted c.next.result c.in-Some.is c.next.ensures.next

pub returns-in-None-clause-ready : goal.returns-in-None-clause-ready
returns-in-None-clause-ready g c =
    record {
      of_board = c.next.ensures.of;
      idle = subst (λ (is : List Idle). All (MayJoin c.args.hall.now.turnstile.table c.args.hall.now.catalogue) is) (sym (ap (λ (s : Standby). s.idle) c.runner.view_is)) c.requires.ready.idle;
    }

pub returns-in-None-clause-next : goal.returns-in-None-clause-next
returns-in-None-clause-next g c = rw (← c.runner.view_is) (none_next c.args.hall.now.catalogue _ _ c.next.result c.in-None.is c.next.ensures.next refl)

pub returns-in-Some-clause-next : goal.returns-in-Some-clause-next
returns-in-Some-clause-next g c = rw (← c.runner.view_is) (some_next c.args.hall.now.catalogue _ _ _ c.in-Some.posted c.next.result c.in-Some.is c.next.ensures.next c.run_posted.ensures.runs)
