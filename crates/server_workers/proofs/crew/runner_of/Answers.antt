use Rattle.std.proofs.Common.{All, ◌≡◌, subst, sym}
use Rattle.seed_jobs.specs.Idles.{Idle, MayJoin, all_idle}
use Rattle.server_workers.proofs.Crews.{ok_so}
use Rattle.server_workers.proofs.crew.runner_of.Goals as goal

pub returns-clause-join : goal.returns-clause-join
returns-clause-join g c = λ table c' told of marks tells.
    ok_so (λ runner. runner.idle ≡ all_idle g.S.Source.told g.S.Source.faults g.S.Source.gave c.in_ok-idle.idle.items) (λ runner. All (MayJoin table c') runner.idle) c.new.result c.new.ensures.idle
    (λ runner e. subst (All (MayJoin table c')) (sym e) (c.in_ok-idle.ensures.join table c' told of marks tells))

pub returns-clause-first : goal.returns-clause-first
returns-clause-first g c = λ p alike.
    ok_so (λ runner. runner.idle ≡ all_idle g.S.Source.told g.S.Source.faults g.S.Source.gave c.in_ok-idle.idle.items) (λ runner. All (λ (i : Idle). i.pass ≡ p) runner.idle) c.new.result c.new.ensures.idle
    (λ runner e. subst (All (λ (i : Idle). i.pass ≡ p)) (sym e) (c.in_ok-idle.ensures.first p alike))
