use Rattle.std.proofs.Common.{◌-◌, length}
use Rattle.job_board.specs.Hands.{own}
use Rattle.source_render.specs.Renders.{renders}
use Rattle.seed_jobs.specs.Workers.{JobWorker}
use Rattle.seed_jobs.proofs.Working.{IsAtWork}
use Rattle.seed_jobs.proofs.worker.work.Given as goal

abbrev pub invariant-working : goal.invariant-working
invariant-working g l =
    let start : JobWorker = record { hand = l.initial.hand; pass = l.initial.pass; source = g.S.Source.told l.initial.source; renders = renders (g.S.Source.faults l.initial.source) (g.S.Source.gave l.initial.source) } in
    let now : JobWorker = record { hand = l.hand; pass = l.pass; source = g.S.Source.told l.source; renders = renders (g.S.Source.faults l.source) (g.S.Source.gave l.source) } in
    IsAtWork l.hall.turnstile.table l.hall.catalogue l.job l.sheet start now l.tally

abbrev pub decreases-working : goal.decreases-working
decreases-working g l = l.sheet.places - length (own l.hand).claimed
