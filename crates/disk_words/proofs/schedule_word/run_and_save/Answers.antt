use Rattle.std.proofs.Common.{ap}
use Rattle.disk_words.proofs.Within.{runs_and_saves}
use Rattle.tile_service.proofs.Passing.{leads_on}
use Rattle.tile_service.specs.Passing.{LeadsThrough}
use Rattle.disk_words.proofs.schedule_word.run_and_save.Goals as goal

pub returns-clause-runs : goal.returns-clause-runs
returns-clause-runs g c = λ before earlier.
    let run = c.run_schedule-end in
    let first = c.args.counter.now.cabinet in
    let then = run.new.counter.cabinet in
    let later = c.save_all.new.cabinet in
    runs_and_saves (LeadsThrough _ g.C.Keeper.state g.C.Keeper.outlasts first then) (LeadsThrough _ g.C.Keeper.state g.C.Keeper.outlasts first later)
    (leads_on g.C.Keeper.state g.C.Keeper.outlasts c.laws_of_lasting.ensures.on first then later c.save_all.ensures.lasts)
    c.args.counter.now.capabilities _ _ before _ _ _ (g.C.Keeper.state first) (g.C.Keeper.state later) _ run.result
    earlier c.save_all.ensures.later (λ untouched. (untouched.0, untouched.1)) (λ untouched. ap (λ x. g.C.Keeper.state x.cabinet) untouched.2) (λ untouched. ap (λ x. g.C.Keeper.faults x.cabinet) untouched.2)
    run.ensures.leads c.save_all.ensures.saves
