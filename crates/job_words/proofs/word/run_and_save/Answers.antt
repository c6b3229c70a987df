use Rattle.job_words.proofs.Telling.{runs_and_saves}
use Rattle.job_words.proofs.word.run_and_save.Goals as goal

pub returns-clause-runs : goal.returns-clause-runs
returns-clause-runs g c = λ before earlier.
    let run = c.run_places-tally.ensures.runs in
    let state = g.C.Keeper.state in
    (run.0, run.1, runs_and_saves _ _ before _ _ _ c.args.job.now run.0 (state c.args.cabinet.now) (state c.run_places-tally.new.cabinet) (state c.save_all.new.cabinet) earlier c.save_all.ensures.later run.2 c.save_all.ensures.saves)
