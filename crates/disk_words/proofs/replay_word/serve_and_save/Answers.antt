use Rattle.disk_words.proofs.Within.{serves_and_saves}
use Rattle.tile_service.proofs.Passing.{leads_on}
use Rattle.tile_service.specs.Passing.{LeadsThrough}
use Rattle.disk_words.proofs.replay_word.serve_and_save.Goals as goal

pub returns-clause-serves : goal.returns-clause-serves
returns-clause-serves g c = λ before earlier.
    let first = c.args.counter.now.cabinet in
    let then = c.replay_streams-end.new.counter.cabinet in
    let later = c.save_all.new.cabinet in
    serves_and_saves (LeadsThrough _ g.C.Keeper.state g.C.Keeper.outlasts first then) (LeadsThrough _ g.C.Keeper.state g.C.Keeper.outlasts first later)
    (leads_on g.C.Keeper.state g.C.Keeper.outlasts c.laws_of_lasting.ensures.on first then later c.save_all.ensures.lasts)
    c.args.counter.now.capabilities _ _ before _ (g.C.Keeper.state first) _ (g.C.Keeper.state later) c.replay_streams-end.result
    earlier c.save_all.ensures.later c.replay_streams-end.ensures.leads c.save_all.ensures.saves
