use Rattle.cabinet_chest.specs.Acts.{seen}
use Rattle.tile_service.proofs.perform.answered_at_once.Goals as goal

pub returns-clause-immediate : goal.returns-clause-immediate
returns-clause-immediate g c =
    let K = g.C.Keeper in
    let x = seen (K.faults c.args.cabinet.now) (K.state c.args.cabinet.now) in
    let y = seen (K.faults c.immediate.new.cache) (K.state c.immediate.new.cache) in
    let served = c.immediate.ensures.serves in
    c.laws_of_lone_threads.ensures.at_once x y served.gained c.args.request c.immediate.result served.gains served.served

pub returns-clause-later : goal.returns-clause-later
returns-clause-later g c =
    let K = g.C.Keeper in
    let x = seen (K.faults c.args.cabinet.now) (K.state c.args.cabinet.now) in
    let y = seen (K.faults c.immediate.new.cache) (K.state c.immediate.new.cache) in
    c.laws_of_lone_threads.ensures.later x y c.immediate.ensures.serves.gained c.immediate.ensures.serves.gains
