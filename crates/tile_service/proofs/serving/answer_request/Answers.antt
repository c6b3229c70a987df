use Rattle.std.proofs.Common.{ap}
use Rattle.cabinet_chest.specs.Acts.{seen}
use Rattle.tile_service.proofs.Answering.{answers_so}
use Rattle.tile_service.proofs.serving.answer_request.Goals as goal

pub returns-clause-answers : goal.returns-clause-answers
returns-clause-answers g c =
    let K = g.C.Keeper in let S = g.S.Source in
    let x = seen (K.faults c.args.cabinet.now) (K.state c.args.cabinet.now) in
    let y = seen (K.faults c.answer.new.cache) (K.state c.answer.new.cache) in
    let told = S.told c.args.source.now in
    let before = S.faults c.args.source.now in
    let after = S.faults c.answer.new.source in
    let served = c.answer.ensures.serves in
    let laws = c.laws_of_lone_threads.ensures in
    answers_so told x y before after c.args.request c.answer.result served.gained served.gains c.requires.of served.served served.cause (λ none. ap S.faults (c.answer.ensures.other none)) (laws.later x y served.gained served.gains)
    (laws.at_once x y served.gained c.args.request c.answer.result served.gains)
    (λ a result tile got cause. laws.gets told x y a before after served.gained result tile c.requires.rest served.gains got c.answer.ensures.later cause c.answer.ensures.still)
