use Rattle.cabinet.specs.State.{fronted, now}
use Rattle.cabinet_chest.specs.Acts.{seen}
use Rattle.job_words.proofs.Coming.{visit_comes}
use Rattle.job_words.proofs.running.visit.Goals as goal

pub returns-clause-comes : goal.returns-clause-comes
returns-clause-comes g c =
    let K = g.C.Keeper in
    let S = g.S.Source in
    let did = c.visit.ensures in
    let x = seen (K.faults c.args.cabinet.now) (K.state c.args.cabinet.now) in
    let y = seen (K.faults c.visit.new.cache) (K.state c.visit.new.cache) in
    let before = S.faults c.args.source.now in
    let after = S.faults c.visit.new.source in
    let told = S.told c.args.source.now in
    visit_comes told before after x y c.args.job.now c.requires.rest
    (λ m force gained result meta steps came later cause. c.laws_of_lone_threads.ensures.refreshes told x y m force before after gained result c.requires.valid meta c.requires.rest steps came later cause)
    (λ m is. c.laws_of_places.ensures.metas x.state.catalogue c.args.job.now m c.requires.valid c.requires.fits.cover is) did.still c.args.place (fronted (now y.state)) (S.gave c.args.source.now) (S.gave c.visit.new.source) did.visits.gained did.visits.gains c.visit.result did.visits.visit
