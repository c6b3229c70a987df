use Rattle.cache_access.proofs.Acting.{cut_gained, cut_goes}
use Rattle.cache_access.proofs.alone.AloneAccess.cut.Goals as goal

pub returns-clause-done : goal.returns-clause-done
returns-clause-done g c =
    let K = g.K.Keeper in let did = c.cut.ensures in
    cut_gained K.state K.faults K.outlasts c.args.cache.now c.cut.new.self c.args.cover.now c.known.ensures did.later did.still_sound c.requires.cover c.cut.result did.cuts did.counted

pub returns-clause-goes : goal.returns-clause-goes
returns-clause-goes g c =
    let K = g.K.Keeper in let did = c.cut.ensures in
    cut_goes K.state K.faults K.outlasts c.args.cache.now c.cut.new.self c.args.cover.now c.known.ensures did.later did.still_sound c.requires.cover c.cut.result did.cuts did.counted did.err did.lasts
