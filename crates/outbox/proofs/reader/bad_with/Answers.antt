use Rattle.std.proofs.Common.{[], ◌∷◌, ◌++◌, sym, subst}
use Rattle.outbox.specs.Files.{ArePosts}
use Rattle.outbox.specs.Opens.{StandsAt}
use Rattle.outbox.proofs.Numbering.{bad_there, posts_on}
use Rattle.outbox.proofs.reader.bad_with.Goals as goal

pub returns-in-None-post_in-clause-stands : goal.returns-in-None-post_in-clause-stands
returns-in-None-post_in-clause-stands c bodies at stands =
    let are = subst (StandsAt c.args.catalogue.now bodies c.args.posts.now.items) c.in-None.is stands in
    bad_there c.args.catalogue.now bodies c.args.posts.now.items are c.args.body.now c.args.slot at c.in-None-post_in.ensures

pub returns-in-Ok-clause-stands : goal.returns-in-Ok-clause-stands
returns-in-Ok-clause-stands c bodies at stands =
    let are = subst (StandsAt c.args.catalogue.now bodies c.args.posts.now.items) c.in-None.is stands in
    subst (ArePosts c.args.catalogue.now (bodies ++ c.args.body.now ∷ [])) (sym c.in-Ok.ensures.items)
    (posts_on c.args.catalogue.now bodies c.args.posts.now.items are c.in-Some-post_in.cover c.args.body.now c.args.slot at c.in-Some-post_in.ensures.0 c.in-Some-post_in.ensures.1)
