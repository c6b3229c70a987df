use Rattle.cut_follower.proofs.Making.{not_of, unread}
use Rattle.cut_follower.proofs.following.read_next.Goals as goal

pub returns-in_default-clause-comes : goal.returns-in_default-clause-comes
returns-in_default-clause-comes g c =
    let taken = c.in-Ok.ensures.takes.comes in
    (c.in-Ok.bytes, taken.0, unread c.args.catalogue.now c.in-Ok.bytes c.in_default.ensures taken.1)

pub returns-then-not-is_of_catalogue-clause-comes : goal.returns-then-not-is_of_catalogue-clause-comes
returns-then-not-is_of_catalogue-clause-comes g c =
    let taken = c.in-Ok.ensures.takes.comes in
    let other = c.if-not-is_of_catalogue.true in
    (c.in-Ok.bytes, taken.0, not_of c.args.catalogue.now c.in-Ok.bytes c.in-Some.packet c.in-Some.ensures taken.1 (λ of. let is = c.is_of_catalogue.ensures.1 of in absurd (cc)))
