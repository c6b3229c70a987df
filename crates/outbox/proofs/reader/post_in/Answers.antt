use Rattle.std.proofs.Common.{rules}
use Rattle.outbox.proofs.Packing.{post_foreign, post_none, post_other, post_some}
use Rattle.outbox.proofs.reader.post_in.Goals as goal

pub returns-in-None : goal.returns-in-None
returns-in-None c = post_none c.args.body.now c.decode-entry.result c.decode-entry.ensures c.args.catalogue.now c.args.slot c.requires c.in-None.ensures

pub returns-then-number-slot : goal.returns-then-number-slot
returns-then-number-slot c =
    post_other c.args.body.now c.decode-entry.result c.decode-entry.ensures c.args.catalogue.now c.args.slot c.requires (c.in-Some.number, c.in-Some.cover) c.in-Some.ensures (search rules)

pub returns-then-not-is_cover_of : goal.returns-then-not-is_cover_of
returns-then-not-is_cover_of c =
    post_foreign c.args.body.now c.decode-entry.result c.decode-entry.ensures c.args.catalogue.now c.args.slot c.requires (c.in-Some.number, c.in-Some.cover) c.in-Some.ensures (search rules)

pub returns-else-not-is_cover_of : goal.returns-else-not-is_cover_of
returns-else-not-is_cover_of c =
    post_some c.args.body.now c.decode-entry.result c.decode-entry.ensures c.args.catalogue.now c.args.slot c.requires (c.in-Some.number, c.in-Some.cover) c.in-Some.ensures (search rules) (search rules)
