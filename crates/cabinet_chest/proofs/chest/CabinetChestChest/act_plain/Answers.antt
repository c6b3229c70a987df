use Rattle.cabinet_chest.proofs.Clauses.{book_of, charter_of}
use Rattle.cabinet_chest.proofs.chest.CabinetChestChest.act_plain.Goals as goal

pub returns-in-Finish-clause-charter : goal.returns-in-Finish-clause-charter
returns-in-Finish-clause-charter g c = charter_of _ _ _ _ c.finish.ensures

pub returns-in-Finish-clause-reply : goal.returns-in-Finish-clause-reply
returns-in-Finish-clause-reply g c = rw c.in-Finish.is (c.finish.ensures.may)

pub returns-in-Finish-clause-book : goal.returns-in-Finish-clause-book
returns-in-Finish-clause-book g c = book_of _ _ _ _ c.finish.ensures

pub returns-in-Abandon-clause-charter : goal.returns-in-Abandon-clause-charter
returns-in-Abandon-clause-charter g c = charter_of _ _ _ _ c.abandon.ensures

pub returns-in-Abandon-clause-reply : goal.returns-in-Abandon-clause-reply
returns-in-Abandon-clause-reply g c = rw c.in-Abandon.is (c.abandon.ensures.may)

pub returns-in-Abandon-clause-book : goal.returns-in-Abandon-clause-book
returns-in-Abandon-clause-book g c = book_of _ _ _ _ c.abandon.ensures

pub returns-in-Expire-clause-charter : goal.returns-in-Expire-clause-charter
returns-in-Expire-clause-charter g c = charter_of _ _ _ _ c.expire.ensures

pub returns-in-Expire-clause-reply : goal.returns-in-Expire-clause-reply
returns-in-Expire-clause-reply g c = rw c.in-Expire.is (c.expire.ensures.may)

pub returns-in-Expire-clause-book : goal.returns-in-Expire-clause-book
returns-in-Expire-clause-book g c = book_of _ _ _ _ c.expire.ensures

pub returns-in-SaveUses-clause-charter : goal.returns-in-SaveUses-clause-charter
returns-in-SaveUses-clause-charter g c = charter_of _ _ _ _ c.save_uses.ensures

pub returns-in-SaveUses-clause-reply : goal.returns-in-SaveUses-clause-reply
returns-in-SaveUses-clause-reply g c = rw c.in-SaveUses.is (c.save_uses.ensures.may)

pub returns-in-SaveUses-clause-book : goal.returns-in-SaveUses-clause-book
returns-in-SaveUses-clause-book g c = book_of _ _ _ _ c.save_uses.ensures

pub returns-in-Usage-clause-reply : goal.returns-in-Usage-clause-reply
returns-in-Usage-clause-reply g c = rw c.in-Usage.is (c.usage.ensures.may)
