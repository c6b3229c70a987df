use Rattle.std.proofs.Common.{◌∙◌, [], ◌∷◌, ◌++◌, sym, ap}
use Rattle.truncation_list.specs.declared.book.FrontedBook.{FrontedBook}
use Rattle.truncation_list.specs.Books.{last_seen}
use Rattle.turnstile.specs.Passes.{seen_by, holding_of}
use Rattle.turnstile.proofs.Held.{ended, one_note, stays_by, turned_by}
use Rattle.turnstile.proofs.turnstile.Turnstile.turn_plain.Goals as goal

pub invariant_of-pass : goal.invariant_of-pass
invariant_of-pass g c =
    let e = ended c.pass.inside.seat c.take-chest.new.seat c.give.new.seat c.take-chest.result _ _ _ c.pass.invariant.0 c.take-chest.ensures.turn c.take-chest.ensures.own c.give.ensures.done c.give.ensures.own in
    (e.ready, c.latest-latest.ensures ∙ sym (ap (λ (b : FrontedBook). last_seen b.book) e.seen))

pub returns-clause-done : goal.returns-clause-done
returns-clause-done g c =
    let e = ended c.pass.inside.seat c.take-chest.new.seat c.give.new.seat c.take-chest.result _ _ _ c.pass.invariant.0 c.take-chest.ensures.turn c.take-chest.ensures.own c.give.ensures.done c.give.ensures.own in
    let asked = c.and-asked.ensures ∙ ap (λ l. l ++ c.args.command ∷ []) c.new.ensures in
    let answered = c.and-answered.ensures ∙ ap (λ l. l ++ c.act_plain-reply.result ∷ []) c.new-2.ensures in
    let one = one_note g.C.Chest.book g.C.Chest.shown g.C.Chest.note c.take-chest.result c.act_plain-reply.new.self c.args.command c.act_plain-reply.result _ _ asked answered in
    turned_by g.C.Chest.charter g.C.Chest.sound g.C.Chest.book g.C.Chest.shown g.C.Chest.note g.C.Chest.may_reply g.C.Chest.keeps_sound c.pass.inside.seat c.give.new.seat c.take-chest.result c.act_plain-reply.new.self c.args.command c.act_plain-reply.result c.args.pass.now
    c.pass.view_is c.requires.sound c.take-chest.ensures.found c.act_plain-reply.ensures.charter c.act_plain-reply.ensures.reply c.act_plain-reply.ensures.book c.act_plain-reply.ensures.sound
    (e.shows ∙ ap (λ ns. seen_by (holding_of c.pass.inside.seat) (g.C.Chest.book c.act_plain-reply.new.self) ns) one)

pub returns-clause-stays : goal.returns-clause-stays
returns-clause-stays g c =
    let e = ended c.pass.inside.seat c.take-chest.new.seat c.give.new.seat c.take-chest.result _ _ _ c.pass.invariant.0 c.take-chest.ensures.turn c.take-chest.ensures.own c.give.ensures.done c.give.ensures.own in
    stays_by c.pass.inside.seat c.give.new.seat _ _ c.args.pass.now c.pass.view_is e.shows
