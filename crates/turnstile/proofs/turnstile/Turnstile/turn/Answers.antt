use Rattle.std.proofs.Common.{◌∙◌, [], ◌∷◌, ◌++◌, sym, ap}
use Rattle.truncation_list.specs.declared.book.FrontedBook.{FrontedBook}
use Rattle.truncation_list.specs.Books.{last_seen}
use Rattle.turnstile.specs.Passes.{seen_by, holding_of}
use Rattle.turnstile.proofs.Held.{ended, no_note, one_note, stays_by, turned_by, unturned_by}
use Rattle.turnstile.proofs.turnstile.Turnstile.turn.Goals as goal

pub invariant_of-pass : goal.invariant_of-pass
invariant_of-pass g c =
    let e = ended c.pass.inside.seat c.take-chest.new.seat c.give.new.seat c.take-chest.result _ _ _ c.pass.invariant.0 c.take-chest.ensures.turn c.take-chest.ensures.own c.give.ensures.done c.give.ensures.own in
    (e.ready, c.latest-latest.ensures ∙ sym (ap (λ (b : FrontedBook). last_seen b.book) e.seen))

pub invariant_of-pass-in-Err : goal.invariant_of-pass-in-Err
invariant_of-pass-in-Err g c =
    let e = ended c.pass.inside.seat c.take-chest.new.seat c.give-in-Err.new.seat c.take-chest.result _ _ _ c.pass.invariant.0 c.take-chest.ensures.turn c.take-chest.ensures.own c.give-in-Err.ensures.done c.give-in-Err.ensures.own in
    (e.ready, c.latest-latest-in-Err.ensures ∙ sym (ap (λ (b : FrontedBook). last_seen b.book) e.seen))

pub returns-in-Ok-clause-done : goal.returns-in-Ok-clause-done
returns-in-Ok-clause-done g c =
    let e = ended c.pass.inside.seat c.take-chest.new.seat c.give.new.seat c.take-chest.result _ _ _ c.pass.invariant.0 c.take-chest.ensures.turn c.take-chest.ensures.own c.give.ensures.done c.give.ensures.own in
    let asked = c.and-asked.ensures ∙ ap (λ l. l ++ c.args.command ∷ []) c.new.ensures in
    let answered = c.and-answered.ensures ∙ ap (λ l. l ++ c.in-Ok.reply ∷ []) c.new-in-Ok.ensures in
    let one = one_note g.C.Chest.book g.C.Chest.shown g.C.Chest.note c.take-chest.result c.act.new.self c.args.command c.in-Ok.reply _ _ asked answered in
    turned_by g.C.Chest.charter g.C.Chest.sound g.C.Chest.book g.C.Chest.shown g.C.Chest.note g.C.Chest.may_reply g.C.Chest.keeps_sound c.pass.inside.seat c.give.new.seat c.take-chest.result c.act.new.self c.args.command c.in-Ok.reply c.args.pass.now
    c.pass.view_is c.requires.sound c.take-chest.ensures.found c.act.ensures.charter c.in-Ok.ensures.reply c.act.ensures.book c.act.ensures.sound
    (e.shows ∙ ap (λ ns. seen_by (holding_of c.pass.inside.seat) (g.C.Chest.book c.act.new.self) ns) one)

pub returns-in-Err-clause-refused : goal.returns-in-Err-clause-refused
returns-in-Err-clause-refused g c =
    let e = ended c.pass.inside.seat c.take-chest.new.seat c.give-in-Err.new.seat c.take-chest.result _ _ _ c.pass.invariant.0 c.take-chest.ensures.turn c.take-chest.ensures.own c.give-in-Err.ensures.done c.give-in-Err.ensures.own in
    let asked = c.and-asked.ensures ∙ ap (λ l. l ++ c.args.command ∷ []) c.new.ensures in
    let none = no_note g.C.Chest.book g.C.Chest.shown g.C.Chest.note c.take-chest.result c.act.new.self c.args.command _ _ asked c.new-in-Err.ensures in
    unturned_by g.C.Chest.charter g.C.Chest.sound g.C.Chest.book g.C.Chest.shown g.C.Chest.note g.C.Chest.may_reply g.C.Chest.keeps_sound g.C.Chest.as_before c.pass.inside.seat c.give-in-Err.new.seat c.take-chest.result c.act.new.self c.args.pass.now
    c.pass.view_is c.take-chest.ensures.found c.act.ensures.charter c.in-Err.ensures.before
    (e.shows ∙ ap (λ ns. seen_by (holding_of c.pass.inside.seat) (g.C.Chest.book c.act.new.self) ns) none)

pub returns-in-Ok-clause-stays : goal.returns-in-Ok-clause-stays
returns-in-Ok-clause-stays g c =
    let e = ended c.pass.inside.seat c.take-chest.new.seat c.give.new.seat c.take-chest.result _ _ _ c.pass.invariant.0 c.take-chest.ensures.turn c.take-chest.ensures.own c.give.ensures.done c.give.ensures.own in
    stays_by c.pass.inside.seat c.give.new.seat _ _ c.args.pass.now c.pass.view_is e.shows

pub returns-in-Err-clause-stays : goal.returns-in-Err-clause-stays
returns-in-Err-clause-stays g c =
    let e = ended c.pass.inside.seat c.take-chest.new.seat c.give-in-Err.new.seat c.take-chest.result _ _ _ c.pass.invariant.0 c.take-chest.ensures.turn c.take-chest.ensures.own c.give-in-Err.ensures.done c.give-in-Err.ensures.own in
    stays_by c.pass.inside.seat c.give-in-Err.new.seat _ _ c.args.pass.now c.pass.view_is e.shows
