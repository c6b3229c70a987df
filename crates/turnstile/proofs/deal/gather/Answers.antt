use Rattle.std.proofs.Common.{rules, ◌≡◌, ◌∙◌, [], refl, ap, subst, arith}
use Rattle.turnstile.specs.Steps.{Found}
use Rattle.turnstile.specs.Passes.{known_by}
use Rattle.turnstile.proofs.Held.{fewer_wait, found_of_pass, heard_more, none_waits, one_longer, others_wait, popped, pushed}
use Rattle.turnstile.proofs.deal.gather.Goals as goal

pub loop-next-init : goal.loop-next-init
loop-next-init g c =
    let ready = c.into_seat-all.ensures.ready in
    let same = c.into_seat-all.ensures.same in
    let p = popped (λ p. p.table ≡ c.args.queue.now.table.shared.table_id) c.args.passes.items c.pop.new.self.items c.in-Some.first c.in-Some.ensures.items c.requires.own in
    let more = one_longer c.args.passes.items c.pop.new.self.items c.in-Some.first c.in-Some.ensures.items in
    let one = ready.parts_is in
    record {
      own = p.0;
      table = ap (λ h. h.table) same ∙ p.1;
      ready = record { live = ready.live; parts_is = refl; idle = ready.idle; carries = ready.carries };
      parts = omega arith;
      turns = λ p at. others_wait c.into_seat-all.result c.args.passes.items c.pop.new.self.items c.in-Some.first p c.in-Some.ensures.items same at;
      known = λ chest f all. pushed (λ p. Found g.C.Chest.charter g.C.Chest.sound g.C.Chest.book (known_by p) chest) c.args.passes.items c.pop.new.self.items c.in-Some.first c.in-Some.ensures.items all
          (subst (λ p. Found g.C.Chest.charter g.C.Chest.sound g.C.Chest.book (known_by p) chest) same f);
    }

pub hear-requires-clause-own : goal.hear-requires-clause-own
hear-requires-clause-own g c =
    let inv = c.loop-next.invariant in
    let p = popped (λ p. p.table ≡ c.args.queue.now.table.shared.table_id) c.loop-next.rest.items c.pop-in-loop-next.new.self.items c.in-Some-pop.next c.in-Some-pop.ensures.items inv.own in
    (inv.table, ap (λ h. h.table) c.into_seat.ensures.same ∙ p.1, c.into_seat.ensures.ready.carries)

pub loop-next-preserved : goal.loop-next-preserved
loop-next-preserved g c =
    let inv = c.loop-next.invariant in
    let items = c.in-Some-pop.ensures.items in
    let p = popped (λ p. p.table ≡ c.args.queue.now.table.shared.table_id) c.loop-next.rest.items c.pop-in-loop-next.new.self.items c.in-Some-pop.next items inv.own in
    let more = one_longer c.loop-next.rest.items c.pop-in-loop-next.new.self.items c.in-Some-pop.next items in
    let h = heard_more c.loop-next.all c.into_seat.result c.hear.new.seat inv.ready c.into_seat.ensures.ready c.hear.ensures.own.1 c.hear.ensures.heard in
    let parts = inv.parts in
    let parts' = h.1 in
    record {
      own = p.0;
      table = c.hear.ensures.own.0 ∙ inv.table;
      ready = h.0;
      parts = omega arith;
      turns = λ p at. fewer_wait c.loop-next.all c.into_seat.result c.hear.new.seat c.loop-next.rest.items c.pop-in-loop-next.new.self.items c.in-Some-pop.next p items c.into_seat.ensures.same c.hear.ensures.heard (inv.turns p at);
      known = λ chest f all.
          let both = found_of_pass g.C.Chest.charter g.C.Chest.sound g.C.Chest.book c.loop-next.all c.into_seat.result c.hear.new.seat c.in-Some-pop.next chest c.into_seat.ensures.same c.hear.ensures.heard f in
          inv.known chest both.1
          (pushed (λ p. Found g.C.Chest.charter g.C.Chest.sound g.C.Chest.book (known_by p) chest) c.loop-next.rest.items c.pop-in-loop-next.new.self.items c.in-Some-pop.next items all both.0);
    }

pub returns-clause-turns : goal.returns-clause-turns
returns-clause-turns g c =
    let none : c.loop-next.rest.items ≡ [] = search rules in
    λ p at. none_waits c.loop-next.all c.loop-next.rest.items p none (c.loop-next.invariant.turns p at)
