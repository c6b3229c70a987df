use Rattle.std.proofs.Common.{rules, arith, ◌≡◌, ◌∙◌, [], ◌∷◌, length, length-append, ap, refl}
use Rattle.std.proofs.lemmas.List.Elements.{All-nil}
use Rattle.link_queue.specs.Hands.{hand, table_of}
use Rattle.server_workers.specs.Crew.{HasHeldSessions, IsWorkerReady}
use Rattle.server_workers.proofs.Crews.{one_longer, popped, pushed}
use Rattle.server_workers.proofs.Gathering.{gather_begins, gather_goes_on, gather_ends, ready_with}
use Rattle.server_workers.proofs.Hearing.{ready_heard}
use Rattle.server_workers.proofs.ending.gather.Goals as goal

pub gathering-init : goal.gathering-init
gathering-init g c = record {
  last = c.requires.last;
  others = c.requires.others;
  of = rw c.requires.empty (All-nil (λ p. p.table ≡ c.args.world.now.hall.turnstile.table));
  count = omega (arith, ap length c.requires.empty);
  room = refl;
  gathered = λ s last others. (others, rw c.requires.empty (gather_begins s _ _ _ _ _ c.args.runner.now last));
  runner = c.requires.runner;
}

pub gathering-preserved : goal.gathering-preserved
gathering-preserved g c =
    let left = one_longer _ _ _ c.in-Some.ensures.items in
    let i = c.gathering.invariant in
    let last = c.gathering.last in
    let other = c.in-Some.other in
    let r = popped (λ w. IsWorkerReady (table_of c.args.queue.now.links) c.args.world.now.hall.turnstile.table c.args.world.now.board.turnstile.table c.args.world.now.hall.catalogue (g.S.Source.told w.source) w.pass w.board w.hand)
    c.gathering.others.items c.pop.new.self.items other c.in-Some.ensures.items i.others in
    record {
      last = ready_with _ _ _ _ _ _ _ last.hand other.hand c.take_over.new.mine i.last c.take_over.ensures;
      others = r.0;
      of = pushed (λ p. p.table ≡ c.args.world.now.hall.turnstile.table) c.push_reserved.new.self.items c.gathering.passes.items other.pass c.push_reserved.ensures.items i.of r.1.of.same_table;
      count = omega (arith, left, i.count, ap length c.push_reserved.ensures.items, length-append c.gathering.passes.items (other.pass ∷ []));
      room = c.push_reserved.ensures.capacity ∙ i.room;
      gathered = λ s began others.
          let had = i.gathered s began others in
          let w = popped (λ w. HasHeldSessions s (hand 1 [] []) w.pass w.board w.source w.hand) c.gathering.others.items c.pop.new.self.items other c.in-Some.ensures.items had.0 in
          (w.0, rw c.push_reserved.ensures.items (gather_goes_on s _ _ _ last.pass other.pass _ _ _ _ last.hand other.hand c.take_over.new.mine c.gathering.passes.items c.args.runner.now c.gathering.runner c.hear.new.self left had.1 w.1 c.hear.ensures.heard c.take_over.ensures.knows));
      runner = ready_heard _ _ _ c.gathering.runner c.hear.new.self _ i.runner c.hear.ensures.heard;
    }

pub returns-clause-gathered : goal.returns-clause-gathered
returns-clause-gathered g c = λ s last others. gather_ends s _ _ _ _ _ _ _ _ _ (search rules) (c.gathering.invariant.gathered s last others).1
