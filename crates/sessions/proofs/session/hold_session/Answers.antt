use Rattle.std.proofs.Common.{arith, refl, ap, ◌∙◌}
use Rattle.sessions.proofs.UnderWay.{answered, under_way_next, under_way_start}
use Rattle.sessions.proofs.Ending.{unbegun, ends_unmet, closed_behind, cut_off_behind, too_many}
use Rattle.sessions.proofs.session.hold_session.Goals as goal

pub returns-in_default-clause-held : goal.returns-in_default-clause-held
returns-in_default-clause-held g c = unbegun

pub serving-init : goal.serving-init
serving-init g c =
    record {
      under_way = under_way_start c.in-Ok.reader c.in-Ok.ensures;
      going = ap (λ r. r.ended) c.in-Ok.ensures;
      surplus = rw c.in-Ok.ensures (omega arith);
      ready = c.requires.ready;
      document = refl;
      told = refl;
      reads = omega arith;
      writes = omega arith;
    }

-- WHERE NO FURTHER MESSAGE CAME

pub returns-in-Err-clause-held : goal.returns-in-Err-clause-held
returns-in-Err-clause-held g c =
    let i = c.serving.invariant in
    ends_unmet i.under_way (omega arith) c.next_message.new.reader.held i.reads i.writes c.in-Err.end c.in-Err.ensures.err

-- AFTER A MESSAGE

pub returns-in-Err-sent-clause-held : goal.returns-in-Err-sent-clause-held
returns-in-Err-sent-clause-held g c =
    let i = c.serving.invariant in
    let r = c.in-Err-sent.ensures.responds in
    let rose = c.in-Err-sent.ensures.cause.failed in
    let same = c.in-Ok-next_message.ensures.ok.writes in
    cut_off_behind (omega arith) c.in-Ok-next_message.ensures.ok.surplus (omega (arith, rose, same, i.writes)) (answered i.under_way (record {
      takes = rw c.respond-sent.ensures.left c.in-Ok-next_message.ensures.ok.takes;
      outcome = r.0;
      serves = rw i.told at r.1;
      sends = rw (c.in-Ok-next_message.ensures.ok.unsent, i.document) at r.3;
    }))

pub returns-then-is_last-clause-held : goal.returns-then-is_last-clause-held
returns-then-is_last-clause-held g c =
    let i = c.serving.invariant in
    let r = c.in-Ok-sent.ensures.responds in
    closed_behind (omega arith) c.in-Ok-next_message.ensures.ok.surplus c.if-is_last.true (answered i.under_way (record {
      takes = rw c.respond-sent.ensures.left c.in-Ok-next_message.ensures.ok.takes;
      outcome = r.0;
      serves = rw i.told at r.1;
      sends = rw (c.in-Ok-next_message.ensures.ok.unsent, i.document) at r.2;
    }))

pub serving-preserved : goal.serving-preserved
serving-preserved g c =
    let i = c.serving.invariant in
    let r = c.in-Ok-sent.ensures.responds in
    let read = c.next_message.ensures.reads in
    let written = c.respond-sent.ensures.cause.later in
    record {
      under_way = under_way_next i.under_way (record {
        takes = rw c.respond-sent.ensures.left c.in-Ok-next_message.ensures.ok.takes;
        outcome = r.0;
        serves = rw i.told at r.1;
        sends = rw (c.in-Ok-next_message.ensures.ok.unsent, i.document) at r.2;
      }) c.if-is_last.false;
      going = c.in-Ok-next_message.ensures.ok.going;
      surplus = c.in-Ok-next_message.ensures.ok.surplus;
      ready = c.respond-sent.ensures.ready;
      document = c.respond-sent.ensures.document ∙ i.document;
      told = c.respond-sent.ensures.told ∙ i.told;
      reads = omega (arith, i.reads, read, c.respond-sent.ensures.read_faults);
      writes = omega (arith, i.writes, c.in-Ok-next_message.ensures.ok.writes, written);
    }

pub returns-clause-held : goal.returns-clause-held
returns-clause-held g c =
    let i = c.serving.invariant in
    too_many i.under_way (omega arith) i.surplus
