use Rattle.std.proofs.Common.{ℕ, ◌++◌, ◌∙◌, Ok, Err, ap, arith, subst, take}
use Rattle.http_answer.specs.declared.answer.AnswerSoFar.TheVariants.{More}
use Rattle.renderer_link.specs.Exchanges.{TakesSo}
use Rattle.renderer_link.proofs.Receiving.{one_more, refused, whole}
use Rattle.renderer_link.proofs.exchange.received.Goals as goal

pub returns-in-Ok-Whole-clause-received : goal.returns-in-Ok-Whole-clause-received
returns-in-Ok-Whole-clause-received g c =
    let came = c.taking.invariant.came in
    let all = came ++ take c.in-Ok.count c.take.new.into in
    whole c.args.limit _ _ all c.in-Ok-Whole.body
    (one_more _ _ _ _ _ c.taking.invariant.comes c.in-Ok.ensures.bytes.0)
    (subst (TakesSo c.taking.answer.limit all) (ap Ok c.in-Ok-Whole.field-0-is) (c.in-Ok-Whole.ensures came c.taking.invariant.reading))

pub returns-in-Err-clause-received : goal.returns-in-Err-clause-received
returns-in-Err-clause-received g c =
    let came = c.taking.invariant.came in
    let all = came ++ take c.in-Ok.count c.take.new.into in
    refused c.args.limit _ _ all c.in-Err.fault
    (one_more _ _ _ _ _ c.taking.invariant.comes c.in-Ok.ensures.bytes.0)
    (subst (λ (n : ℕ). TakesSo n all (Err c.in-Err.fault)) c.taking.invariant.limit (c.in-Err.ensures came c.taking.invariant.reading))

pub taking-preserved : goal.taking-preserved
taking-preserved g c =
    let came = c.taking.invariant.came in
    let all = came ++ take c.in-Ok.count c.take.new.into in
    let so : TakesSo c.taking.answer.limit all (Ok (More c.in-Ok-More.more)) = subst (TakesSo c.taking.answer.limit all) (ap Ok c.in-Ok-More.field-0-is) (c.in-Ok-More.ensures came c.taking.invariant.reading) in
    record {
      came = all;
      comes = one_more _ _ _ _ _ c.taking.invariant.comes c.in-Ok.ensures.bytes.0;
      reading = so.0;
      limit = so.1 ∙ c.taking.invariant.limit;
      later = omega (arith, c.taking.invariant.later, c.in-Ok.ensures.cause.later);
      apart = c.take.ensures.apart ∙ c.taking.invariant.apart;
    }
