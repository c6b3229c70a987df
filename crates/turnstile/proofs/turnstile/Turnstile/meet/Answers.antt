use Rattle.std.proofs.Common.{◌≡◌, ◌∙◌, max, arith}
use Rattle.turnstile.proofs.Held.{heard_ready}
use Rattle.turnstile.proofs.turnstile.Turnstile.meet.Goals as goal

pub invariant_of-a : goal.invariant_of-a
invariant_of-a g c =
    let h = heard_ready c.a.inside.seat c.b.inside.seat c.tell-from_a.new.seat c.tell-from_b.result c.hear.new.seat _ _ c.a.invariant.0 c.a.invariant.1 c.b.invariant.1 c.tell-from_a.ensures.same c.tell-from_b.ensures.told c.hear.ensures.own.1 c.hear.ensures.heard in
    (h.0, c.max-latest.ensures ∙ h.1)

pub invariant_of-b : goal.invariant_of-b
invariant_of-b g c =
    let h = heard_ready c.b.inside.seat c.a.inside.seat c.tell-from_b.new.seat c.tell-from_a.result c.hear-2.new.seat _ _ c.b.invariant.0 c.b.invariant.1 c.a.invariant.1 c.tell-from_b.ensures.same c.tell-from_a.ensures.told c.hear-2.ensures.own.1 c.hear-2.ensures.heard in
    let turned : max c.a.inside.latest c.b.inside.latest ≡ max c.b.inside.latest c.a.inside.latest = omega arith in
    (h.0, c.max-latest.ensures ∙ (turned ∙ h.1))
