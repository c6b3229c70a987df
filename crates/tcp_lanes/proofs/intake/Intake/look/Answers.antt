use Rattle.std.proofs.Common.{length, ap, arith}
use Rattle.tcp_lanes.proofs.Searches.{whole_kept, headless_kept, short_kept, hopeless_found}
use Rattle.tcp_lanes.proofs.intake.Intake.look.Goals as goal

pub invariant_of-self : goal.invariant_of-self
invariant_of-self c = whole_kept _ _ _ _ _ c.as_slice.ensures.value c.in-Whole.ensures

pub invariant_of-self-in-Headless : goal.invariant_of-self-in-Headless
invariant_of-self-in-Headless c = headless_kept _ _ _ c.self.inside.searched _ _ c.as_slice.ensures.value (omega (arith, c.len-self-inside.ensures, c.as_slice.ensures.len, ap length c.as_slice.ensures.value)) c.in-Headless.ensures c.self.invariant

pub invariant_of-self-in-Short : goal.invariant_of-self-in-Short
invariant_of-self-in-Short c =
    short_kept _ _ _ _ _ c.as_slice.ensures.value (omega (arith, c.len-self-inside.ensures, c.as_slice.ensures.len, ap length c.as_slice.ensures.value)) c.in-Short.ensures c.self.invariant.0

pub returns-in-Hopeless : goal.returns-in-Hopeless
returns-in-Hopeless c =
    hopeless_found c.args.self.now c.self.inside.held.items _ c.self.inside.message c.self.inside.given _ c.self.view_is c.as_slice.ensures.value (omega (arith, c.len-self-inside.ensures, c.as_slice.ensures.len, ap length c.as_slice.ensures.value)) c.in-Hopeless.ensures
