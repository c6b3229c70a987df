use Rattle.std.proofs.Common.{sym, ◌∙◌}
use Rattle.kept_areas.proofs.Bounded.{left_bounded, left_numbered, other_number}
use Rattle.kept_areas.proofs.bounds.bounds_without.Goals as goal

pub returns-then-is_least : goal.returns-then-is_least
returns-then-is_least c = λ old e is. left_numbered c.args.gone.now c.args.spots.now old c.args.bounds.now c.least_of.result c.least_of.ensures e is

pub returns : goal.returns
returns c = λ old e is. left_bounded c.args.gone.now c.args.spots.now old c.args.bounds.now (other_number c.args.bounds.now.number c.args.gone.now.number (sym c.is_least.ensures ∙ c.if-is_least.false)) e is
