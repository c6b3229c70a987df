use Rattle.std.proofs.Common.{◌∙◌, None, ap, sym}
use Rattle.kept_areas.specs.Areas.{least_in}
use Rattle.kept_areas.proofs.Least.{least_none, least_some}
use Rattle.kept_areas.proofs.area.Area.least_with.Goals as goal

pub returns-in-None : goal.returns-in-None
returns-in-None c = least_none c.args.was c.args.self.now (sym c.in-None.is ∙ c.self.invariant.2.number ∙ ap (least_in None) c.self.view_is)

pub returns-in-Some : goal.returns-in-Some
returns-in-Some c =
    c.lesser.ensures ∙ least_some c.args.was c.in-Some.number c.args.self.now (sym c.in-Some.is ∙ c.self.invariant.2.number ∙ ap (least_in None) c.self.view_is)
