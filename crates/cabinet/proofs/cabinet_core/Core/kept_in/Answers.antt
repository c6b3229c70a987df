use Rattle.std.proofs.Common.{ap, ◌∙◌}
use Rattle.cabinet.specs.Consistent.{Parts}
use Rattle.cabinet.specs.Counted.{kept_in}
use Rattle.cabinet.specs.State.{State}
use Rattle.cabinet.proofs.Answered.{layer_kept}
use Rattle.cabinet.specs.Started.{opening_of}
use Rattle.cabinet.specs.Steps.{Cored}
use Rattle.cabinet.proofs.cabinet_core.Core.kept_in.Goals as goal

pub returns : goal.returns
returns c =
    let i = c.self.inside in
    let p : Parts = record { opening = opening_of i.start; shelf = i.shelf; last = i.last; moment = i.moment; clock = i.clock; renders = i.locks.renders; book = i.cuts.book } in
    c.kept_in.ensures ∙ layer_kept p i.past.entries c.self.invariant c.args.layer ∙ ap (λ (v : State). kept_in v c.args.layer) (ap (λ (v : Cored). v.state) c.self.view_is)
