use Rattle.std.proofs.Common.{◌≡◌, ◌-◌, ◌≤◌, ◌∙◌, cond, List, Some, None, ap, arith, subst, sym}
use Rattle.metatile_plan.specs.Keys.{same_meta}
use Rattle.kept_areas.specs.declared.spot.KeptSpot.{KeptSpot}
use Rattle.kept_areas.specs.Areas.{Areas, all_spots, number_in}
use Rattle.kept_areas.proofs.Entered.{kept_entered, number_entered}
use Rattle.kept_areas.proofs.areas.KeptAreas.enter.Goals as goal

pub invariant_of-self : goal.invariant_of-self
invariant_of-self c =
    let chunks = c.self.inside.chunks.items in
    let none : number_in (all_spots chunks) c.args.meta.now ≡ None = subst (λ (a : Areas). number_in (all_spots a.chunks) c.args.meta.now ≡ None) (sym c.self.view_is) c.requires.fresh in
    let spare : 1 ≤ c.self.inside.room - c.self.inside.taken = subst (λ (a : Areas). 1 ≤ a.spare) (sym c.self.view_is) c.requires.room in
    kept_entered c.args.meta.now c.args.number chunks c.prepare-self-inside.new.chunks.items c.enter-self-inside.new.chunks.items c.self.inside.taken c.self.inside.room c.self.inside.used c.enter-self-inside.result c.prepare-self-inside.ensures.spots c.prepare-self-inside.ensures.len c.enter-self-inside.ensures.entered c.enter-self-inside.ensures.len none (omega arith) c.self.invariant c.enter-self-inside.ensures.first

pub returns-clause-numbers : goal.returns-clause-numbers
returns-clause-numbers c = λ k.
    let chunks = c.self.inside.chunks.items in
    let is : all_spots c.prepare-self-inside.new.chunks.items ≡ all_spots c.args.self.now.chunks = c.prepare-self-inside.ensures.spots ∙ ap (λ (a : Areas). all_spots a.chunks) c.self.view_is in
    let none = ap (λ (zs : List KeptSpot). number_in zs c.args.meta.now) is ∙ c.requires.fresh in
    number_entered c.args.meta.now c.args.number (all_spots c.prepare-self-inside.new.chunks.items) (all_spots c.enter-self-inside.new.chunks.items) c.enter-self-inside.ensures.entered none k
    ∙ ap (λ (zs : List KeptSpot). cond (same_meta k c.args.meta.now) (Some c.args.number) (number_in zs k)) is
