use Rattle.std.proofs.Common.{ap, inl, subst, ◌∙◌}
use Rattle.catalog.specs.declared.catalogue.Catalogue.{Catalogue}
use Rattle.metatile_plan.specs.declared.metatile.MetaKey.{MetaKey}
use Rattle.raster_field.specs.Blocks.{block_of}
use Rattle.cabinet.specs.Commands.{Forces, IsForcedOf}
use Rattle.cabinet.specs.State.{IsKnown, State, asked_at}
use Rattle.cabinet.proofs.FoundKept.{none_unkept}
use Rattle.cabinet.proofs.cabinet.Cabinet.ask_unkept.Goals as goal

pub returns-clause-asked : goal.returns-clause-asked
returns-clause-asked c =
    let s = c.args.self.now in
    let a = c.args.address.now in
    let k = subst IsKnown c.self.view_is c.known.ensures in
    let new = c.force.new.self.state in
    let n = new.clock.moment in
    let is = c.block_of-meta.ensures.meta ∙ ap (λ (x : Catalogue). block_of x a) c.catalogue.ensures ∙ ap (λ (v : State). block_of v.catalogue a) c.self.view_is in
    let forced = subst (λ (v : State). Forces v c.block_of-meta.result c.in-Ok.forced new) c.self.view_is c.in-Ok.ensures.forced in
    let row = subst (λ (m : MetaKey). IsForcedOf (asked_at n s) m c.in-Ok.forced new) is forced in
    c.as_asked.ensures.asked 0 0 (asked_at n s) a new (inl (none_unkept s k a n c.requires.none)) row

pub returns-clause-sound : goal.returns-clause-sound
returns-clause-sound c = c.as_asked.ensures.no_hit c.args.self.now.catalogue c.args.address.now
