use Rattle.std.proofs.Common.{Option, subst, sym}
use Rattle.std.specs.Prelude.{IsSome}
use Rattle.raster_field.specs.Blocks.{block_of}
use Rattle.cabinet.specs.declared.replies.Forced.{Forced}
use Rattle.cabinet.specs.History.{kept_of}
use Rattle.cabinet.specs.State.{IsKnown, State, now}
use Rattle.cabinet.specs.Steps.{AsksKept}
use Rattle.cabinet.proofs.FoundKept.{hit_of, hit_true, some_kept}
use Rattle.cabinet.proofs.cabinet.Cabinet.ask_kept.Goals as goal

pub ask_kept-requires-clause-kept : goal.ask_kept-requires-clause-kept
ask_kept-requires-clause-kept c =
    let s = c.args.self.now in
    let a = c.args.address.now in
    let k = subst IsKnown c.self.view_is c.known.ensures in
    subst (λ (v : State). IsSome (kept_of (block_of v.catalogue a) (now v))) (sym c.self.view_is) (some_kept s k a c.args.found c.requires.found)

pub returns-in-Some-clause-sound : goal.returns-in-Some-clause-sound
returns-in-Some-clause-sound c sound = c.as_asked.ensures.no_hit c.args.self.now.catalogue c.args.address.now

pub returns-in-None-clause-asked : goal.returns-in-None-clause-asked
returns-in-None-clause-asked c =
    let s = c.args.self.now in
    let a = c.args.address.now in
    let k = subst IsKnown c.self.view_is c.known.ensures in
    let new = c.ask_kept.new.self.state in
    let asks = subst (λ (v : State). AsksKept v a c.in-Ok.forced new) c.self.view_is c.in-Ok.ensures.asks in
    let x = subst (λ (o : Option Forced). AsksKept s a o new) c.in-None.is asks in
    hit_of s k a new.clock.moment c.args.found new c.requires.found x.0 x.1

pub returns-in-None-clause-sound : goal.returns-in-None-clause-sound
returns-in-None-clause-sound c =
    let s = c.args.self.now in
    hit_true s (subst IsKnown c.self.view_is c.known.ensures) c.args.address.now c.args.found c.requires.found
