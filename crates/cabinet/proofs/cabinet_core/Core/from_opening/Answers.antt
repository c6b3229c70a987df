use Rattle.std.proofs.Common.{◌≡◌, ◌*◌, ◌∙◌, List, arith, refl, subst, sym}
use Rattle.cabinet.specs.declared.kept.Kept.{Kept}
use Rattle.cabinet.specs.Consistent.{IsConsistent}
use Rattle.cabinet.specs.Entered.{AreEntered}
use Rattle.cabinet.specs.History.{CabinetOpening}
use Rattle.cabinet.specs.Started.{opening_of}
use Rattle.cabinet.proofs.Entering.{at_opening}
use Rattle.cabinet.proofs.cabinet_core.Core.from_opening.Goals as goal

pub invariant_of-result : goal.invariant_of-result
invariant_of-result c =
    let book = c.args.cuts.book in
    let o : CabinetOpening = record { number = c.args.number; kept = c.args.kept.items; book = c.args.cuts.book } in
    let start = c.of-start.ensures in
    let is : opening_of c.of-start.result ≡ o = λ i. record { number = start.number i; kept = (start.kept ∙ c.as_slice.ensures.value) i; book = record { cuts = start.cuts i; floor = start.floor i } } in
    let entered = subst (λ (ts : List Kept). AreEntered c.args.catalogue ts c.in_ok-shelf.shelf) c.as_slice-2.ensures.value c.in_ok-shelf.ensures in
    subst (λ (x : CabinetOpening). IsConsistent (record { opening = x; shelf = c.in_ok-shelf.shelf; last = c.from.result * 1099511627776; moment = 0; clock = c.args.clock; renders = c.in_ok-locks.locks.renders; book = book }) c.new-2.result.entries) (sym is)
    (at_opening c.args.catalogue o c.in_ok-shelf.shelf c.args.clock _ c.in_ok-locks.locks.renders book c.new-2.result.entries c.requires.valid c.requires.number c.requires.opens entered (omega (arith, c.from.ensures)) c.in_ok-locks.ensures refl c.new-2.ensures)
