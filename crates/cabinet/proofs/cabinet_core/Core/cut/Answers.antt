use Rattle.std.proofs.Common.{ℕ, ◌≡◌, ◌++◌, ◌∷◌, [], Some, ap, arith, refl, subst, sym, ◌∙◌}
use Rattle.truncation_list.specs.Purge.{added}
use Rattle.metatile_locks.specs.Running.{overtaken}
use Rattle.served_covers.specs.OfCatalogue.{IsCoverOf}
use Rattle.cabinet.specs.declared.entry.HistoryEntry.TheVariants as entry
use Rattle.cabinet.specs.declared.judged.Admitted.TheVariants as admitted
use Rattle.cabinet.specs.Consistent.{Parts}
use Rattle.cabinet.specs.History.{next}
use Rattle.cabinet.specs.Hits.{hits_of}
use Rattle.cabinet.specs.Started.{opening_of}
use Rattle.cabinet.specs.State.{State, now}
use Rattle.cabinet.specs.Steps.{Admits, Cored}
use Rattle.cabinet.proofs.Answered.{admitted_few, least_is, number_is}
use Rattle.cabinet.proofs.Consistent.{above_cuts, after_cut}
use Rattle.cabinet.proofs.cabinet_core.Core.cut.Goals as goal

pub add-requires-clause-above : goal.add-requires-clause-above
add-requires-clause-above c =
    let i = c.self.inside in
    let p : Parts = record { opening = opening_of i.start; shelf = i.shelf; last = i.last; moment = i.moment; clock = i.clock; renders = i.locks.renders; book = i.cuts.book } in
    let h = i.past.entries in
    let state_is = ap (λ (v : Cored). v.state) c.self.view_is in
    let number = number_is p h c.self.invariant c.args.number (subst (λ (v : State). next v.opening (now v) ≡ Some c.args.number) (sym state_is) c.requires.admitted.0) in
    above_cuts p h c.self.invariant c.args.number (omega (arith, number.number))

pub invariant_of-self : goal.invariant_of-self
invariant_of-self c =
    let i = c.self.inside in
    let p : Parts = record { opening = opening_of i.start; shelf = i.shelf; last = i.last; moment = i.moment; clock = i.clock; renders = i.locks.renders; book = i.cuts.book } in
    let h = i.past.entries in
    let state_is = ap (λ (v : Cored). v.state) c.self.view_is in
    let number = number_is p h c.self.invariant c.args.number (subst (λ (v : State). next v.opening (now v) ≡ Some c.args.number) (sym state_is) c.requires.admitted.0) in
    let n = number.number in
    let cover = c.args.cover.now in
    let admitted = subst (λ (v : State). Admits v cover (admitted.Number c.args.number)) (sym state_is) c.requires.admitted in
    let least = least_is c.least_with-least.result c.least.result i.locks.renders i.shelf.blobs i.shelf.blobs c.least.ensures c.least_with-least.ensures refl in
    let of = subst (λ (v : State). IsCoverOf v.catalogue cover) (sym state_is) c.requires.cover in
    let same = c.catalogue.ensures.catalogue ∙ c.drop_hit.ensures.sifted.catalogue in
    let runs = c.overtake.ensures ∙ (λ j. overtaken (hits_of (same j) cover) (n j) i.locks.renders) in
    let book = c.add.ensures.book ∙ ap (λ (k : ℕ). added k cover c.least_with-least.result i.cuts.book) n in
    let told = c.and-self-inside.ensures ∙ ap (λ (k : ℕ). h ++ entry.Cut k cover ∷ []) n in
    after_cut p h c.self.invariant cover c.least_with-least.result c.and-self-inside.result.entries _ told c.drop_hit.ensures.sifted
    (λ j. record { opening = opening_of i.start; shelf = c.drop_hit.new.self; last = n j; moment = i.moment; clock = i.clock; renders = runs j; book = book j }) of (omega (arith, n, number.left)) least
    (admitted_few p h c.self.invariant cover c.least_with-least.result i.cuts.book c.args.number admitted.0 least refl admitted) c.drop_hit.ensures.room
