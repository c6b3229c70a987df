use Rattle.std.proofs.Common.{false, List, sym, subst}
use Rattle.std.specs.Prelude.{All}
use Rattle.cabinet.specs.State.{fronted, now}
use Rattle.catalog.specs.declared.catalogue.Catalogue.{Catalogue}
use Rattle.catalog.specs.Valid.{IsValid}
use Rattle.turnstile.proofs.Held.{popped}
use Rattle.cache_hall.specs.Opened.{IsFirstPass}
use Rattle.cache_hall.specs.Turned.{HallPass, IsPassOf}
use Rattle.composite_tests.proofs.Fitting.{fit_first}
use Rattle.composite_tests.proofs.stand.pair_of.Goals as goal

pub returns : goal.returns
returns c =
    let h = c.in_ok-hall.field-0.hall in
    let P : HallPass → Type 0 = IsPassOf h.turnstile.table h.catalogue in
    let Q : HallPass → Type 0 = IsFirstPass false (fronted (now c.args.cabinet)) in
    let own : All P c.into_vec-passes.result.items = subst (λ (xs : List HallPass). All P xs) (sym c.into_vec-passes.ensures) c.in_ok-hall.ensures.own in
    let each : All Q c.into_vec-passes.result.items = subst (λ (xs : List HallPass). All Q xs) (sym c.into_vec-passes.ensures) c.in_ok-hall.ensures.each in
    let p = popped P _ _ _ c.in-Some.ensures.items own in
    let q = popped Q _ _ _ c.in-Some.ensures.items each in
    let r = popped P _ _ _ c.in-Some-pop.ensures.items p.0 in
    let s = popped Q _ _ _ c.in-Some-pop.ensures.items q.0 in
    let valid = subst (λ (k : Catalogue). IsValid k) (sym c.in_ok-hall.ensures.catalogue) c.requires.valid in
    (fit_first _ _ _ _ p.1 q.1 valid, fit_first _ _ _ _ r.1 s.1 valid)
