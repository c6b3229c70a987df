use Rattle.std.proofs.Common.{◌≡◌, ◌+◌, ◌-◌, ◌++◌, ◌∷◌, [], ◌∙◌, List, cond, drop, sym, ap, subst, arith}
use Rattle.truncation_list.specs.declared.book.Cut.{Cut}
use Rattle.cabinet_records.specs.declared.replay.aimed.AimedCut.{AimedCut}
use Rattle.cabinet_records.specs.Aiming.{IsZoomOn, aimed_at, is_for, last_aimed}
use Rattle.cabinet_records.proofs.AimedCuts.{one_more}
use Rattle.cabinet_records.proofs.replay.aiming.aim_down.Goals as goal

pub aiming-preserved : goal.aiming-preserved
aiming-preserved c =
    let cuts = c.args.cuts.now.book.cuts in
    let old = c.aiming.aims in
    let left = old.left in
    let at = old.zoom in
    let i = c.aiming.invariant in
    let e = c.in-Ok.ensures in
    let cut : Cut = record { number = c.cut_at-last.result.0; cover = c.cut_at-last.result.1 } in
    let some : left - 1 + 1 ≡ left = omega (arith, c.aiming-test.true) in
    let was : old.cuts.items ≡ last_aimed at (drop (left - 1 + 1) cuts) = i.aimed.cuts_are ∙ ap (λ n. last_aimed at (drop n cuts)) (sym some) in
    let now = e.cuts ∙ ap (λ (xs : List AimedCut). cond (is_for at cut.cover) (xs ++ aimed_at at cut ∷ []) xs) was ∙ sym (one_more at cuts (left - 1) cut c.cut_at-last.ensures) in
    let within = i.aimed.within in
    record {
      zoom = subst (IsZoomOn c.args.grid.now) (sym e.zoom) i.zoom;
      aimed = record { within = omega (arith, within, e.left); cuts_are = now ∙ (λ j. last_aimed (sym e.zoom j) (drop (sym e.left j - 1) cuts)) };
    }
