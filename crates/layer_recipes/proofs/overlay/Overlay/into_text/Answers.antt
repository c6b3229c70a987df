use Rattle.std.proofs.Common.{sym, ap, subst, ◌∙◌}
use Rattle.layer_recipes.specs.Composite.{laid_over}
use Rattle.layer_recipes.specs.Overlaid.{Lays, OverlaySheet}
use Rattle.layer_recipes.proofs.Sheets.{sheet_text}
use Rattle.layer_recipes.proofs.overlay.Overlay.into_text.Goals as goal

pub returns : goal.returns
returns c = λ parts lays.
    (let o = c.self.inside in
    let here : Lays (record { matrix = o.matrix; text = o.text.items; clear = o.clear.items }) parts = subst (λ (s : OverlaySheet). Lays s parts) (sym c.self.view_is) lays in
    sheet_text o.matrix o.start o.text.items o.clear.items parts c.self.invariant here ∙ ap (λ (s : OverlaySheet). laid_over s.matrix parts) c.self.view_is)
