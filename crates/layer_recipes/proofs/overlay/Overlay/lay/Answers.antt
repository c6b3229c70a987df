use Rattle.std.proofs.Common.{◌≡◌, ◌++◌, ◌∷◌, [], ℕ, Bool, List, sym, subst, ◌∙◌}
use Rattle.std.specs.Vec.{with_items}
use Rattle.std.proofs.lemmas.List.{with_items_is}
use Rattle.layer_recipes.specs.Overlaid.{Lays, OverlaySheet}
use Rattle.layer_recipes.proofs.Sheets.{lays_more}
use Rattle.layer_recipes.proofs.overlay.Overlay.lay.Goals as goal

pub returns-clause-laid : goal.returns-clause-laid
returns-clause-laid c = λ parts lays.
    (let o = c.self.inside in
    let here : Lays (record { matrix = o.matrix; text = o.text.items; clear = o.clear.items }) parts = subst (λ (s : OverlaySheet). Lays s parts) (sym c.self.view_is) lays in
    let laid = rw (c.deref_mut.ensures.value, c.deref_mut-2.ensures.value) at c.lay_pixels.ensures in
    let text : (with_items o.text c.lay_pixels.new.text).items ≡ c.lay_pixels.new.text = with_items_is o.text c.lay_pixels.new.text (laid.size ∙ sym o.text.ok.0) in
    let clear : (with_items o.clear c.lay_pixels.new.clear).items ≡ c.lay_pixels.new.clear = with_items_is o.clear c.lay_pixels.new.clear (laid.count ∙ sym o.clear.ok.0) in
    let new = lays_more o.matrix o.start o.text.items c.lay_pixels.new.text o.clear.items c.lay_pixels.new.clear c.args.key c.args.text.now c.self.invariant laid parts here in
    subst (λ (t : List ℕ). Lays (record { matrix = o.matrix; text = t; clear = (with_items o.clear c.lay_pixels.new.clear).items }) (parts ++ (c.args.key, c.args.text.now) ∷ [])) (sym text)
    (subst (λ (b : List Bool). Lays (record { matrix = o.matrix; text = c.lay_pixels.new.text; clear = b }) (parts ++ (c.args.key, c.args.text.now) ∷ [])) (sym clear) new))
