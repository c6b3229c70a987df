use Rattle.std.proofs.Common.{List, ℕ, [], ◌∷◌, ◌++◌, ap, ◌∙◌}
use Rattle.window_request.proofs.Padding.{writes_all}
use Rattle.window_request.proofs.decimal.number_text.Goals as goal

pub returns : goal.returns
returns c =
    writes_all c.args.negative c.args.units c.args.places c.parts-whole.result.0 c.parts-whole.result.1 c.in_ok-text.text.items _ _
    c.parts-whole.ensures.whole
    c.in_ok-text.ensures
    (c.in_ok-push.ensures.items ∙ ap (λ (l : List ℕ). l ++ (46 ∷ [])) (c.in_ok-extend_from_slice.ensures.items ∙ ap (λ (l : List ℕ). c.in_ok-text.text.items ++ l) (c.as_bytes.ensures.value ∙ c.format.ensures.text)))
    (c.in_ok-pad.ensures)
    c.parts-whole.ensures.value
