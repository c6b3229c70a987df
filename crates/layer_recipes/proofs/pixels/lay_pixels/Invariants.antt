use Rattle.layer_recipes.specs.Overlaid.{AreLaid}
use Rattle.layer_recipes.proofs.pixels.lay_pixels.Given as goal

-- the pixels before this place were laid
abbrev pub invariant-loop-place : goal.invariant-loop-place
invariant-loop-place l = AreLaid l.start l.place l.key l.under l.fn.text l.text l.fn.clear l.clear
