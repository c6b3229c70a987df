use Rattle.std.proofs.Common.{◌≡◌, ℕ, length, arith, subst}
use Rattle.layer_recipes.specs.Overlaid.{AreLaid}
use Rattle.layer_recipes.proofs.Laying.{none_laid, one_laid}
use Rattle.layer_recipes.proofs.pixels.lay_pixels.Goals as goal

pub loop-place-init : goal.loop-place-init
loop-place-init c = none_laid c.args.start c.args.key c.args.under.now c.args.text.now c.args.clear.now

pub loop-place-preserved : goal.loop-place-preserved
loop-place-preserved c =
    one_laid c.args.start c.loop-place.place c.args.key c.args.under.now c.args.text.now c.loop-place.text c.lay_pixel.new.text c.args.clear.now c.loop-place.clear c.lay_pixel.new.clear
    (omega arith) (omega arith) c.lay_pixel.ensures.text c.lay_pixel.ensures.clear c.loop-place.invariant

pub returns : goal.returns
returns c =
    let all : c.loop-place.place ≡ length c.args.clear.now = omega arith in
    subst (λ (n : ℕ). AreLaid c.args.start n c.args.key c.args.under.now c.args.text.now c.loop-place.text c.args.clear.now c.loop-place.clear) all c.loop-place.invariant
