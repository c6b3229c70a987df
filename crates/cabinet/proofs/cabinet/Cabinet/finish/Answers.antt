use Rattle.std.proofs.Common.{ap, subst, sym, ◌∙◌}
use Rattle.raster_field.specs.Blocks.{block_text}
use Rattle.cabinet.specs.State.{IsSound, State, with_blob}
use Rattle.cabinet.proofs.Answered.{sound_stored}
use Rattle.cabinet.proofs.cabinet.Cabinet.finish.Goals as goal

pub returns-in-Fits-clause-sound : goal.returns-in-Fits-clause-sound
returns-in-Fits-clause-sound c = λ sound text.
    let s = c.self.inside.core.state in
    let t = c.in-Fits.kept in
    let is = sym c.in-Fits.ensures.4 in
    let true_text = text ∙ (λ j. block_text (sym c.self.view_is j).catalogue (is j).number (is j).meta) in
    sound_stored s t c.args.blob _ (subst (λ (v : State). IsSound v) (sym c.self.view_is) sound) true_text (c.keep.ensures ∙ ap (with_blob s t) c.of.ensures)
