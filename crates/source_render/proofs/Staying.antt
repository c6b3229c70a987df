-- What was given stays given.
use Rattle.std.proofs.Common.{◌≡◌, List, [], ◌∷◌, ◌++◌, Result, Ok, Err, sym, ap, ◌∙◌, append-nil, append_assoc}
use Rattle.metatile_locks.specs.Tickets.{Ticketed}
use Rattle.metatile_plan.specs.declared.windows.Window.{Window}
use Rattle.raster_field.specs.Rasters.{Image}
use Rattle.source_render.specs.Renders.{GivenImage, Gives, StaysGiven, given_image}

pub stays_itself : (gave : List GivenImage) → StaysGiven gave gave
stays_itself gave = ([], sym (append-nil gave))

pub stays_same : (before after : List GivenImage) → after ≡ before → StaysGiven before after
stays_same before after same = ([], same ∙ sym (append-nil before))

pub stays_on : (first then last : List GivenImage) → StaysGiven first then → StaysGiven then last → StaysGiven first last
stays_on first then last a b = (a.0 ++ b.0, b.1 ∙ ap (λ (xs : List GivenImage). xs ++ b.0) a.1 ∙ append_assoc first a.0 b.0)

pub stays_by : {T E : Type 0} → (before after : List GivenImage) (t : Ticketed) (w : Window) (i : Image) (result : Result T E) → Gives before after t w i result → StaysGiven before after
stays_by before after t w i (Ok done) h = (given_image t w i ∷ [], h)
stays_by before after t w i (Err fault) h = stays_same before after h
