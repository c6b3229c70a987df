-- What a source has done: the images that it gave, and how often it has failed.
use Rattle.std.specs.Prelude.{ℕ, ◌≡◌, ◌≤◌, List, [], ◌∷◌, ◌++◌, Result, Ok, Err}
use Rattle.metatile_locks.specs.Tickets.{Ticketed}
use Rattle.metatile_plan.specs.declared.metatile.MetaKey.{MetaKey}
use Rattle.metatile_plan.specs.declared.windows.Window.{Window}
use Rattle.raster_field.specs.Rasters.{Image}

-- an image that a source gave: for which render, and of which window
pub record GivenImage : Type 0 where
  pub ticket : Ticketed
  pub window : Window
  pub image : Image

abbrev pub given_image : Ticketed → Window → Image → GivenImage
given_image t w i = record { ticket = t; window = w; image = i }

-- a render gave this image, and nothing else; one that failed gave none
abbrev pub Gives : {T E : Type 0} → List GivenImage → List GivenImage → Ticketed → Window → Image → Result T E → Type 0
Gives before after t w i (Ok done) = after ≡ before ++ given_image t w i ∷ []
Gives before after t w i (Err fault) = after ≡ before

-- what was given stays given
abbrev pub StaysGiven : List GivenImage → List GivenImage → Type 0
StaysGiven before after = (more : List GivenImage) × (after ≡ before ++ more)

-- what a source has done so far: how often it has failed, and the images that it gave
pub record Renders : Type 0 where
  pub failures : ℕ
  pub gave : List GivenImage

abbrev pub renders : ℕ → List GivenImage → Renders
renders failures gave = record { failures = failures; gave = gave }

-- a source went on: it has failed no less often, and what it gave stays given
pub record GoesOn (before after : Renders) : Type 0 where
  pub later : before.failures ≤ after.failures
  pub grows : StaysGiven before.gave after.gave

-- what a source had done before a call, and after it
pub record RenderChange : Type 0 where
  pub before : Renders
  pub after : Renders

-- TIES between the code and these definitions: the promise can be read without them.

-- the images of a history that is kept in two parts: for which renders and of which windows, and the images
abbrev pub joined : List (ℕ × MetaKey × Window) → List Image → List GivenImage
joined [] images = []
joined (render ∷ renders) [] = []
joined (render ∷ renders) (image ∷ images) = given_image (record { number = render.0; meta = render.1 }) render.2 image ∷ joined renders images
