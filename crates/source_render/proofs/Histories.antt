-- The history of what a source gave, kept in two parts.
use Rattle.std.proofs.Common.{ℕ, ◌≡◌, ◌+◌, List, [], ◌∷◌, ◌++◌, length, refl, ap, arith}
use Rattle.metatile_plan.specs.declared.metatile.MetaKey.{MetaKey}
use Rattle.metatile_plan.specs.declared.windows.Window.{Window}
use Rattle.raster_field.specs.Rasters.{Image}
use Rattle.source_render.specs.Renders.{GivenImage, given_image, joined}

-- one more render and its image are one more given image
pub joined_more : (renders : List (ℕ × MetaKey × Window)) (images : List Image) (render : ℕ × MetaKey × Window) (image : Image) → length renders ≡ length images
    → joined (renders ++ render ∷ []) (images ++ image ∷ []) ≡ joined renders images ++ given_image (record { number = render.0; meta = render.1 }) render.2 image ∷ []
joined_more [] [] render image same = refl
joined_more [] (i ∷ images) render image same = absurd (omega (arith, same))
joined_more (r ∷ renders) [] render image same = absurd (omega (arith, same))
joined_more (r ∷ renders) (i ∷ images) render image same = ap (λ (rest : List GivenImage). given_image (record { number = r.0; meta = r.1 }) r.2 i ∷ rest) (joined_more renders images render image (omega (arith, same)))
