-- The first tile of a metatile.
use Rattle.std.proofs.Common.{ℕ, zero, ◌≡◌, ◌*◌, ◌/◌, ◌<◌, ap, ◌∙◌}
use Rattle.std.proofs.Math.Nat.{mul-div_cancel}
use Rattle.metatile_plan.specs.declared.metatile.Factors.{Factors}
use Rattle.metatile_plan.specs.declared.metatile.MetaKey.{MetaKey}
use Rattle.metatile_plan.specs.Plan.{meta_of}
use Rattle.raster_field.specs.Blocks.{tile_in}

-- it lies in the metatile
pub first_in : (f : Factors) (k : MetaKey) → zero < f.x → zero < f.y → meta_of f (tile_in k (k.row * f.y) (k.col * f.x)) ≡ k
first_in f k x y =
    ap (λ (n : ℕ). record { theme = k.theme; grid = k.grid; z = k.z; row = n; col = k.col * f.x / f.x }) (mul-div_cancel k.row y)
    ∙ ap (λ (n : ℕ). record { theme = k.theme; grid = k.grid; z = k.z; row = k.row; col = n }) (mul-div_cancel k.col x)
