-- The place of a cell in its file.
use Rattle.std.proofs.Common.{ℕ, ◌+◌, ◌*◌, ◌≤◌, ◌<◌, arith}
use Rattle.std.proofs.Math.Nat.{mul-le-mul_right}

pub cell_inside : (width height row col : ℕ) → row < height → col < width → row * width + col < width * height
cell_inside width height row col down across =
    let h : (row + 1) * width ≤ height * width = mul-le-mul_right width (omega (arith, down)) in omega (arith, h, across)
