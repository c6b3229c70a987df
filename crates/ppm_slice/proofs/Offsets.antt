-- A tile lies within the window of its block.
use Rattle.std.proofs.Common.{ℕ, ◌+◌, ◌-◌, ◌*◌, ◌≤◌, arith}
use Rattle.std.proofs.Math.Nat.{mul-le-mul_right}

pub offset_inside : (index first last tile start length : ℕ) → first ≤ index → index ≤ last → start ≤ first * tile → (last + 1) * tile ≤ start + length → (start ≤ index * tile) × (index * tile - start + tile ≤ length)
offset_inside index first last tile start length least most left right =
    let h : first * tile ≤ index * tile = mul-le-mul_right tile least in
    let g : (index + 1) * tile ≤ (last + 1) * tile = mul-le-mul_right tile (omega (arith, most)) in
    (omega (arith, h, left), omega (arith, g, h, left, right))
