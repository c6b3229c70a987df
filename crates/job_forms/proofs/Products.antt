-- How large products of small numbers are.
use Rattle.std.proofs.Common.{ℕ, ◌*◌, ◌^◌, ◌≤◌}
use Rattle.std.proofs.Math.Nat.{mul-le-mul}

pub two_most : (c d : ℕ) → c ≤ 1024 → d ≤ 1024 → c * d ≤ 2 ^ 20
two_most c d h k = mul-le-mul h k

pub three_most : (b c d : ℕ) → b ≤ 1024 → c ≤ 1024 → d ≤ 1024 → b * (c * d) ≤ 2 ^ 30
three_most b c d g h k = mul-le-mul g (two_most c d h k)

pub four_most : (a b c d : ℕ) → a ≤ 1024 → b ≤ 1024 → c ≤ 1024 → d ≤ 1024 → a * (b * (c * d)) ≤ 2 ^ 40
four_most a b c d f g h k = mul-le-mul f (three_most b c d g h k)

pub themes_most : (s a b c d : ℕ) → s ≤ 32 → a ≤ 1024 → b ≤ 1024 → c ≤ 1024 → d ≤ 1024 → s * (a * (b * (c * d))) ≤ 2 ^ 45
themes_most s a b c d e f g h k = mul-le-mul e (four_most a b c d f g h k)
