-- Bytes that are read piece by piece.
use Rattle.std.proofs.Common.{ℕ, zero, suc, ◌≡◌, ◌+◌, List, ◌∷◌, ◌++◌, ap, ◌∙◌, arith}
use Rattle.disk_model.specs.Content.{Content, Same, byte_at, bytes_at}
use Rattle.disk_model.specs.Images.{ChangesBy, DiskState}
use Rattle.disk_model.specs.Moments.{changes_then}

pub bytes_on : (c : Content) (at n m : ℕ) → bytes_at c at n ++ bytes_at c (at + n) m ≡ bytes_at c at (n + m)
bytes_on c at zero m = let e : at + 0 ≡ at = omega arith in let f : m ≡ 0 + m = omega arith in λ k. bytes_at c (e k) (f k)
bytes_on c at (suc n) m =
    let e : at + suc n ≡ (at + 1) + n = omega arith in
    let f : suc (n + m) ≡ suc n + m = omega arith in
    (λ k. byte_at c at ∷ (bytes_at c (at + 1) n ++ bytes_at c (e k) m)) ∙ (ap (λ (l : List ℕ). byte_at c at ∷ l) (bytes_on c (at + 1) n m) ∙ (λ k. bytes_at c at (f k)))

-- reads after reads
pub quiet_then : (old mid new : DiskState) → ChangesBy Same old mid → ChangesBy Same mid new → ChangesBy Same old new
quiet_then old mid new one two = changes_then Same Same Same old mid new (λ c d same. same) (λ c d e first next. next ∙ first) one two
