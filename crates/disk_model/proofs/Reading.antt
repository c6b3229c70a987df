-- Laws of the bytes that a read gives.
use Rattle.std.proofs.Common.{◌≡◌, ℕ, zero, suc, ◌+◌, ◌<◌, ◌≤◌, List, [], ◌∷◌, length, refl, sym, ◌∙◌, ap, arith}
use Rattle.disk_model.specs.Content.{Content, byte_at, bytes_at}

pub length-bytes_at : (c : Content) (at n : ℕ) → length (bytes_at c at n) ≡ n
length-bytes_at c at zero = refl
length-bytes_at c at (suc n) = omega (arith, length-bytes_at c (at + 1) n)

pub byte-bytes_at : (c : Content) (at n i : ℕ) → i < n → byte_at (bytes_at c at n) i ≡ byte_at c (at + i)
byte-bytes_at c at zero i lt = absurd (omega arith)
byte-bytes_at c at (suc n) zero lt = let e : at + 0 ≡ at = omega arith in ap (byte_at c) (sym e)
byte-bytes_at c at (suc n) (suc i) lt = let e : at + 1 + i ≡ at + suc i = omega arith in byte-bytes_at c (at + 1) n i (omega arith) ∙ ap (byte_at c) e

-- a list is the bytes of a content that it agrees with, place by place
pub is_bytes_at : (c : Content) (at n : ℕ) (bytes : List ℕ) → length bytes ≡ n → ((i : ℕ) → i < n → byte_at bytes i ≡ byte_at c (at + i)) → bytes ≡ bytes_at c at n
is_bytes_at c at zero [] size each = refl
is_bytes_at c at zero (b ∷ bytes) size each = absurd (omega arith)
is_bytes_at c at (suc n) [] size each = absurd (omega arith)
is_bytes_at c at (suc n) (b ∷ bytes) size each =
    let first : b ≡ byte_at c at = let e : at + 0 ≡ at = omega arith in each 0 (omega arith) ∙ ap (byte_at c) e in
    let rest : bytes ≡ bytes_at c (at + 1) n = is_bytes_at c (at + 1) n bytes (omega arith) (λ i lt. let e : at + suc i ≡ at + 1 + i = omega arith in each (suc i) (omega arith) ∙ ap (byte_at c) e) in
    λ k. first k ∷ rest k

-- contents that agree in a range have the same bytes there
pub bytes_at-same : (c d : Content) (at n : ℕ) → ((place : ℕ) → at ≤ place → place < at + n → byte_at c place ≡ byte_at d place) → bytes_at c at n ≡ bytes_at d at n
bytes_at-same c d at zero each = refl
bytes_at-same c d at (suc n) each =
    let first : byte_at c at ≡ byte_at d at = each at (omega arith) (omega arith) in
    let rest : bytes_at c (at + 1) n ≡ bytes_at d (at + 1) n = bytes_at-same c d (at + 1) n (λ place lo hi. each place (omega arith) (omega arith)) in
    λ k. first k ∷ rest k
