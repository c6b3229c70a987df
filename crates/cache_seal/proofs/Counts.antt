-- Unread tiles and their faults, added up.
use Rattle.std.proofs.Common.{ℕ, ◌≡◌, ◌⊎◌, ◌+◌, ◌≤◌, refl, ap, inl, inr, arith}
use Rattle.base.specs.Causes.{Rose}
use Rattle.cache_seal.specs.declared.counting.Fate.{Fate}
use Rattle.cache_seal.specs.declared.counting.Fate.TheVariants as fate
use Rattle.cache_seal.specs.declared.counting.SealTally.{SealTally}
use Rattle.cache_seal.specs.Fates.{noted}
use Rattle.cache_seal.specs.Unread.{HaveFaults}

-- no tile more, while neither count falls
pub none_more : (n m a0 a1 b0 b1 : ℕ) → m ≡ n → a0 ≤ a1 → b0 ≤ b1 → HaveFaults n m a0 a1 b0 b1
none_more n m a0 a1 b0 b1 same disk sums = record {
  of_disk = 0;
  of_sums = 0;
  counted = omega (arith, same);
  disk = omega (arith, disk);
  sums = omega (arith, sums);
}

-- one more, for which a count rose
pub one_more : (n m a0 a1 b0 b1 : ℕ) → m ≡ n + 1 → a0 ≤ a1 → b0 ≤ b1 → Rose a0 a1 ⊎ Rose b0 b1 → HaveFaults n m a0 a1 b0 b1
one_more n m a0 a1 b0 b1 more disk sums (inl rose) = record {
  of_disk = 1;
  of_sums = 0;
  counted = omega (arith, more);
  disk = rose;
  sums = omega (arith, sums);
}
one_more n m a0 a1 b0 b1 more disk sums (inr rose) = record {
  of_disk = 0;
  of_sums = 1;
  counted = omega (arith, more);
  disk = omega (arith, disk);
  sums = rose;
}

-- a tile that came to an end, counted: a fault stands for it where it is unread
pub noted_with_fault : (t t' : SealTally) (f : Fate) (a0 a1 b0 b1 : ℕ) → t' ≡ noted t f → a0 ≤ a1 → b0 ≤ b1 → (f ≡ fate.Unread → Rose a0 a1 ⊎ Rose b0 b1)
    → HaveFaults t.unread t'.unread a0 a1 b0 b1
noted_with_fault t t' fate.Sealed a0 a1 b0 b1 is disk sums cause = none_more t.unread t'.unread a0 a1 b0 b1 (ap (λ (x : SealTally). x.unread) is) disk sums
noted_with_fault t t' fate.Fitted a0 a1 b0 b1 is disk sums cause = none_more t.unread t'.unread a0 a1 b0 b1 (ap (λ (x : SealTally). x.unread) is) disk sums
noted_with_fault t t' fate.Unfit a0 a1 b0 b1 is disk sums cause = none_more t.unread t'.unread a0 a1 b0 b1 (ap (λ (x : SealTally). x.unread) is) disk sums
noted_with_fault t t' fate.Unread a0 a1 b0 b1 is disk sums cause = one_more t.unread t'.unread a0 a1 b0 b1 (ap (λ (x : SealTally). x.unread) is) disk sums (cause refl)

-- these tiles, and further ones
pub faults_then : (n0 n1 n2 a0 a1 a2 b0 b1 b2 : ℕ) → HaveFaults n0 n1 a0 a1 b0 b1 → HaveFaults n1 n2 a1 a2 b1 b2 → HaveFaults n0 n2 a0 a2 b0 b2
faults_then n0 n1 n2 a0 a1 a2 b0 b1 b2 one two =
    let c1 = one.counted in
    let c2 = two.counted in
    let d1 = one.disk in
    let d2 = two.disk in
    let s1 = one.sums in
    let s2 = two.sums in
    record {
      of_disk = one.of_disk + two.of_disk;
      of_sums = one.of_sums + two.of_sums;
      counted = omega (arith, c1, c2);
      disk = omega (arith, d1, d2);
      sums = omega (arith, s1, s2);
    }
