-- Tiles that stand one behind the other begin in grains of their own.
use Rattle.std.proofs.Common.{ℕ, zero, suc, ◌≡◌, ◌≢◌, ◌⊎◌, ◌+◌, ◌*◌, ◌/◌, ◌<◌, ◌≤◌, [], ◌∷◌, map, inl, inr, arith}
use Rattle.std.specs.List.{AllByRecursion, range_with_len}
use Rattle.std.proofs.lemmas.Nat.{le-div, mul-le}
use Rattle.std.proofs.Math.Nat.{div-mul-le_self}
use Rattle.cache_seal.specs.declared.tiles.BlobTiles.{BlobTiles}
use Rattle.cache_seal.specs.declared.tiles.DiskTile.{DiskTile}
use Rattle.cache_seal.specs.Seals.{IsBeside}
use Rattle.cache_seal.specs.Tiles.{first_tiles, nth_tile}
use Rattle.cache_seal.proofs.Together.{BeginApart}

pub one_more_of : (a n : ℕ) → (a + 1) * n ≡ a * n + n
one_more_of a n = grind arith

-- what begins a grain further on is in a later grain
later_grain : (grain a b : ℕ) → 0 < grain → a + grain ≤ b → a / grain < b / grain
later_grain grain a b some past =
    let le = div-mul-le_self a grain in
    let e = one_more_of (a / grain) grain in
    let up = le-div (a / grain + 1) b grain some (omega arith) in
    omega arith

less_not : (a b : ℕ) → a < b → a ≢ b
less_not a b lt is = omega (arith, lt, is)

more_not : (a b : ℕ) → b < a → a ≢ b
more_not a b lt is = omega (arith, lt, is)

-- so no two begin in one that don't meet, where none is shorter than a grain
pub grains_apart : (grain a m b n : ℕ) → 0 < grain → grain ≤ m → grain ≤ n → (a + m ≤ b) ⊎ (b + n ≤ a) → a / grain ≢ b / grain
grains_apart grain a m b n some one two (inl past) = less_not (a / grain) (b / grain) (later_grain grain a b some (omega (arith, one, past)))
grains_apart grain a m b n some one two (inr past) = more_not (a / grain) (b / grain) (later_grain grain b a some (omega (arith, two, past)))

-- a tile ends before a later one begins
pub ends_before : (j i n : ℕ) → j < i → j * n + n ≤ i * n
ends_before j i n lt =
    let le = mul-le (j + 1) n i n (omega arith) (omega arith) in
    let e = one_more_of j n in
    omega arith

-- what holds at each place of a range
pub all_places : {X : Type 0} (P : X → Type 0) (f : ℕ → X) (a n : ℕ) → ((j : ℕ) → a ≤ j → j < a + n → P (f j)) → AllByRecursion P (map f (range_with_len a n))
all_places P f a zero each = tt
all_places P f a (suc n) each = (each a (omega arith) (omega arith), all_places P f (a + 1) n (λ j from to. each j (omega (arith, from)) (omega (arith, to))))

-- the tiles before one, and that one
pub apart_next : (grain : ℕ) (b : BlobTiles) (i : ℕ) → 0 < grain → grain ≤ b.length → BeginApart grain (first_tiles b i) (nth_tile b i ∷ [])
apart_next grain b i some long =
    all_places (λ (u : DiskTile). IsBeside grain (nth_tile b i ∷ []) (u.at / grain)) (nth_tile b) 0 i (λ j from to. (
      grains_apart grain (b.at + j * b.length) b.length (b.at + i * b.length) b.length some long long (inl (let e = ends_before j i b.length (omega (arith, to)) in omega (arith, e))),
      tt,
    ))
