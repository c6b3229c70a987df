-- Words of a text: read in place, and out of a group that is filled up with zeros.
use Rattle.std.proofs.Common.{◌≡◌, ℕ, zero, suc, ◌+◌, ◌-◌, ◌*◌, ◌<◌, ◌^◌, List, ◌++◌, length, length-drop, take, drop, replicate, refl, sym, ◌∙◌, ap, inl, inr, arith}
use Rattle.std.specs.Prelude.{slice_index}
use Rattle.std.proofs.lemmas.Bool.{cases_lt}
use Rattle.std.proofs.lemmas.List.{get_or-append_right, get_or-drop, get_or-replicate, get_or_append_left, get_or_past, length-replicate, take_all}
use Rattle.byteorder.specs.Endian.{little_from}
use Rattle.byteorder.specs.Numbers.{little_from-lt}
use Rattle.summed_disk.specs.Sum.{lane, step, word}

-- texts that agree byte by byte hold the same number there
pub little_same : (n i j : ℕ) (xs ys : List ℕ) → ((k : ℕ) → k < n → slice_index xs (i + k) ≡ slice_index ys (j + k)) → little_from i n xs ≡ little_from j n ys
little_same zero i j xs ys each = refl
little_same (suc n) i j xs ys each =
    let first : slice_index xs i ≡ slice_index ys j =
    let e : i ≡ i + 0 = omega arith in
    let f : j + 0 ≡ j = omega arith in
    ap (slice_index xs) e ∙ each 0 (omega arith) ∙ ap (slice_index ys) f in
    let rest : little_from (suc i) n xs ≡ little_from (suc j) n ys =
    little_same n (suc i) (suc j) xs ys (λ k lt.
    let e : suc i + k ≡ i + suc k = omega arith in
    let f : j + suc k ≡ suc j + k = omega arith in
    ap (slice_index xs) e ∙ each (suc k) (omega arith) ∙ ap (slice_index ys) f) in
    λ t. first t + 256 * rest t

-- numbers that are the same have the same bytes
pub little_each : (n i j : ℕ) (xs ys : List ℕ) → ((k : ℕ) → slice_index xs k < 256) → ((k : ℕ) → slice_index ys k < 256)
    → little_from i n xs ≡ little_from j n ys → (k : ℕ) → k < n → slice_index xs (i + k) ≡ slice_index ys (j + k)
little_each zero i j xs ys small small' is k lt = absurd (omega arith)
little_each (suc n) i j xs ys small small' is zero lt =
    let e : i + 0 ≡ i = omega arith in
    let f : j ≡ j + 0 = omega arith in
    let a = small i in
    let b = small' j in
    let same : slice_index xs i ≡ slice_index ys j = omega arith in
    ap (slice_index xs) e ∙ same ∙ ap (slice_index ys) f
little_each (suc n) i j xs ys small small' is (suc k) lt =
    let a = small i in
    let b = small' j in
    let rest : little_from (suc i) n xs ≡ little_from (suc j) n ys = omega arith in
    let e : i + suc k ≡ suc i + k = omega arith in
    let f : suc j + k ≡ j + suc k = omega arith in
    ap (slice_index xs) e ∙ little_each n (suc i) (suc j) xs ys small small' rest k (omega arith) ∙ ap (slice_index ys) f

pub word_same : (i j : ℕ) (xs ys : List ℕ) → ((k : ℕ) → k < 8 → slice_index xs (i + k) ≡ slice_index ys (j + k)) → word xs i ≡ word ys j
unfolding word
word_same i j xs ys each = little_same 8 i j xs ys each

pub word_each : (i : ℕ) (xs ys : List ℕ) → ((k : ℕ) → slice_index xs k < 256) → ((k : ℕ) → slice_index ys k < 256) → word xs i ≡ word ys i
    → (k : ℕ) → k < 8 → slice_index xs (i + k) ≡ slice_index ys (i + k)
unfolding word
word_each i xs ys small small' is k lt = little_each 8 i i xs ys small small' is k lt

pub word_below : (i : ℕ) (xs : List ℕ) → ((k : ℕ) → slice_index xs k < 256) → word xs i < 2 ^ 64
unfolding word
word_below i xs small = little_from-lt i 8 xs small

-- what stands from a place on, as a slice has it
rest_of : (at : ℕ) (bytes : List ℕ) → take (length bytes - at) (drop at bytes) ≡ drop at bytes
rest_of at bytes = take_all (length bytes - at) (drop at bytes) (let e = length-drop at bytes in omega arith)

-- a word that is read from a place on
pub word_read : (at : ℕ) (bytes : List ℕ) → little_from 0 8 (take (length bytes - at) (drop at bytes)) ≡ word bytes at
unfolding word
word_read at bytes = ap (little_from 0 8) (rest_of at bytes) ∙ little_same 8 0 at (drop at bytes) bytes (λ k lt. let e : 0 + k ≡ k = omega arith in ap (slice_index (drop at bytes)) e ∙ get_or-drop at bytes k 0)

abbrev zeros : ℕ → List ℕ
zeros n = replicate n 0

length-zeros : (n : ℕ) → length (zeros n) ≡ n
length-zeros n = length-replicate n 0

zeros_each : (n i : ℕ) → slice_index (zeros n) i ≡ 0
zeros_each n i = elim (cases_lt i n) [
  | inl lt ↦ get_or-replicate n i 0 0 lt
  | inr past ↦ get_or_past (zeros n) i 0 (omega (arith, length-zeros n))
]

-- bytes in front of zeros
pub filled_each : (rest front : List ℕ) (n k : ℕ) → front ≡ rest → slice_index (front ++ drop (length rest) (replicate n 0)) k ≡ slice_index rest k
filled_each rest front n k is =
    let zs : List ℕ = drop (length rest) (replicate n 0) in
    ap (λ (l : List ℕ). slice_index (l ++ zs) k) is ∙ elim (cases_lt k (length rest)) [
      | inl lt ↦ get_or_append_left rest zs 0 k lt
      | inr past ↦
          get_or-append_right rest zs (length rest) k 0 refl past ∙ get_or-drop (length rest) (replicate n 0) (k - length rest) 0
          ∙ zeros_each n (length rest + (k - length rest)) ∙ sym (get_or_past rest k 0 past)
    ]

-- a word of what stands from a place on
pub word_past : (at j : ℕ) (bytes group : List ℕ) → ((k : ℕ) → slice_index group k ≡ slice_index (take (length bytes - at) (drop at bytes)) k) → word group j ≡ word bytes (at + j)
word_past at j bytes group each =
    word_same j (at + j) group bytes (λ k lt. let e : at + (j + k) ≡ at + j + k = omega arith in each (j + k) ∙ ap (λ (l : List ℕ). slice_index l (j + k)) (rest_of at bytes) ∙ get_or-drop at bytes (j + k) 0 ∙ ap (slice_index bytes) e)

-- a lane takes one word more
pub lane_next : (bytes : List ℕ) (k first n at l : ℕ) → l ≡ lane bytes k first n → at ≡ 32 * n + 8 * k → step l (word bytes at) ≡ lane bytes k first (n + 1)
lane_next bytes k first n at l is there =
    let e : suc n ≡ n + 1 = omega arith in
    (λ t. step (is t) (word bytes (there t))) ∙ ap (lane bytes k first) e
