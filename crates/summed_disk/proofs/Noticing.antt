-- No lane forgets a word, and no sum a lane: what differs within one word of eight bytes has another sum.
use Rattle.std.proofs.Common.{◌≡◌, ◌≢◌, ◌⊎◌, ℕ, zero, suc, ◌+◌, ◌-◌, ◌*◌, ◌/◌, ◌%◌, ◌<◌, ◌^◌, List, length, refl, sym, ◌∙◌, ap, inl, inr, arith}
use Rattle.std.specs.Prelude.{slice_index, bit_xor}
use Rattle.std.specs.Int.Bits.{xor_assoc, xor_self, xor_zero_r}
use Rattle.std.proofs.lemmas.Bool.{cases_lt}
use Rattle.std.proofs.lemmas.List.{ext_get_or}
use Rattle.std.proofs.lemmas.Nat.{mod_below, mul-mod_first, mul-mod_second, shr-shr, shr_le, xor_comm, xor_lt, xor_shr}
use Rattle.std.proofs.Math.Nat.{mul_assoc}
use Rattle.summed_disk.specs.Sum.{lane, multiplier, part_sum, step, word}
use Rattle.summed_disk.proofs.Words.{word_below, word_each, word_same}

-- what undoes the multiplication
inverse : ℕ
inverse = 0xF1DE83E19937733D

abbrev mixed : ℕ → ℕ
mixed x = bit_xor x (x / 2 ^ 32)

mixed_below : (x : ℕ) → x < 2 ^ 64 → mixed x < 2 ^ 64
mixed_below x lt = xor_lt 64 x (x / 2 ^ 32) lt (let le = shr_le x 32 in omega arith)

xor_back : (a b : ℕ) → bit_xor (bit_xor a b) b ≡ a
xor_back a b = xor_assoc a b b ∙ ap (bit_xor a) (xor_self b) ∙ xor_zero_r a

mixed_back : (x : ℕ) → x < 2 ^ 64 → bit_xor (mixed x) (mixed x / 2 ^ 32) ≡ x
mixed_back x lt =
    let none : x / 2 ^ 32 / 2 ^ 32 ≡ 0 = shr-shr x 32 32 ∙ (omega arith) in
    let high : mixed x / 2 ^ 32 ≡ x / 2 ^ 32 = xor_shr x (x / 2 ^ 32) 32 ∙ ap (bit_xor (x / 2 ^ 32)) none ∙ xor_zero_r (x / 2 ^ 32) in
    ap (bit_xor (mixed x)) high ∙ xor_back x (x / 2 ^ 32)

times_back : (x : ℕ) → x < 2 ^ 64 → (x * multiplier % 2 ^ 64) * inverse % 2 ^ 64 ≡ x
unfolding inverse
times_back x lt =
    let one : x * 1 ≡ x = omega arith in
    mul-mod_first (x * multiplier) inverse (2 ^ 64) ∙ ap (λ (n : ℕ). n % 2 ^ 64) (mul_assoc x multiplier inverse) ∙ sym (mul-mod_second x (multiplier * inverse) (2 ^ 64))
    ∙ ap (λ (n : ℕ). n % 2 ^ 64) one ∙ (omega arith)

-- what a step does to a lane and a word that are mixed
stirred : (x y : ℕ) → x < 2 ^ 64 → y < 2 ^ 64 → mixed x * multiplier % 2 ^ 64 ≡ mixed y * multiplier % 2 ^ 64 → x ≡ y
stirred x y lt lt' is =
    let same : mixed x ≡ mixed y =
    sym (times_back (mixed x) (mixed_below x lt)) ∙ ap (λ (n : ℕ). n * inverse % 2 ^ 64) is ∙ times_back (mixed y) (mixed_below y lt') in
    sym (mixed_back x lt) ∙ ap (λ (n : ℕ). bit_xor n (n / 2 ^ 32)) same ∙ mixed_back y lt'

pub step_below : (h w : ℕ) → step h w < 2 ^ 64
unfolding step
step_below h w = mod_below (mixed (bit_xor h w) * multiplier) (2 ^ 64) (omega arith)

pub step_first : (h g w : ℕ) → h < 2 ^ 64 → g < 2 ^ 64 → w < 2 ^ 64 → step h w ≡ step g w → h ≡ g
unfolding step
step_first h g w lt lt' small is =
    let same = stirred (bit_xor h w) (bit_xor g w) (xor_lt 64 h w lt small) (xor_lt 64 g w lt' small) is in
    sym (xor_back h w) ∙ ap (λ (n : ℕ). bit_xor n w) same ∙ xor_back g w

pub step_second : (h w v : ℕ) → h < 2 ^ 64 → w < 2 ^ 64 → v < 2 ^ 64 → step h w ≡ step h v → w ≡ v
unfolding step
step_second h w v lt small small' is =
    let same = stirred (bit_xor h w) (bit_xor h v) (xor_lt 64 h w lt small) (xor_lt 64 h v lt small') is in
    sym (xor_back w h) ∙ ap (λ (n : ℕ). bit_xor n h) (xor_comm w h ∙ same ∙ xor_comm h v) ∙ xor_back v h

-- two texts of bytes
module _ (xs ys : List ℕ) (small : (i : ℕ) → slice_index xs i < 256) (small' : (i : ℕ) → slice_index ys i < 256) where
  lane_below : (zs : List ℕ) (k first n : ℕ) → first < 2 ^ 64 → lane zs k first n < 2 ^ 64
  lane_below zs k first zero lt = lt
  lane_below zs k first (suc n) lt = step_below (lane zs k first n) (word zs (32 * n + 8 * k))

  lane_same : (k first n : ℕ) → ((m : ℕ) → m < n → word xs (32 * m + 8 * k) ≡ word ys (32 * m + 8 * k)) → lane xs k first n ≡ lane ys k first n
  lane_same k first zero each = refl
  lane_same k first (suc n) each =
      let before = lane_same k first n (λ m lt. each m (omega arith)) in
      let here = each n (omega arith) in
      λ t. step (before t) (here t)

  lane_notices : (k first m n : ℕ) → first < 2 ^ 64 → m < n → ((j : ℕ) → j ≢ m → word xs (32 * j + 8 * k) ≡ word ys (32 * j + 8 * k))
      → lane xs k first n ≡ lane ys k first n → word xs (32 * m + 8 * k) ≡ word ys (32 * m + 8 * k)
  lane_notices k first m zero lt within others is = absurd (omega arith)
  lane_notices k first m (suc n) lt within others is = elim (cases_lt m n) [
    | inl before ↦
        let here = others n (λ e. omega arith) in
        lane_notices k first m n lt before others
        (step_first (lane xs k first n) (lane ys k first n) (word xs (32 * n + 8 * k)) (lane_below xs k first n lt) (lane_below ys k first n lt) (word_below (32 * n + 8 * k) xs small)
        (is ∙ ap (step (lane ys k first n)) (sym here)))
    | inr last ↦
        let e : m ≡ n = omega arith in
        let before = lane_same k first n (λ j lt. others j (λ f. omega arith)) in
        let here : word xs (32 * n + 8 * k) ≡ word ys (32 * n + 8 * k) =
        step_second (lane xs k first n) (word xs (32 * n + 8 * k)) (word ys (32 * n + 8 * k)) (lane_below xs k first n lt) (word_below (32 * n + 8 * k) xs small) (word_below (32 * n + 8 * k) ys small')
        (is ∙ ap (λ (h : ℕ). step h (word ys (32 * n + 8 * k))) (sym before)) in
        ap (λ (j : ℕ). word xs (32 * j + 8 * k)) e ∙ here ∙ ap (λ (j : ℕ). word ys (32 * j + 8 * k)) (sym e)
  ]

  -- they agree in each word but one
  module _ (size q : ℕ) (same : (i : ℕ) → i / 8 ≢ q → slice_index xs i ≡ slice_index ys i) where
    other_word : (p : ℕ) → p ≢ q → word xs (8 * p) ≡ word ys (8 * p)
    other_word p not = word_same (8 * p) (8 * p) xs ys (λ k lt. same (8 * p + k) (λ e. not (omega arith)))

    abbrev end : List ℕ → ℕ → ℕ → ℕ
    end zs k number = lane zs k (step multiplier number) (size / 32 + 1)

    end_below : (zs : List ℕ) (k number : ℕ) → end zs k number < 2 ^ 64
    end_below zs k number = lane_below zs k (step multiplier number) (size / 32 + 1) (step_below multiplier number)

    place_of : (j k : ℕ) → 32 * j + 8 * k ≡ 8 * (4 * j + k)
    place_of j k = omega arith

    other_end : (k number : ℕ) → k < 4 → k ≢ q % 4 → end xs k number ≡ end ys k number
    other_end k number lt not =
        lane_same k (step multiplier number) (size / 32 + 1) (λ j within.
        ap (word xs) (place_of j k) ∙ other_word (4 * j + k) (λ e. not (omega arith)) ∙ ap (word ys) (sym (place_of j k)))

    -- the word itself, from the lane that has it
    from_end : (k number : ℕ) → k ≡ q % 4 → q / 4 < size / 32 + 1 → end xs k number ≡ end ys k number → word xs (8 * q) ≡ word ys (8 * q)
    from_end k number is within ends =
        let e : 8 * q ≡ 32 * (q / 4) + 8 * k = omega arith in
        ap (word xs) e
        ∙ lane_notices k (step multiplier number) (q / 4) (size / 32 + 1) (step_below multiplier number) within
        (λ j not. ap (word xs) (place_of j k) ∙ other_word (4 * j + k) (λ f. not (omega arith)) ∙ ap (word ys) (sym (place_of j k))) ends
        ∙ ap (word ys) (sym e)

    abbrev total : ℕ → ℕ → List ℕ → ℕ
    total number from zs = step (step (step (end zs 0 number) (end zs 1 from)) (end zs 2 size)) (end zs 3 0)

    four : (k : ℕ) → k < 4 → (k ≡ 0) ⊎ (k ≡ 1) ⊎ (k ≡ 2) ⊎ (k ≡ 3)
    four zero lt = inl refl
    four (suc zero) lt = inr (inl refl)
    four (suc (suc zero)) lt = inr (inr (inl refl))
    four (suc (suc (suc k))) lt = inr (inr (inr (omega arith)))

    module _ (number from : ℕ) (within : q / 4 < size / 32 + 1) (is : total number from xs ≡ total number from ys) where
      a : (zs : List ℕ) → ℕ
      a zs = step (end zs 0 number) (end zs 1 from)

      abbrev b : (zs : List ℕ) → ℕ
      b zs = step (step (end zs 0 number) (end zs 1 from)) (end zs 2 size)

      -- where the last ends are the same, so are the steps before them
      but_last : end xs 3 0 ≡ end ys 3 0 → b xs ≡ b ys
      but_last last =
          step_first (b xs) (b ys) (end xs 3 0) (step_below (step (end xs 0 number) (end xs 1 from)) (end xs 2 size)) (step_below (step (end ys 0 number) (end ys 1 from)) (end ys 2 size)) (end_below xs 3 0)
          (is ∙ ap (step (b ys)) (sym last))

      but_two : end xs 3 0 ≡ end ys 3 0 → end xs 2 size ≡ end ys 2 size → step (end xs 0 number) (end xs 1 from) ≡ step (end ys 0 number) (end ys 1 from)
      but_two last third =
          step_first (step (end xs 0 number) (end xs 1 from)) (step (end ys 0 number) (end ys 1 from)) (end xs 2 size) (step_below (end xs 0 number) (end xs 1 from)) (step_below (end ys 0 number) (end ys 1 from)) (end_below xs 2 size)
          (but_last last ∙ ap (step (step (end ys 0 number) (end ys 1 from))) (sym third))

      the_word : word xs (8 * q) ≡ word ys (8 * q)
      the_word = elim (four (q % 4) (mod_below q 4 (omega arith))) [
        | inl at ↦
            let second = other_end 1 from (omega arith) (λ e. omega arith) in
            from_end 0 number (sym at) within
            (step_first (end xs 0 number) (end ys 0 number) (end xs 1 from) (end_below xs 0 number) (end_below ys 0 number) (end_below xs 1 from)
            (but_two (other_end 3 0 (omega arith) (λ e. omega arith)) (other_end 2 size (omega arith) (λ e. omega arith)) ∙ ap (step (end ys 0 number)) (sym second)))
        | inr (inl at) ↦
            let first = other_end 0 number (omega arith) (λ e. omega arith) in
            from_end 1 from (sym at) within
            (step_second (end xs 0 number) (end xs 1 from) (end ys 1 from) (end_below xs 0 number) (end_below xs 1 from) (end_below ys 1 from)
            (but_two (other_end 3 0 (omega arith) (λ e. omega arith)) (other_end 2 size (omega arith) (λ e. omega arith)) ∙ ap (λ (h : ℕ). step h (end ys 1 from)) (sym first)))
        | inr (inr (inl at)) ↦
            let first = other_end 0 number (omega arith) (λ e. omega arith) in
            let second = other_end 1 from (omega arith) (λ e. omega arith) in
            let both : step (end ys 0 number) (end ys 1 from) ≡ step (end xs 0 number) (end xs 1 from) = λ t. step (sym first t) (sym second t) in
            from_end 2 size (sym at) within
            (step_second (step (end xs 0 number) (end xs 1 from)) (end xs 2 size) (end ys 2 size) (step_below (end xs 0 number) (end xs 1 from)) (end_below xs 2 size) (end_below ys 2 size)
            (but_last (other_end 3 0 (omega arith) (λ e. omega arith)) ∙ ap (λ (h : ℕ). step h (end ys 2 size)) both))
        | inr (inr (inr at)) ↦
            let first = other_end 0 number (omega arith) (λ e. omega arith) in
            let second = other_end 1 from (omega arith) (λ e. omega arith) in
            let third = other_end 2 size (omega arith) (λ e. omega arith) in
            let all : b ys ≡ b xs = λ t. step (step (sym first t) (sym second t)) (sym third t) in
            from_end 3 0 (sym at) within
            (step_second (b xs) (end xs 3 0) (end ys 3 0) (step_below (step (end xs 0 number) (end xs 1 from)) (end xs 2 size)) (end_below xs 3 0) (end_below ys 3 0)
            (is ∙ ap (λ (h : ℕ). step h (end ys 3 0)) all))
      ]

-- texts of one length that differ within one word, and have one sum, are the same
pub same_text : (number from q : ℕ) (xs ys : List ℕ) → length xs ≡ length ys → ((i : ℕ) → slice_index xs i < 256) → ((i : ℕ) → slice_index ys i < 256)
    → ((i : ℕ) → i / 8 ≢ q → slice_index xs i ≡ slice_index ys i) → part_sum number from xs ≡ part_sum number from ys → xs ≡ ys
same_text number from q xs ys long small small' same is =
    let size : ℕ = length xs in
    let one_size : total xs ys small small' size q same number from xs ≡ total xs ys small small' size q same number from ys =
    is ∙ ap (λ (n : ℕ). total xs ys small small' n q same number from ys) (sym long) in
    ext_get_or 0 xs ys long (λ i lt. elim (cases_lt (i / 8) q) [
      | inl below ↦ same i (λ e. omega arith)
      | inr above ↦ elim (cases_lt q (i / 8)) [
        | inl past ↦ same i (λ e. omega arith)
        | inr here ↦
            let e : 8 * q + (i - 8 * q) ≡ i = omega arith in
            let w : word xs (8 * q) ≡ word ys (8 * q) = the_word xs ys small small' size q same number from (omega arith) one_size in
            ap (slice_index xs) (sym e) ∙ word_each (8 * q) xs ys small small' w (i - 8 * q) (omega arith) ∙ ap (slice_index ys) e
      ]
    ])
