-- A part of a part.
use Rattle.std.specs.Prelude.{slice_range}
use Rattle.std.proofs.Common.{ℕ, ◌≡◌, ◌+◌, ◌-◌, ◌≤◌, List, take, drop, length, min, ap, ◌∙◌, arith}
use Rattle.std.proofs.lemmas.List.{drop-drop, drop-take, length-drop, length-take, take-take}

pub part_of_part : {X : Type 0} (xs : List X) (a b s e : ℕ) → s ≤ e → e ≤ b - a → slice_range (slice_range xs a b) s e ≡ slice_range xs (a + s) (a + e)
part_of_part xs a b s e order inside =
    let rest = b - a - s in
    let whole : b - a ≡ s + rest = omega arith in
    let same : e - s ≡ a + e - (a + s) = omega arith in
    ap (λ (n : ℕ). take (e - s) (drop s (take n (drop a xs)))) whole
    ∙ ap (take (e - s)) (drop-take s rest (drop a xs))
    ∙ take-take (e - s) rest (drop s (drop a xs)) (omega arith)
    ∙ ap (take (e - s)) (drop-drop s a xs)
    ∙ ap (λ (n : ℕ). take n (drop (a + s) xs)) same

-- how long a part is
pub part_length : {X : Type 0} (xs : List X) (a b : ℕ) → a ≤ b → b ≤ length xs → length (slice_range xs a b) ≡ b - a
part_length xs a b order inside =
    let rest : length (drop a xs) ≡ length xs - a = length-drop a xs in
    let taken : length (take (b - a) (drop a xs)) ≡ min (b - a) (length (drop a xs)) = length-take (b - a) (drop a xs) in
    omega arith
