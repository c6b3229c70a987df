-- The first line of a text, and the others.
use Rattle.std.proofs.Common.{◌≡◌, ℕ, ◌+◌, ◌<◌, ◌==◌, Bool, true, false, cond, List, [], ◌∷◌, length, take, drop, refl, arith, add-one}
use Rattle.std.proofs.lemmas.List.{drop-drop}
use Rattle.tile_service.specs.Lines.{lines_of, onto_first, line_length}

longer : (b : ℕ) (bs : List ℕ) (n : ℕ) (ls : List (List ℕ)) → ls ≡ take n bs ∷ lines_of (drop (n + 1) bs) → onto_first b ls ≡ take (n + 1) (b ∷ bs) ∷ lines_of (drop (n + 1 + 1) (b ∷ bs))
longer b bs n ls e = rw (e, add-one (n + 1), add-one n) refl

split_at : (b : ℕ) (bs : List ℕ) → (0 < length bs → lines_of bs ≡ take (line_length bs) bs ∷ lines_of (drop (line_length bs + 1) bs)) → (v : Bool)
    → cond v ([] ∷ lines_of bs) (onto_first b (lines_of bs)) ≡ take (cond v 0 (line_length bs + 1)) (b ∷ bs) ∷ lines_of (drop (cond v 0 (line_length bs + 1) + 1) (b ∷ bs))
split_at b bs ih true = refl
split_at b [] ih false = refl
split_at b (c ∷ cs) ih false = longer b (c ∷ cs) (line_length (c ∷ cs)) (lines_of (c ∷ cs)) (ih (omega arith))

-- the first line is what stands before the first line feed
pub lines_split : (text : List ℕ) → 0 < length text → lines_of text ≡ take (line_length text) text ∷ lines_of (drop (line_length text + 1) text)
lines_split [] l = absurd (omega arith)
lines_split (b ∷ bs) l = split_at b bs (lines_split bs) (b == 10)

-- what stands after the first line, by what stands after its bytes
pub lines_split_at : (text line rest next : List ℕ) (n : ℕ) → 0 < length text → n ≡ line_length text → line ≡ take n text → rest ≡ drop n text → next ≡ drop 1 rest → lines_of text ≡ line ∷ lines_of next
lines_split_at text line rest next n l e f g h = rw (h, g, f, drop-drop 1 n text, e) (lines_split text l)

pub no_more : (rest : List ℕ) → length rest ≡ 0 → rest ≡ drop 1 rest
no_more [] e = refl
no_more (b ∷ bs) e = absurd (omega arith)
