-- What a reader of the format finds.
use Rattle.std.specs.Prelude.{ℕ, ◌==◌, ◌≢◌, List, [], ◌∷◌, Option, Some, None, if◌then◌else◌}
use Rattle.std.specs.List.{All}
use Rattle.std.specs.Option.{option_map}

abbrev pub HasNoLineFeed : List ℕ → Type 0
HasNoLineFeed line = All (λ b. b ≢ 10) line

-- what an escape stands for by the byte behind its backslash: n (110 in ASCII) for a line feed, others for themselves
abbrev pub unescaped : ℕ → ℕ
unescaped b = if b == 110 then 10 else b

-- a byte more at the front of a value
abbrev pub with_front : ℕ → List ℕ × List ℕ → List ℕ × List ℕ
with_front b found = (b ∷ found.0, found.1)

-- behind the quotation mark (34) before a label's value: the value, and what stands behind the mark that ends it
unfoldable pub value_read : List ℕ → Option (List ℕ × List ℕ)
value_read [] = None
value_read (b ∷ []) = if b == 34 then Some ([], []) else None
value_read (b ∷ c ∷ rest) =
    if b == 34 then Some ([], c ∷ rest)
    else if b == 92 then option_map (with_front (unescaped c)) (value_read rest)
    else option_map (with_front b) (value_read (c ∷ rest))
