-- What follows each part of a pixmap's head, where the bytes begin with it: the reading step by step. What it reads is `Form`'s.
use Rattle.std.specs.Prelude.{ℕ, ◌*◌, ◌==◌, ◌&&◌, List, [], ◌∷◌, length, drop, take, Bool, true, false, not, nat_lt, if◌then◌else◌, Option, Some, None}
use Rattle.std.specs.List.{prefix_len}
use Rattle.std.specs.Char.{is_ascii_digit}
use Rattle.std.specs.Str.Parse.{digits_value}
use Rattle.ppm_reading.specs.Form.{is_line_end, is_space}

-- whitespace and comments; the first argument says whether the bytes begin within a comment
abbrev pub after_blanks : Bool → List ℕ → List ℕ
after_blanks _ [] = []
after_blanks true (b ∷ bs) = after_blanks (not (is_line_end b)) bs
after_blanks false (b ∷ bs) = if b == 35 then after_blanks true bs else (if is_space b then after_blanks false bs else b ∷ bs)

-- one byte of whitespace
abbrev pub after_space : List ℕ → Option (List ℕ)
after_space [] = None
after_space (b ∷ bs) = if is_space b then Some bs else None

-- a byte of whitespace, and whitespace and comments behind it
abbrev pub after_gap : List ℕ → Option (List ℕ)
after_gap [] = None
after_gap (b ∷ bs) = if is_space b then Some (after_blanks false bs) else None

-- 1 to 9 digits that write this number
abbrev pub after_number : ℕ → List ℕ → Option (List ℕ)
after_number number s =
    let count = prefix_len is_ascii_digit s in
    if nat_lt 0 count && nat_lt count 10 && (digits_value 10 (take count s) == number) then Some (drop count s) else None

-- the bytes `P6`
abbrev pub after_magic : List ℕ → Option (List ℕ)
after_magic [] = None
after_magic (a ∷ []) = None
after_magic (a ∷ b ∷ s) = if (a == 80) && (b == 54) then Some s else None

abbrev pub and_then : Option (List ℕ) → (List ℕ → Option (List ℕ)) → Option (List ℕ)
and_then None f = None
and_then (Some s) f = f s

-- the head of a pixmap of this width and height
abbrev pub after_head : ℕ → ℕ → List ℕ → Option (List ℕ)
after_head w h s =
    and_then (and_then (and_then (and_then (and_then (and_then (and_then (after_magic s) after_gap) (after_number w)) after_gap) (after_number h)) after_gap) (after_number 255)) after_space

abbrev pub of_length : ℕ → List ℕ → Option (List ℕ)
of_length n s = if length s == n then Some s else None

-- the pixels of a pixmap of this width and height; none where the bytes are no such pixmap
unfoldable pub pixels_of : ℕ → ℕ → List ℕ → Option (List ℕ)
pixels_of w h s = and_then (after_head w h s) (of_length (3 * w * h))
