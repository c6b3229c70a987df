-- The form of a binary portable pixmap, by Netpbm's ppm(5): the magic number, a width, a height and a maxval with whitespace between
-- them, a single byte of whitespace, and the raster. By its pbm(5) a comment goes from a # through the end of its line; here one
-- stands only where whitespace stands before it, and none behind the maxval.
use Rattle.std.specs.Prelude.{ℕ, ◌≡◌, ◌*◌, ◌≤◌, ◌==◌, ◌||◌, List, [], ◌∷◌, ◌++◌, length, Bool, true, false}
use Rattle.std.specs.Char.{is_ascii_digit}
use Rattle.std.specs.Str.Parse.{digits_value}

-- a line feed or a carriage return
abbrev pub is_line_end : ℕ → Bool
is_line_end b = (b == 10) || (b == 13)

-- a blank, a tab, a line feed or a carriage return
abbrev pub is_space : ℕ → Bool
is_space b = (b == 32) || (b == 9) || (b == 10) || (b == 13)

abbrev pub HasNoLineEnd : List ℕ → Type 0
HasNoLineEnd [] = Unit {0}
HasNoLineEnd (b ∷ bs) = (is_line_end b ≡ false) × HasNoLineEnd bs

abbrev pub AreDigits : List ℕ → Type 0
AreDigits [] = Unit {0}
AreDigits (b ∷ bs) = (is_ascii_digit b ≡ true) × AreDigits bs

-- whitespace and comments: a comment goes from a # (35) through the end of its line
pub data AreBlanks : List ℕ → Type 0 where
  done : AreBlanks []
  space : (b : ℕ) (s : List ℕ) → is_space b ≡ true → AreBlanks s → AreBlanks (b ∷ s)
  comment : (text s : List ℕ) (end : ℕ) → HasNoLineEnd text → is_line_end end ≡ true → AreBlanks s → AreBlanks (35 ∷ (text ++ (end ∷ s)))

-- the bytes are a gap, and the rest: the gap is a byte of whitespace, and whitespace and comments behind it
pub record BeginsWithGap (bytes rest : List ℕ) : Type 0 where
  pub first : ℕ
  pub more : List ℕ
  pub is : bytes ≡ first ∷ (more ++ rest)
  pub space : is_space first ≡ true
  pub blanks : AreBlanks more

-- the bytes are 1 to 9 decimal digits that write the number, and the rest
pub record BeginsWithNumber (number : ℕ) (bytes rest : List ℕ) : Type 0 where
  pub digits : List ℕ
  pub is : bytes ≡ digits ++ rest
  pub some : 1 ≤ length digits
  pub few : length digits ≤ 9
  pub all : AreDigits digits
  pub value : digits_value 10 digits ≡ number

-- the bytes are one byte of whitespace, and the rest
pub record BeginsWithSpace (bytes rest : List ℕ) : Type 0 where
  pub byte : ℕ
  pub is : bytes ≡ byte ∷ rest
  pub space : is_space byte ≡ true

-- the bytes are P6 (80 and 54), a gap, the width, a gap, the height, a gap, 255, a byte of whitespace, and these pixels, three bytes each
pub record IsPixmap (width height : ℕ) (bytes pixels : List ℕ) : Type 0 where
  pub behind_magic : List ℕ
  pub magic : bytes ≡ 80 ∷ (54 ∷ behind_magic)
  pub from_width : List ℕ
  pub gap_to_width : BeginsWithGap behind_magic from_width
  pub behind_width : List ℕ
  pub width_is : BeginsWithNumber width from_width behind_width
  pub from_height : List ℕ
  pub gap_to_height : BeginsWithGap behind_width from_height
  pub behind_height : List ℕ
  pub height_is : BeginsWithNumber height from_height behind_height
  pub from_maxval : List ℕ
  pub gap_to_maxval : BeginsWithGap behind_height from_maxval
  pub behind_maxval : List ℕ
  pub maxval_is : BeginsWithNumber 255 from_maxval behind_maxval
  pub space : BeginsWithSpace behind_maxval pixels
  pub size : length pixels ≡ 3 * width * height
