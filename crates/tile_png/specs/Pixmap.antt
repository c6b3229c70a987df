-- The text of a tile: a binary pixmap (Netpbm's description of PPM), whose head is followed by the pixels and nothing else.
use Rattle.std.specs.Prelude.{ℕ, ◌≡◌, ◌++◌, List, codes, decimal}
use Rattle.png_text.specs.Picture.{IsPicture}

-- what stands before the pixels: the magic number, the width, the height, and 255 as the most that a colour's byte can tell
abbrev pub head : ℕ → ℕ → List ℕ
head width height = codes "P6\n" ++ decimal width ++ codes " " ++ decimal height ++ codes "\n255\n"

-- the text is the pixmap of these pixels
pub record IsPixmap (width height : ℕ) (pixels text : List ℕ) : Type 0 where
  pub is : text ≡ head width height ++ pixels
  pub picture : IsPicture width height pixels
