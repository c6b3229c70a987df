-- The pieces of a template's target: plain text, and names in braces.
use Rattle.std.specs.Prelude.{ℕ, ◌≡◌, ◌<◌, ◌==◌, ◌&&◌, List, [], ◌∷◌, ◌++◌, length, drop, Bool, true, false, not, nat_lt, codes, Option, Some, None, ⊤}
use Rattle.std.specs.List.{list_all}
use Rattle.window_request.specs.declared.field.TemplateField.{TemplateField}
use Rattle.window_request.specs.declared.field.TemplateField.TheVariants as fields
use Rattle.window_request.specs.declared.piece.Piece.{Piece}
use Rattle.window_request.specs.declared.piece.Piece.TheVariants.{Plain, Field as Named, Dimension}
use Rattle.window_request.specs.declared.piece.TemplateStep.{TemplateStep}
use Rattle.window_request.specs.declared.piece.TemplateStep.TheVariants as steps

-- the name in braces
abbrev pub field_name : TemplateField → List ℕ
field_name fields.Layer = codes "layer"
field_name fields.Style = codes "style"
field_name fields.Grid = codes "grid"
field_name fields.Matrix = codes "matrix"
field_name fields.MinX = codes "minx"
field_name fields.MinY = codes "miny"
field_name fields.MaxX = codes "maxx"
field_name fields.MaxY = codes "maxy"
field_name fields.Width = codes "width"
field_name fields.Height = codes "height"
field_name fields.Number = codes "number"

-- a byte that is sent as it is: visible ASCII, without # (35) and braces (123, 125)
abbrev pub is_plain : ℕ → Bool
is_plain b = nat_lt 32 b && nat_lt b 127 && not (b == 35) && not (b == 123) && not (b == 125)

-- the byte isn't this one
abbrev pub differs : ℕ → ℕ → Bool
differs byte b = not (b == byte)

-- a name in braces
abbrev pub braced : List ℕ → List ℕ
braced name = 123 ∷ (name ++ (125 ∷ []))

-- the text of a piece
abbrev pub piece_text : Piece → List ℕ
piece_text (Plain text) = text.items
piece_text (Named field) = braced (field_name field)
piece_text (Dimension id) = braced (codes "dim:" ++ id.items)

-- plain text has a byte, and so has a dimension's name, which closes no brace
abbrev pub IsPiece : Piece → Type 0
IsPiece (Plain text) = (0 < length text.items) × (list_all is_plain text.items ≡ true)
IsPiece (Named field) = ⊤
IsPiece (Dimension id) = (0 < length id.items) × (list_all (differs 125) id.items ≡ true)

-- the piece that is the name in braces, or that none is
abbrev pub NamesPiece : List ℕ → Option Piece → Type 0
NamesPiece name None = (piece : Piece) → IsPiece piece → ¬ (piece_text piece ≡ braced name)
NamesPiece name (Some piece) = IsPiece piece × (piece_text piece ≡ braced name)

-- the text begins with a piece of so many bytes
pub record BeginsWithPiece (text : List ℕ) (piece : Piece) (len : ℕ) : Type 0 where
  pub is_piece : IsPiece piece
  pub is : text ≡ piece_text piece ++ drop len text
  pub len_is : len ≡ length (piece_text piece)

-- the text begins with a byte that is neither plain nor opens a brace
abbrev pub BeginsWrongly : List ℕ → Type 0
BeginsWrongly text = (b : ℕ) × (more : List ℕ) × (text ≡ b ∷ more) × (is_plain b ≡ false) × (differs 123 b ≡ true)

-- a brace opens at the front that isn't closed
abbrev pub IsOpen : List ℕ → Type 0
IsOpen text = (more : List ℕ) × (text ≡ 123 ∷ more) × (list_all (differs 125) more ≡ true)

-- a name in braces stands at the front that is no piece
abbrev pub IsUnknown : List ℕ → Type 0
IsUnknown text = (name : List ℕ) × (more : List ℕ) × (text ≡ braced name ++ more) × (list_all (differs 125) name ≡ true) × NamesPiece name None

-- what stands at the front
abbrev pub StepsTo : List ℕ → TemplateStep → Type 0
StepsTo text (steps.Piece piece len) = BeginsWithPiece text piece len
StepsTo text steps.Byte = BeginsWrongly text
StepsTo text steps.OpenBrace = IsOpen text
StepsTo text steps.UnknownName = IsUnknown text
