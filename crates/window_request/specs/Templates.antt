-- The template of a URL.
use Rattle.std.specs.Prelude.{ℕ, ◌≡◌, ◌+◌, ◌<◌, ◌≤◌, List, ◌++◌, length, take, drop, All, codes, bytes_eq, Bool, true, false, Some, None, Result, Ok, Err, ⊤, Vec}
use Rattle.std.specs.List.{flat_map, prefix_len}
use Rattle.std.specs.declared.alloc.Global.{Global}
use Rattle.window_request.specs.Addresses.{address_of}
use Rattle.window_request.specs.Pieces.{differs, IsPiece, piece_text, BeginsWrongly, IsOpen, IsUnknown}
use Rattle.window_request.specs.declared.fault.TemplateFault.{TemplateFault}
use Rattle.window_request.specs.declared.fault.TemplateFault.TheVariants.{Scheme, Authority, NoPath, Byte, OpenBrace, UnknownName, OutOfMemory}
use Rattle.window_request.specs.declared.piece.Piece.{Piece}
use Rattle.window_request.specs.declared.template.Template.{Template}

-- what follows `http://`, up to the first slash (47)
abbrev pub authority_of : List ℕ → List ℕ
authority_of text = take (prefix_len (differs 47) (drop 7 text)) (drop 7 text)

-- where the path begins, with its slash
abbrev pub target_start : List ℕ → ℕ
target_start text = 7 + prefix_len (differs 47) (drop 7 text)

-- from a place on the text is pieces up to another place
pub record StopsAt (text : List ℕ) (start at : ℕ) : Type 0 where
  pub before : List Piece
  pub pieces : All IsPiece before
  pub is : drop start text ≡ flat_map piece_text before ++ drop at text
  pub place : at ≡ start + length (flat_map piece_text before)

-- the pieces that were read stand up to a place
pub record ReadSoFar (text : List ℕ) (start : ℕ) (pieces : List Piece) (at : ℕ) : Type 0 where
  pub all : All IsPiece pieces
  pub is : drop start text ≡ flat_map piece_text pieces ++ drop at text
  pub place : at ≡ start + length (flat_map piece_text pieces)
  pub within : at ≤ length text

-- the pieces of the text from a place on, or the place where it goes wrong
abbrev pub ReadsTarget : List ℕ → ℕ → Result (Vec Piece Global) TemplateFault → Type 0
ReadsTarget text start (Ok pieces) = All IsPiece pieces.items × (drop start text ≡ flat_map piece_text pieces.items)
ReadsTarget text start (Err Scheme) = ⊥
ReadsTarget text start (Err Authority) = ⊥
ReadsTarget text start (Err NoPath) = ⊥
ReadsTarget text start (Err (Byte at)) = StopsAt text start at × BeginsWrongly (drop at text)
ReadsTarget text start (Err (OpenBrace at)) = StopsAt text start at × IsOpen (drop at text)
ReadsTarget text start (Err (UnknownName at)) = StopsAt text start at × IsUnknown (drop at text)
ReadsTarget text start (Err OutOfMemory) = ⊤

-- the text begins with `http://`
abbrev pub is_http : List ℕ → Bool
is_http text = bytes_eq (take 7 text) (codes "http://")

abbrev pub IsHttp : List ℕ → Type 0
IsHttp text = is_http text ≡ true

-- the text is `http://`, the authority, which names the host and the port, and the pieces, of which there are some
pub record IsTemplate (text : List ℕ) (t : Template) : Type 0 where
  pub scheme : IsHttp text
  pub authority : t.authority.items ≡ authority_of text
  pub address : address_of (authority_of text) ≡ Some (t.host.items, t.port)
  pub path : target_start text < length text
  pub pieces : All IsPiece t.pieces.items
  pub target : drop (target_start text) text ≡ flat_map piece_text t.pieces.items

-- the template that the text is, or why it is none
abbrev pub Reads : List ℕ → Result Template TemplateFault → Type 0
Reads text (Ok t) = IsTemplate text t
Reads text (Err Scheme) = is_http text ≡ false
Reads text (Err Authority) = IsHttp text × (address_of (authority_of text) ≡ None)
Reads text (Err NoPath) = IsHttp text × (target_start text ≡ length text)
Reads text (Err (Byte at)) = IsHttp text × StopsAt text (target_start text) at × BeginsWrongly (drop at text)
Reads text (Err (OpenBrace at)) = IsHttp text × StopsAt text (target_start text) at × IsOpen (drop at text)
Reads text (Err (UnknownName at)) = IsHttp text × StopsAt text (target_start text) at × IsUnknown (drop at text)
Reads text (Err OutOfMemory) = ⊤
