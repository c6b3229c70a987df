-- One piece more of a target.
use Rattle.std.proofs.Common.{◌≡◌, ℕ, ◌+◌, ◌<◌, ◌≤◌, List, [], ◌∷◌, ◌++◌, length, length-append, length-drop, drop, drop-drop, sym, ap, ◌∙◌, arith, append_assoc, append-nil, refl, subst}
use Rattle.std.proofs.lemmas.List.{drop_all}
use Rattle.std.specs.Prelude.{All}
use Rattle.std.specs.List.{flat_map}
use Rattle.std.proofs.lemmas.Grind.{flat_map-append}
use Rattle.std.proofs.lemmas.List.Elements.{All-push, All-nil}
use Rattle.window_request.specs.declared.piece.Piece.{Piece}
use Rattle.window_request.specs.declared.piece.Piece.TheVariants.{Plain, Field, Dimension}
use Rattle.window_request.specs.Pieces.{IsPiece, piece_text, BeginsWithPiece}
use Rattle.window_request.specs.Templates.{ReadSoFar, StopsAt}

pub none_read : (text : List ℕ) (start : ℕ) (pieces : List Piece) → start ≤ length text → pieces ≡ [] → ReadSoFar text start pieces start
none_read text start pieces fits none =
    let P : List Piece → Type 0 = λ l. ReadSoFar text start l start in
    subst P (sym none) (record { all = All-nil IsPiece; is = refl; place = omega arith; within = fits })

-- a piece has a byte
piece_some : (piece : Piece) → IsPiece piece → 0 < length (piece_text piece)
piece_some (Plain text) is = is.0
piece_some (Field field) is = omega arith
piece_some (Dimension id) is = omega arith

pub piece_fits : (text : List ℕ) (at len : ℕ) (piece : Piece) → at ≤ length text → BeginsWithPiece (drop at text) piece len → (0 < len) × (at + len ≤ length text)
piece_fits text at len piece within begins =
    let some = piece_some piece begins.is_piece in
    let whole = ap (λ (l : List ℕ). length l) begins.is in
    let split = length-append (piece_text piece) (drop len (drop at text)) in
    (omega (arith, some, begins.len_is), omega (arith, whole, split, begins.len_is, length-drop at text, within))

pub piece_read : (text : List ℕ) (start at len : ℕ) (piece : Piece) (before after : List Piece) → ReadSoFar text start before at → BeginsWithPiece (drop at text) piece len → after ≡ before ++ piece ∷ [] → ReadSoFar text start after (at + len)
piece_read text start at len piece before after read begins e =
    let P : List Piece → Type 0 = λ l. ReadSoFar text start l (at + len) in
    let spelt : flat_map piece_text (before ++ piece ∷ []) ≡ flat_map piece_text before ++ piece_text piece =
    flat_map-append piece_text before (piece ∷ []) ∙ ap (λ (l : List ℕ). flat_map piece_text before ++ l) (append-nil (piece_text piece)) in
    let rest : drop at text ≡ piece_text piece ++ drop (at + len) text = begins.is ∙ ap (λ (l : List ℕ). piece_text piece ++ l) (drop-drop len at text) in
    let count = ap (λ (l : List ℕ). length l) spelt ∙ length-append (flat_map piece_text before) (piece_text piece) in
    let fits = piece_fits text at len piece read.within begins in
    subst P (sym e) (record {
      all = All-push IsPiece before piece read.all begins.is_piece;
      is = read.is ∙ ap (λ (l : List ℕ). flat_map piece_text before ++ l) rest ∙ sym (append_assoc (flat_map piece_text before) (piece_text piece) (drop (at + len) text)) ∙ ap (λ (l : List ℕ). l ++ drop (at + len) text) (sym spelt);
      place = omega (arith, count, read.place, begins.len_is);
      within = fits.1;
    })

pub stops : (text : List ℕ) (start at : ℕ) (before : List Piece) → ReadSoFar text start before at → StopsAt text start at
stops text start at before read = record { before = before; pieces = read.all; is = read.is; place = read.place }

pub all_read : (text : List ℕ) (start at : ℕ) (pieces : List Piece) → ReadSoFar text start pieces at → length text ≤ at → All IsPiece pieces × (drop start text ≡ flat_map piece_text pieces)
all_read text start at pieces read end =
    (read.all, read.is ∙ ap (λ (l : List ℕ). flat_map piece_text pieces ++ l) (drop_all at text end) ∙ append-nil (flat_map piece_text pieces))
