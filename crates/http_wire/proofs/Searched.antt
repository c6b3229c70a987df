-- Pieces that are taken one after another until a head may end in the last of them: none has ended in those before.
use Rattle.std.proofs.Common.{◌≡◌, ℕ, ◌+◌, ◌<◌, ◌≤◌, max, List, length, Option, Bool, true, false, Result, Ok, Err, sym, ap, subst, arith}
use Rattle.httparse.specs.Grammar.{HasNoRequest}
use Rattle.http_wire.specs.Lines.{IsBlankUpTo, HasNoLineEnd, Extends}
use Rattle.http_wire.specs.Looks.{HadNoHead}
use Rattle.http_wire.specs.Takes.{BringsPiece, BringsLine}
use Rattle.http_wire.specs.declared.message.WireFault.{WireFault}
use Rattle.http_wire.proofs.NoHeadYet.{still_none, blank_more, quiet_so_far, quiet_more, extends_more}
use Rattle.http_wire.proofs.Surplus.{none_now, none_before}

-- After the old bytes some were taken. Those up to `seen` were there before the last piece, and no line ends in them but
-- the empty ones at the front, which are known up to `blank`.
pub record Searched (old held : List ℕ) (seen blank : ℕ) : Type 0 where
  pub grown : length old < length held
  pub from : length old ≤ seen
  pub so_far : seen ≤ length held
  pub few : length held ≤ seen + 4096
  pub extends : Extends old held
  pub within : blank ≤ length held
  pub is_blank : IsBlankUpTo blank held
  pub quiet : HasNoLineEnd (max blank (length old)) seen held

-- ONE PIECE MORE

-- the same blank bytes stand at the front of more
pub still_blank : (blank : ℕ) (held new slice : List ℕ) (after : Option (List ℕ)) (more : Bool) → slice ≡ new → more ≡ true → BringsPiece held new after (Ok more) → blank ≤ length held → IsBlankUpTo blank held → IsBlankUpTo blank slice
still_blank blank held new slice after more same went brings within is_blank =
    let piece : BringsPiece held new after (Ok true) = subst (λ (b : Bool). BringsPiece held new after (Ok b)) went brings in
    subst (IsBlankUpTo blank) (sym same) (blank_more blank held new piece.2 within is_blank)

-- the first piece
pub first_piece : (old new slice : List ℕ) (after : Option (List ℕ)) (more : Bool) (seen blank : ℕ) → more ≡ true → BringsPiece old new after (Ok more) → seen ≡ length old → slice ≡ new → blank ≤ length slice → IsBlankUpTo blank slice → Searched old new seen blank
first_piece old new slice after more seen blank went brings at same within is_blank =
    let piece : BringsPiece old new after (Ok true) = subst (λ (b : Bool). BringsPiece old new after (Ok b)) went brings in
    record {
      grown = piece.0;
      from = omega (arith, at);
      so_far = omega (arith, at, piece.0);
      few = omega (arith, at, piece.1);
      extends = piece.2;
      within = omega (arith, within, ap (λ (l : List ℕ). length l) same);
      is_blank = subst (IsBlankUpTo blank) same is_blank;
      quiet = λ k from below e. absurd (omega (arith, at, from, below));
    }

-- a further piece, where no head may end in the last one
pub next_piece : (old held new looked slice : List ℕ) (after : Option (List ℕ)) (more : Bool) (seen blank later now : ℕ) → Searched old held seen blank → looked ≡ held → HasNoLineEnd (max blank seen) (length looked) looked → more ≡ true → BringsPiece held new after (Ok more)
    → now ≡ length held → slice ≡ new → blank ≤ later → later ≤ length slice → IsBlankUpTo later slice → Searched old new now later
next_piece old held new looked slice after more seen blank later now had look none went brings at same grows within is_blank =
    let piece : BringsPiece held new after (Ok true) = subst (λ (b : Bool). BringsPiece held new after (Ok b)) went brings in
    let quiet = quiet_so_far blank (length old) seen held looked look had.quiet none in
    record {
      grown = omega (arith, had.grown, piece.0);
      from = omega (arith, at, had.grown);
      so_far = omega (arith, at, piece.0);
      few = omega (arith, at, piece.1);
      extends = extends_more old held new had.extends piece.2;
      within = omega (arith, within, ap (λ (l : List ℕ). length l) same);
      is_blank = subst (IsBlankUpTo later) same is_blank;
      quiet = subst (λ (i : ℕ). HasNoLineEnd (max later (length old)) i new) (sym at) (quiet_more blank later (length old) held new piece.2 grows quiet);
    }

-- WHAT THE PIECES BRING

-- a head may end in the last piece
pub line_found : (old held : List ℕ) (seen blank : ℕ) → Searched old held seen blank → (length old < length held) × (HasNoRequest old → HadNoHead held)
line_found old held seen blank had =
    (had.grown, λ none. none_before old held blank seen none had.extends had.from had.few had.is_blank had.quiet)

none_so_far : (old held looked : List ℕ) (seen blank : ℕ) → Searched old held seen blank → looked ≡ held → HasNoLineEnd (max blank seen) (length looked) looked → HasNoRequest old → HasNoRequest held
none_so_far old held looked seen blank had look none before =
    still_none old held blank before had.extends had.is_blank (quiet_so_far blank (length old) seen held looked look had.quiet none)

-- the source ends after a piece in which no head may end
pub ended_behind : (old held new looked : List ℕ) (after : Option (List ℕ)) (more : Bool) (seen blank : ℕ) → Searched old held seen blank → looked ≡ held → HasNoLineEnd (max blank seen) (length looked) looked → more ≡ false → BringsPiece held new after (Ok more) → BringsLine old new after (Ok true)
ended_behind old held new looked after more seen blank had look none went brings =
    let ended : BringsPiece held new after (Ok false) = subst (λ (b : Bool). BringsPiece held new after (Ok b)) went brings in
    let long : length new ≡ length held = ap (λ (l : List ℕ). length l) ended.1 in
    (omega (arith, long, had.grown), λ before. none_now held new ended.1 (none_so_far old held looked seen blank had look none before))

-- the source ends before any piece
pub ended_before : (old new : List ℕ) (after : Option (List ℕ)) (more : Bool) → more ≡ false → BringsPiece old new after (Ok more) → BringsLine old new after (Ok false)
ended_before old new after more went brings = subst (λ (b : Bool). BringsPiece old new after (Ok b)) went brings

-- a take fails after a piece in which no head may end
pub failed_behind : (old held new looked : List ℕ) (after : Option (List ℕ)) (seen blank : ℕ) (told : WireFault) (result : Result Bool WireFault) → Searched old held seen blank → looked ≡ held → HasNoLineEnd (max blank seen) (length looked) looked → new ≡ held → result ≡ Err told
    → BringsLine old new after result
failed_behind old held new looked after seen blank told result had look none kept is =
    rw is (λ before. subst HasNoRequest (sym {A = List ℕ} kept) (none_so_far old held looked seen blank had look none before))

-- the first take fails
pub failed_before : (old new : List ℕ) (after : Option (List ℕ)) (told : WireFault) (result : Result Bool WireFault) → new ≡ old → result ≡ Err told → BringsLine old new after result
failed_before old new after told result kept is = rw is (λ before. subst HasNoRequest (sym {A = List ℕ} kept) before)
