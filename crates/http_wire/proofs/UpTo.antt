-- Takes until so many bytes are held.
use Rattle.std.proofs.Common.{◌≡◌, ℕ, ◌<◌, List, [], length, Option, Bool, true, false, Result, Ok, Err, sym, ap, subst, arith, append-nil}
use Rattle.std.specs.Io.KnownBytes.{IsAtEnd}
use Rattle.http_wire.specs.Takes.{BringsPiece, BringsUpTo, Gains}
use Rattle.http_wire.specs.declared.message.WireFault.{WireFault}
use Rattle.http_wire.proofs.NoHeadYet.{extends_more}

-- nothing is taken
pub no_gain : (need : ℕ) (held : List ℕ) → Gains need held held
no_gain need held = record { extends = ([], sym (append-nil held)); few = omega arith }

pub same_gain : {need : ℕ} {held middle new : List ℕ} → new ≡ middle → Gains need held middle → Gains need held new
same_gain {need = need} {held} same gains = subst (λ (l : List ℕ). Gains need held l) (sym same) gains

-- one piece more, while too few are held
pub more_gain : {need : ℕ} {held middle new : List ℕ} (after : Option (List ℕ)) (more : Bool) → Gains need held middle → length middle < need → more ≡ true → BringsPiece middle new after (Ok more) → (length middle < length new) × Gains need held new
more_gain {need = need} {held} {middle} {new} after more gains short went brings =
    let piece : BringsPiece middle new after (Ok true) = subst (λ (b : Bool). BringsPiece middle new after (Ok b)) went brings in
    (piece.0, record { extends = extends_more held middle new gains.extends piece.2; few = omega (arith, gains.few, short, piece.1) })

-- the source ends before
pub ended_short : {need : ℕ} {middle new : List ℕ} (after : Option (List ℕ)) (more : Bool) → length middle < need → more ≡ false → BringsPiece middle new after (Ok more) → (new ≡ middle) × IsAtEnd after × (length new < need)
ended_short {middle = middle} {new} after more short went brings =
    let ended : BringsPiece middle new after (Ok false) = subst (λ (b : Bool). BringsPiece middle new after (Ok b)) went brings in (ended.1, ended.0, omega (arith, short, ap (λ (l : List ℕ). length l) ended.1))

-- a take fails before
pub failed_short : {need : ℕ} {middle new : List ℕ} (after : Option (List ℕ)) {told : WireFault} {result : Result Bool WireFault} → length middle < need → new ≡ middle → result ≡ Err told → BringsUpTo need new after result
failed_short after short same is = rw is (omega (arith, short, ap (λ (l : List ℕ). length l) same))
