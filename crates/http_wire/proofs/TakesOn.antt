-- What takes come to, one after another.
use Rattle.std.proofs.Common.{◌≡◌, ℕ, ◌+◌, ◌<◌, ◌≤◌, min, List, [], ◌++◌, length, length-append, take, true, Option, Some, None, Result, Ok, Err, refl, sym, ap, ◌∙◌, subst, arith, append_assoc, append-nil}
use Rattle.std.specs.Io.KnownBytes.{Keeps, Consumes, prepend_known}
use Rattle.std.proofs.KnownBytes.{Keeps-refl, Keeps-trans}
use Rattle.base.specs.Causes.{Rose}
use Rattle.http_wire.specs.ReadCause.{HasReadCause}
use Rattle.http_wire.specs.Side.{Side}
use Rattle.http_wire.specs.Takes.{Takes, BringsPiece}
use Rattle.http_wire.specs.declared.message.WireFault.{WireFault}
use Rattle.http_wire.specs.declared.message.WireFault.TheVariants.{ReadFault, OutOfMemory}
use Rattle.http_wire.proofs.LeftBehind.{fault_before, taken_remain}

-- CAUSES

pub rose_before : (bound before middle now : ℕ) → before ≤ middle → min (middle + 1) bound ≤ now → min (before + 1) bound ≤ now
rose_before bound before middle now first then = omega arith

no_fault : {T : Type 0} (value : T) (before now : ℕ) → before ≤ now → HasReadCause {T = T} before now (Ok value)
no_fault value before now later = record { later = later; fault = λ is. cc }

cause_before : {T : Type 0} (before middle now : ℕ) (result : Result T WireFault) → before ≤ middle → HasReadCause middle now result → HasReadCause before now result
cause_before before middle now result first cause =
    record { later = omega (arith, first, cause.later); fault = λ is. rose_before _ before middle now first (cause.fault is) }

-- TWO CALLS

-- the same, of another value
pub takes_same : {T U : Type 0} {held new : List ℕ} {left after : Option (List ℕ)} {faults now : ℕ} {beside still : Side} {value : T} (other : U) → Takes held new left after faults now beside still (Ok value) → Takes held new left after faults now beside still (Ok other)
takes_same other takes =
    record { stream = takes.stream; leaves = tt; cause = no_fault other _ _ takes.cause.later; apart = takes.apart }

-- a fault that is handed on
pub takes_fault : {T U : Type 0} {held new : List ℕ} {left after : Option (List ℕ)} {faults now : ℕ} {beside still : Side} (fault : WireFault) → Takes {T = T} held new left after faults now beside still (Err fault) → Takes {T = U} held new left after faults now beside still (Err fault)
takes_fault fault takes =
    record {
      stream = tt;
      leaves = takes.leaves;
      cause = record { later = takes.cause.later; fault = λ is. takes.cause.fault (cc) };
      apart = takes.apart;
    }

pub handed_on : {T U : Type 0} {held new : List ℕ} {left after : Option (List ℕ)} {faults now : ℕ} {beside still : Side} {fault told : WireFault} {result : Result U WireFault} → result ≡ Err told → told ≡ fault
    → Takes {T = T} held new left after faults now beside still (Err fault) → Takes held new left after faults now beside still result
handed_on {U = U} {held} {new} {left} {after} {faults} {now} {beside} {still} {fault} {result = result} is same takes =
    let e : result ≡ Err fault = is ∙ ap (λ (f : WireFault). Err f) same in
    subst (λ (r : Result U WireFault). Takes {T = U} held new left after faults now beside still r) (sym e) (takes_fault fault takes)

-- nothing is taken
pub takes_none : {T : Type 0} (held : List ℕ) (left : Option (List ℕ)) (faults : ℕ) (beside : Side) (value : T) → Takes held held left left faults faults beside beside (Ok value)
takes_none held left faults beside value =
    record { stream = Keeps-refl (prepend_known held left); leaves = tt; cause = no_fault value faults faults (omega arith); apart = refl }

-- one call after another that went well
pub takes_more : {T U : Type 0} {held middle new : List ℕ} {left between after : Option (List ℕ)} {faults counted now : ℕ} {beside besides still : Side} {value : T} (result : Result U WireFault)
    → Takes held middle left between faults counted beside besides (Ok value) → Takes middle new between after counted now besides still result → Takes held new left after faults now beside still result
takes_more {held = held} {middle} {new} {left} {between} {after} (Ok other) first then =
    record {
      stream = Keeps-trans _ _ _ first.stream then.stream;
      leaves = tt;
      cause = cause_before _ _ _ (Ok other) first.cause.later then.cause;
      apart = then.apart ∙ first.apart;
    }
takes_more {held = held} {middle} {new} {left} {between} {after} (Err fault) first then =
    record {
      stream = tt;
      leaves = fault_before _ _ after new fault first.stream then.leaves;
      cause = cause_before _ _ _ (Err fault) first.cause.later then.cause;
      apart = then.apart ∙ first.apart;
    }

-- ONE TAKE

-- where memory ran out, the piece was taken and found no room
pub takes_no_room : {T : Type 0} (held new bytes : List ℕ) (left after : Option (List ℕ)) (faults now : ℕ) (beside still : Side) → Consumes left after bytes → faults ≤ now → still ≡ beside → Takes {T = T} held new left after faults now beside still (Err OutOfMemory)
takes_no_room held new bytes left after faults now beside still taken later apart =
    record {
      stream = tt;
      leaves = taken_remain left after held bytes taken;
      cause = record { later = later; fault = λ is. cc };
      apart = apart;
    }

kept_behind : (held : List ℕ) (left after : Option (List ℕ)) → Keeps left after → Keeps (prepend_known held left) (prepend_known held after)
kept_behind held None after kept = tt
kept_behind held (Some x) None kept = absurd kept
kept_behind held (Some x) (Some y) kept = ap (λ (l : List ℕ). held ++ l) kept

piece_behind : (held bytes : List ℕ) (left after : Option (List ℕ)) → Consumes left after bytes → Keeps (prepend_known held left) (prepend_known (held ++ bytes) after)
piece_behind held bytes None after taken = tt
piece_behind held bytes (Some x) None taken = absurd taken
piece_behind held bytes (Some x) (Some y) taken = append_assoc held bytes y ∙ ap (λ (l : List ℕ). held ++ l) (sym taken)

-- the source failed
pub takes_fails : {T : Type 0} (held : List ℕ) (left after : Option (List ℕ)) (faults now : ℕ) (beside still : Side) → Keeps left after → faults ≤ now → Rose faults now → still ≡ beside → Takes {T = T} held held left after faults now beside still (Err ReadFault)
takes_fails held left after faults now beside still kept later rose apart =
    record {
      stream = tt;
      leaves = kept_behind held left after kept;
      cause = record { later = later; fault = λ _. rose };
      apart = apart;
    }

-- the piece stands after the bytes that were held
pub takes_piece : {T : Type 0} (held new bytes : List ℕ) (left after : Option (List ℕ)) (faults now : ℕ) (beside still : Side) (value : T) → Consumes left after bytes → new ≡ held ++ bytes → faults ≤ now → still ≡ beside → Takes held new left after faults now beside still (Ok value)
takes_piece held new bytes left after faults now beside still value taken e later apart =
    record {
      stream = subst (λ (l : List ℕ). Keeps (prepend_known held left) (prepend_known l after)) (sym e) (piece_behind held bytes left after taken);
      leaves = tt;
      cause = no_fault value faults now later;
      apart = apart;
    }

-- the source had none left
pub takes_end : {T : Type 0} (held chunk : List ℕ) (count : ℕ) (left after : Option (List ℕ)) (faults now : ℕ) (beside still : Side) (value : T) → Consumes left after (take count chunk) → count ≡ 0 → faults ≤ now → still ≡ beside → Takes held held left after faults now beside still (Ok value)
takes_end held chunk count left after faults now beside still value taken none later apart =
    let nothing : Consumes left after [] = subst (λ (n : ℕ). Consumes left after (take n chunk)) none taken in
    takes_piece held held [] left after faults now beside still value nothing (sym (append-nil held)) later apart

-- what such a piece brings
pub brings_piece : (held new bytes : List ℕ) (count : ℕ) (after : Option (List ℕ)) → new ≡ held ++ bytes → length bytes ≡ count → 0 < count → count ≤ 4096 → BringsPiece held new after (Ok true)
brings_piece held new bytes count after e long some bound =
    let all : length new ≡ length held + length bytes = ap (λ (l : List ℕ). length l) e ∙ length-append held bytes in (omega (arith, all, long, some), omega (arith, all, long, bound), (bytes, e))
