-- An input that is read piece by piece, and how its reading ends.
use Rattle.std.proofs.Common.{◌≡◌, ℕ, ◌+◌, ◌≤◌, Bool, true, false, cond, List, [], ◌++◌, length, length-append, append-nil, take, Option, Result, Ok, Err, is_ok, sym, ap, subst, ◌∙◌, arith}
use Rattle.std.specs.Io.KnownBytes.{Consumes}
use Rattle.std.specs.Result.{is_err}
use Rattle.std.proofs.KnownBytes.{Consumes-trans}
use Rattle.std.proofs.lemmas.List.{length-take-le}
use Rattle.http_wire.specs.declared.inputs.InputEnd.{InputEnd}
use Rattle.http_wire.specs.declared.inputs.InputEnd.TheVariants.{ReadFault, TooLong, OutOfMemory}

-- ONE END IS NO OTHER

pub not_end : {T P : Type 0} {text : T} {end : InputEnd} → ◌≡◌ {A = Result T InputEnd} (Ok text) (Err end) → P
not_end is = absurd (cc)

pub fault_not_long : {T P : Type 0} → ◌≡◌ {A = Result T InputEnd} (Err ReadFault) (Err TooLong) → P
fault_not_long is = absurd (cc)

pub fault_not_memory : {T P : Type 0} → ◌≡◌ {A = Result T InputEnd} (Err ReadFault) (Err OutOfMemory) → P
fault_not_memory is = absurd (cc)

pub long_not_fault : {T P : Type 0} → ◌≡◌ {A = Result T InputEnd} (Err TooLong) (Err ReadFault) → P
long_not_fault is = absurd (cc)

pub long_not_memory : {T P : Type 0} → ◌≡◌ {A = Result T InputEnd} (Err TooLong) (Err OutOfMemory) → P
long_not_memory is = absurd (cc)

pub memory_not_fault : {T P : Type 0} → ◌≡◌ {A = Result T InputEnd} (Err OutOfMemory) (Err ReadFault) → P
memory_not_fault is = absurd (cc)

pub memory_not_long : {T P : Type 0} → ◌≡◌ {A = Result T InputEnd} (Err OutOfMemory) (Err TooLong) → P
memory_not_long is = absurd (cc)

-- PIECES

-- no piece is left
pub read_whole : (start left after : Option (List ℕ)) (text chunk : List ℕ) (count : ℕ) → Consumes start left text → Consumes left after (take count chunk) → count ≡ 0 → Consumes start after text
read_whole start left after text chunk count read piece none =
    let here : Consumes left after [] = subst (λ (n : ℕ). Consumes left after (take n chunk)) none piece in
    subst (Consumes start after) (append-nil text) (Consumes-trans start left after text [] read here)

-- the text with a piece more
pub read_more : (start left after : Option (List ℕ)) (text chunk : List ℕ) (count limit : ℕ) → Consumes start left text → Consumes left after (take count chunk) → count ≤ length chunk → length text + length chunk ≤ limit
    → Consumes start after (text ++ take count chunk) × (length (text ++ take count chunk) ≤ limit) × (length (text ++ take count chunk) ≡ length text + count)
read_more start left after text chunk count limit read piece bound room =
    let long : length (text ++ take count chunk) ≡ length text + count = length-append text (take count chunk) ∙ ap (λ n. length text + n) (length-take-le count chunk bound) in
    (Consumes-trans start left after text (take count chunk) read piece, omega (arith, long, bound, room), long)

-- the piece stands after the text
pub appended : {T E : Type 0} (result : Result T E) (failed : Bool) (text bytes new : List ℕ) → failed ≡ is_err result → failed ≡ false → new ≡ cond (is_ok result) (text ++ bytes) text → new ≡ text ++ bytes
appended (Ok _) failed text bytes new is went e = e
appended (Err _) failed text bytes new is went e = absurd (let f : true ≡ false = sym is ∙ went in cc)
