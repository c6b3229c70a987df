-- A record of version 1 is spelled alike in both versions, and which bodies of version 1 have one.
use Rattle.std.proofs.Common.{◌≡◌, ℕ, ◌-◌, ◌+◌, ◌≤◌, List, [], ◌∷◌, ◌++◌, length, replicate, false, Option, Some, None, is_some, IsTrue, refl, sym, ap, ◌∙◌, subst, arith, append_assoc, length-append}
use Rattle.std.proofs.lemmas.Bool.{false≢true}
use Rattle.std.proofs.lemmas.List.{length-replicate, replicate-append-replicate}
use Rattle.byteorder.specs.Endian.{big_bytes}
use Rattle.metatile_plan.specs.declared.metatile.MetaKey.{MetaKey}
use Rattle.record_text.specs.declared.entries.Record.{Record}
use Rattle.record_text.specs.declared.entries.Record.TheVariants.{Opened, Stored, Dropped, Cut, Uses}
use Rattle.record_text.specs.Fits.{Fits}
use Rattle.record_text.specs.Old.{IsOld, old_fields, old_spelling}
use Rattle.record_text.specs.Spelling.{blob, counted, filled, metatile, spelling}
use Rattle.record_text.proofs.Sizes.{length-metatile}

-- zeros at the end of the fields are those that follow them
filled_with_zeros : (front : List ℕ) (n : ℕ) → length front + n ≤ 63 → filled (front ++ replicate n 0) ≡ filled front
filled_with_zeros front n fits =
    let size : length (front ++ replicate n 0) ≡ length front + n = length-append front (replicate n 0) ∙ ap (λ (k : ℕ). length front + k) (length-replicate {A = ℕ} n 0) in
    let left : n + (63 - length (front ++ replicate n 0)) ≡ 63 - length front = omega (arith, size, fits) in
    append_assoc front (replicate n 0) (replicate (63 - length (front ++ replicate n 0)) 0)
    ∙ ap (λ (l : List ℕ). front ++ l) (replicate-append-replicate n (63 - length (front ++ replicate n 0)) 0 ∙ ap (λ (k : ℕ). replicate k 0) left)

stored_alike : (number : ℕ) (key : MetaKey) (place size : ℕ) → Fits (Stored number key place size 0 0) → spelling (Stored number key place size 0 0) ≡ old_spelling (Stored number key place size 0 0)
stored_alike number key place size fits =
    let front = 2 ∷ big_bytes 8 number ++ (metatile key ++ blob place size) in
    let key_size = length-metatile key fits.1 in
    let rear = length-append (metatile key) (blob place size) in
    let room : length front + 16 ≤ 63 = omega (arith, key_size, rear) in
    let same : metatile key ++ (blob place size ++ counted 0 0) ≡ (metatile key ++ blob place size) ++ replicate 16 0 = sym (append_assoc (metatile key) (blob place size) (replicate 16 0)) in
    ap (λ (l : List ℕ). filled (2 ∷ big_bytes 8 number ++ l)) same ∙ filled_with_zeros front 16 room

pub alike : (entry : Record) → Fits entry → IsOld entry → spelling entry ≡ old_spelling entry
alike (Opened opening floor) fits old = refl
alike (Stored number key place size moment uses) fits old =
    subst (λ (n : ℕ). spelling (Stored number key place size n uses) ≡ old_spelling (Stored number key place size n uses)) (sym old.0)
    (subst (λ (n : ℕ). spelling (Stored number key place size 0 n) ≡ old_spelling (Stored number key place size 0 n)) (sym old.1)
    (stored_alike number key place size (fits.0, fits.1, fits.2, fits.3, omega arith, omega arith)))
alike (Dropped number key) fits old = refl
alike (Cut number c) fits old = refl
alike (Uses number key uses) fits old = absurd old

abbrev pub IsDecodedOld : List ℕ → Option Record → Type 0
IsDecodedOld body result = (entry : Record) → (result ≡ Some entry → Fits entry × IsOld entry × (old_spelling entry ≡ body)) × (Fits entry × IsOld entry × (old_spelling entry ≡ body) → result ≡ Some entry)

abbrev pub IsDecodedNew : List ℕ → Option Record → Type 0
IsDecodedNew body result = (entry : Record) → (result ≡ Some entry → Fits entry × (spelling entry ≡ body)) × (Fits entry × (spelling entry ≡ body) → result ≡ Some entry)

no_entry : (a : Record) → None ≡ Some a → ⊥
no_entry a none = false≢true (ap is_some none)

same_entry : (a b : Record) → Some a ≡ Some b → a ≡ b
same_entry a b same = cc

pub old_none : (body : List ℕ) → IsDecodedNew body None → IsDecodedOld body None
old_none body read = λ entry. (λ e. absurd (no_entry entry e), λ h. absurd (no_entry entry ((read entry).1 (h.0, alike entry h.0 h.1 ∙ h.2))))

pub old_some : (body : List ℕ) (found : Record) → IsDecodedNew body (Some found) → IsOld found → IsDecodedOld body (Some found)
old_some body found read old =
    let is = (read found).0 refl in
    λ entry. (λ e. subst (λ r. Fits r × IsOld r × (old_spelling r ≡ body)) (same_entry found entry e) (is.0, old, sym (alike found is.0 old) ∙ is.1), λ h. (read entry).1 (h.0, alike entry h.0 h.1 ∙ h.2))

pub old_other : (body : List ℕ) (found : Record) → IsDecodedNew body (Some found) → (IsOld found → ⊥) → IsDecodedOld body None
old_other body found read other =
    λ entry. (λ e. absurd (no_entry entry e), λ h. absurd (other (subst IsOld (sym (same_entry found entry ((read entry).1 (h.0, alike entry h.0 h.1 ∙ h.2)))) h.1)))
