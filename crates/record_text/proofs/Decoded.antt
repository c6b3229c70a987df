-- A body is the spelling of no record but the one that its fields make.
use Rattle.std.proofs.Common.{◌≡◌, ℕ, List, false, Option, Some, None, is_some, nat_eq, sym, ap, ◌∙◌, subst}
use Rattle.std.proofs.lemmas.Bool.{false≢true}
use Rattle.std.proofs.lemmas.Cmp.{nat_list_eq_equiv}
use Rattle.std.specs.Cmp.Lexicographic.{pointwise}
use Rattle.record_text.specs.declared.entries.Record.{Record}
use Rattle.record_text.specs.Fits.{Fits}
use Rattle.record_text.specs.Reading.{entry_of}
use Rattle.record_text.specs.Spelling.{spelling}
use Rattle.record_text.proofs.Back.{entry_back}

abbrev pub IsDecoded : List ℕ → Option Record → Type 0
IsDecoded body result = (entry : Record) → (result ≡ Some entry → Fits entry × (spelling entry ≡ body)) × (Fits entry × (spelling entry ≡ body) → result ≡ Some entry)

no_entry : (a : Record) → None ≡ Some a → ⊥
no_entry a none = false≢true (ap is_some none)

pub same_entry : (a b : Record) → Some a ≡ Some b → a ≡ b
same_entry a b same = cc

-- what a record that fits and is spelled so was read as
made : (body : List ℕ) (entry : Record) → Fits entry → spelling entry ≡ body → entry_of body ≡ Some entry
made body entry fits same = ap entry_of (sym same) ∙ entry_back entry fits

pub decoded_some : (body : List ℕ) (read : Record) → entry_of body ≡ Some read → Fits read → spelling read ≡ body → IsDecoded body (Some read)
decoded_some body read is fits same =
    λ entry. (λ e. subst (λ r. Fits r × (spelling r ≡ body)) (same_entry read entry e) (fits, same), λ h. sym is ∙ made body entry h.0 h.1)

pub decoded_other : (body : List ℕ) (read : Record) → entry_of body ≡ Some read → (spelling read ≡ body → ⊥) → IsDecoded body None
decoded_other body read is differs =
    λ entry. (λ e. absurd (no_entry entry e), λ h. absurd (differs (ap spelling (same_entry read entry (sym is ∙ made body entry h.0 h.1)) ∙ h.1)))

pub decoded_none : (body : List ℕ) → entry_of body ≡ None → IsDecoded body None
decoded_none body is = λ entry. (λ e. absurd (no_entry entry e), λ h. absurd (no_entry entry (sym is ∙ made body entry h.0 h.1)))

-- bytes that a comparison found to differ
pub other_bytes : (xs ys : List ℕ) → false ≡ pointwise nat_eq xs ys → xs ≡ ys → ⊥
other_bytes xs ys told same = false≢true (told ∙ ap (λ (l : List ℕ). pointwise nat_eq l ys) same ∙ nat_list_eq_equiv.refl ys)
