-- Places of a journal, and contents that agree on some of them.
use Rattle.std.proofs.Common.{◌≡◌, ◌⊎◌, ℕ, ◌+◌, ◌*◌, ◌<◌, ◌≤◌, List, length, set, refl, sym, ◌∙◌, ap, subst, arith, inl, inr, length-set}
use Rattle.std.proofs.lemmas.List.{get_or_past, get_or-set_same, get_or-set_other}
use Rattle.std.proofs.lemmas.Bool.{cases_lt}
use Rattle.disk_model.specs.Content.{Content, byte_at, bytes_at, written, TornWrite}
use Rattle.disk_model.specs.Writes.{written_within, torn_written}
use Rattle.disk_model.proofs.Reading.{is_bytes_at}
use Rattle.gate_journal.specs.declared.half.Half.{Half}
use Rattle.gate_journal.specs.declared.half.Half.TheVariants.{First, Second}
use Rattle.gate_journal.specs.Layout.{header_at, half_at, other_half, journal_length}
use Rattle.gate_journal.specs.Sound.{SameOutside, SameFrom}

pub half_low : (slots : ℕ) (half : Half) → 128 ≤ half_at slots half
half_low slots First = omega arith
half_low slots Second = omega arith

pub half_high : (slots : ℕ) (half : Half) → half_at slots half + 64 * slots ≤ journal_length slots
half_high slots First = omega arith
half_high slots Second = omega arith

pub header_low : (half : Half) → header_at half + 64 ≤ 128
header_low First = omega arith
header_low Second = omega arith

-- the two headers and the two halves don't meet
pub headers_apart : (half : Half) → (header_at (other_half half) + 64 ≤ header_at half) ⊎ (header_at half + 64 ≤ header_at (other_half half))
headers_apart First = inr (omega arith)
headers_apart Second = inl (omega arith)

pub halves_apart : (slots : ℕ) (half : Half) → (half_at slots (other_half half) + 64 * slots ≤ half_at slots half) ⊎ (half_at slots half + 64 * slots ≤ half_at slots (other_half half))
halves_apart slots First = inr (omega arith)
halves_apart slots Second = inl (omega arith)

-- two contents give the same bytes in a range
abbrev pub Agree : ℕ → ℕ → Content → Content → Type 0
Agree from upto c d = (i : ℕ) → from ≤ i → i < upto → byte_at d i ≡ byte_at c i

pub same_here : (at n : ℕ) (c : Content) → SameOutside at n c c
same_here at n c = record { same_length = refl; others = λ i out. refl }

pub same_then : (at n : ℕ) (c d e : Content) → SameOutside at n c d → SameOutside at n d e → SameOutside at n c e
same_then at n c d e one two = record { same_length = two.same_length ∙ one.same_length; others = λ i out. two.others i out ∙ one.others i out }

pub same_back : (at n : ℕ) (c d : Content) → SameOutside at n c d → SameOutside at n d c
same_back at n c d same = record { same_length = sym same.same_length; others = λ i out. sym (same.others i out) }

-- a write that may be torn, within the end
pub torn_same : (at n : ℕ) (c d : Content) → at + n ≤ length c → TornWrite at n c d → SameOutside at n c d
torn_same at n c d fits torn = record {
  same_length = size;
  others = λ i out. elim (cases_lt i (length c)) [
    | inl lt ↦ torn.others i lt out
    | inr past ↦ get_or_past d i 0 (omega (arith, size)) ∙ sym (get_or_past c i 0 past)
  ];
}
  where
    size : length d ≡ length c
    size = omega (arith, torn.no_shorter, torn.no_longer)

-- a write that was done, within the end
pub written_same : (at : ℕ) (bytes : List ℕ) (c d : Content) → at + length bytes ≤ length c → d ≡ written at bytes c → SameOutside at (length bytes) c d
written_same at bytes c d fits is = subst (SameOutside at (length bytes) c) (sym is) (torn_same at (length bytes) c (written at bytes c) fits (torn_written at bytes c))

pub written_bytes : (at : ℕ) (bytes : List ℕ) (c d : Content) → d ≡ written at bytes c → bytes_at d at (length bytes) ≡ bytes
written_bytes at bytes c d is = sym (is_bytes_at d at (length bytes) bytes refl (λ i lt. sym (ap (λ (e : Content). byte_at e (at + i)) is ∙ written_within at bytes c i lt)))

-- the body of a slot
pub written_body : (at : ℕ) (body : List ℕ) (c d : Content) → length body ≡ 63 → d ≡ written at body c → bytes_at d at 63 ≡ body
written_body at body c d size is = subst (λ (n : ℕ). bytes_at d at n ≡ body) size (written_bytes at body c d is)

-- one byte put into a content
pub set_same : (at byte : ℕ) (c : Content) → SameOutside at 1 c (set c at byte)
set_same at byte c = record { same_length = length-set c at byte; others = λ i out. get_or-set_other c at i byte 0 (λ is. elim out [ inl lt ↦ (omega arith) | inr le ↦ (omega arith) ]) }

pub set_here : (at byte : ℕ) (c : Content) → at < length c → byte_at (set c at byte) at ≡ byte
set_here at byte c lt = get_or-set_same c at byte 0 lt

-- past the journal, what a change within it leaves
pub same_from : (at n end : ℕ) (c d : Content) → at + n ≤ end → SameOutside at n c d → SameFrom end c d
same_from at n end c d fits same = record { same_length = same.same_length; others = λ i le. same.others i (inr (omega arith)) }

pub from_here : (end : ℕ) (c : Content) → SameFrom end c c
from_here end c = record { same_length = refl; others = λ i le. refl }

pub from_then : (end : ℕ) (c d e : Content) → SameFrom end c d → SameFrom end d e → SameFrom end c e
from_then end c d e one two = record { same_length = two.same_length ∙ one.same_length; others = λ i le. two.others i le ∙ one.others i le }
