-- Laws of what a write and a cut do to a content.
use Rattle.std.specs.Prelude.{◌≡◌, ℕ, ◌+◌, ◌-◌, ◌<◌, ◌≤◌, max, List, [], ◌∷◌, ◌++◌, length, take, drop, replicate, refl}
use Rattle.std.proofs.Common.{arith, sym, ◌∙◌, ap, inl, inr, length-append, length-drop}
use Rattle.std.proofs.lemmas.List.{length-take, length-replicate, get_or-replicate, get_or-take, get_or_append_left, get_or-append_right, get_or-drop, get_or_past}
use Rattle.std.proofs.lemmas.Bool.{cases_lt}
use Rattle.disk_model.specs.Content.{Content, byte_at, grown, overlaid, written, resized, TornWrite, TornCut, IsOutside}

-- nothing torn is a torn write, and a torn cut
pub unchanged_write : (at n : ℕ) (old : Content) → TornWrite at n old old
unchanged_write at n old = record { no_shorter = omega arith; no_longer = omega arith; others = λ place lt out. refl }

pub unchanged_cut : (size : ℕ) (old : Content) → TornCut size old old
unchanged_cut size old = record { no_shorter = omega arith; no_longer = omega arith; others = λ place lt. refl }

abbrev zeros : ℕ → Content
zeros n = replicate n 0

length-zeros : (n : ℕ) → length (zeros n) ≡ n
length-zeros n = length-replicate n 0

byte_zeros : (n place : ℕ) → byte_at (zeros n) place ≡ 0
byte_zeros n place = elim (cases_lt place n) [
  | inl lt ↦ get_or-replicate n place 0 0 lt
  | inr past ↦ get_or_past (zeros n) place 0 (omega (arith, length-zeros n))
]

pub length-resized : (size : ℕ) (old : Content) → length (resized size old) ≡ size
length-resized size old = omega (arith, length-zeros (size - length old), length-append (take size old) (zeros (size - length old)), length-take size old)

-- the bytes below both ends stay
pub resized_below : (size : ℕ) (old : Content) (place : ℕ) → place < size → place < length old → byte_at (resized size old) place ≡ byte_at old place
resized_below size old place within lt =
    get_or_append_left (take size old) (replicate (size - length old) 0) 0 place (omega (arith, length-take size old)) ∙ get_or-take size old place 0 within

pub torn_resized : (size : ℕ) (old : Content) → TornCut size old (resized size old)
torn_resized size old = record {
  no_shorter = omega (arith, length-resized size old);
  no_longer = omega (arith, length-resized size old);
  others = λ place lt. resized_below size old place (omega arith) (omega arith);
}

-- an end grown by zeros changes no byte that a read gives
byte_grown : (size : ℕ) (old : Content) (place : ℕ) → byte_at (grown size old) place ≡ byte_at old place
byte_grown size old place = elim (cases_lt place (length old)) [
  | inl lt ↦ get_or_append_left old (replicate (size - length old) 0) 0 place lt
  | inr past ↦ get_or-append_right old (replicate (size - length old) 0) (length old) place 0 refl past ∙ byte_zeros (size - length old) (place - length old) ∙ sym (get_or_past old place 0 past)
]

length-grown : (size : ℕ) (old : Content) → length (grown size old) ≡ max (length old) size
length-grown size old = omega (arith, length-zeros (size - length old), length-append old (zeros (size - length old)))

-- bytes in place of what stood there
module _ (at : ℕ) (bytes old : List ℕ) (fits : at + length bytes ≤ length old) where
  front : length (take at old) ≡ at
  front = omega (arith, length-take at old)

  length-overlaid : length (overlaid at bytes old) ≡ length old
  length-overlaid = omega (arith, front, fits, length-append (take at old) (bytes ++ drop (at + length bytes) old), length-append bytes (drop (at + length bytes) old), length-drop (at + length bytes) old)

  overlaid_below : (place : ℕ) → place < at → byte_at (overlaid at bytes old) place ≡ byte_at old place
  overlaid_below place lt = get_or_append_left (take at old) (bytes ++ drop (at + length bytes) old) 0 place (omega (arith, front)) ∙ get_or-take at old place 0 lt

  overlaid_within : (place : ℕ) → place < length bytes → byte_at (overlaid at bytes old) (at + place) ≡ byte_at bytes place
  overlaid_within place lt =
      let e : at + place - at ≡ place = omega arith in
      get_or-append_right (take at old) (bytes ++ drop (at + length bytes) old) at (at + place) 0 front (omega arith)
      ∙ ap (λ (i : ℕ). byte_at (bytes ++ drop (at + length bytes) old) i) e
      ∙ get_or_append_left bytes (drop (at + length bytes) old) 0 place lt

  overlaid_above : (place : ℕ) → at + length bytes ≤ place → byte_at (overlaid at bytes old) place ≡ byte_at old place
  overlaid_above place le =
      let e : at + length bytes + (place - at - length bytes) ≡ place = omega arith in
      get_or-append_right (take at old) (bytes ++ drop (at + length bytes) old) at place 0 front (omega arith)
      ∙ get_or-append_right bytes (drop (at + length bytes) old) (length bytes) (place - at) 0 refl (omega arith)
      ∙ get_or-drop (at + length bytes) old (place - at - length bytes) 0
      ∙ ap (λ (i : ℕ). byte_at old i) e

-- a write of some bytes
module _ (at byte : ℕ) (bytes : List ℕ) (old : Content) where
  abbrev size : ℕ
  size = at + length (byte ∷ bytes)

  reaches : size ≤ length (grown size old)
  reaches = omega (arith, length-grown size old)

  some_length : length (written at (byte ∷ bytes) old) ≡ max (length old) size
  some_length = length-overlaid at (byte ∷ bytes) (grown size old) reaches ∙ length-grown size old

  some_others : (place : ℕ) → IsOutside at (length (byte ∷ bytes)) place → byte_at (written at (byte ∷ bytes) old) place ≡ byte_at old place
  some_others place (inl lt) = overlaid_below at (byte ∷ bytes) (grown size old) reaches place lt ∙ byte_grown size old place
  some_others place (inr le) = overlaid_above at (byte ∷ bytes) (grown size old) reaches place le ∙ byte_grown size old place

  some_within : (place : ℕ) → place < length (byte ∷ bytes) → byte_at (written at (byte ∷ bytes) old) (at + place) ≡ byte_at (byte ∷ bytes) place
  some_within place lt = overlaid_within at (byte ∷ bytes) (grown size old) reaches place lt

-- outside of its range a write changes no byte that a read gives
pub written_others : (at : ℕ) (bytes : List ℕ) (old : Content) (place : ℕ) → IsOutside at (length bytes) place → byte_at (written at bytes old) place ≡ byte_at old place
written_others at [] old place out = refl
written_others at (byte ∷ bytes) old place out = some_others at byte bytes old place out

-- and within it stand the bytes
pub written_within : (at : ℕ) (bytes : List ℕ) (old : Content) (place : ℕ) → place < length bytes → byte_at (written at bytes old) (at + place) ≡ byte_at bytes place
written_within at [] old place lt = absurd (omega arith)
written_within at (byte ∷ bytes) old place lt = some_within at byte bytes old place lt

-- the end after a write of some bytes
pub length-written : (at : ℕ) (bytes : List ℕ) (old : Content) → 0 < length bytes → length (written at bytes old) ≡ max (length old) (at + length bytes)
length-written at [] old some = absurd (omega arith)
length-written at (byte ∷ bytes) old some = some_length at byte bytes old

pub torn_written : (at : ℕ) (bytes : List ℕ) (old : Content) → TornWrite at (length bytes) old (written at bytes old)
torn_written at [] old = unchanged_write at 0 old
torn_written at (byte ∷ bytes) old = record {
  no_shorter = omega (arith, some_length at byte bytes old);
  no_longer = omega (arith, some_length at byte bytes old);
  others = λ place lt out. some_others at byte bytes old place out;
}
