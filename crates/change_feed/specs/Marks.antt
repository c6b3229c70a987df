-- The marks of changes: how a body spells one, and what the records of a file of marks come to.
use Rattle.std.specs.Prelude.{◌≡◌, ℕ, zero, suc, ◌+◌, ◌<◌, ◌≤◌, Bool, nat_eq, if◌then◌else◌, List, [], ◌∷◌, length, take, drop, replicate, Option, Some, None, Result, Ok, Err}
use Rattle.std.specs.Cmp.Lexicographic.{pointwise}
use Rattle.std.specs.Int.{w64, from_be_bytes}
use Rattle.gate_journal.specs.Opened.{Opening, no_cache, differs, records}
use Rattle.change_feed.specs.declared.mark.Mark.{Mark}

-- how many slots a half of the file of marks has
abbrev pub mark_slots : ℕ
mark_slots = 64

-- A BODY

-- the number in the 8 bytes from a place on, of which the first is the greatest
abbrev pub number_at : ℕ → List ℕ → ℕ
number_at at body = from_be_bytes w64 (take 8 (drop at body))

-- the mark that a body spells: its number, its cut, and 47 zeros
unfoldable pub mark_of : List ℕ → Option Mark
mark_of body = if pointwise nat_eq (take 47 (drop 16 body)) (replicate 47 0) then Some (record { number = number_at 0 body; cut = number_at 8 body }) else None

-- THE BODIES OF A FILE

-- the number of the last change
abbrev pub last_of : Option Mark → ℕ
last_of None = 0
last_of (Some mark) = mark.number

-- a body spells a mark whose number is above that of the last one
abbrev pub IsNext : Option Mark → List ℕ → Mark → Type 0
IsNext last body mark = (mark_of body ≡ Some mark) × (last_of last < mark.number)

-- bodies spell marks whose numbers rise from above the last one, and lead to this one
abbrev pub LeadsTo : Option Mark → List (List ℕ) → Option Mark → Type 0
LeadsTo last [] mark = mark ≡ last
LeadsTo last (body ∷ bodies) mark = (next : Mark) × IsNext last body next × LeadsTo (Some next) bodies mark

-- the first body that doesn't spell a mark above the one before it stands in this slot
abbrev pub IsBadAt : Option Mark → List (List ℕ) → ℕ → Type 0
IsBadAt last [] slot = ⊥
IsBadAt last (body ∷ bodies) zero = (next : Mark) → IsNext last body next → ⊥
IsBadAt last (body ∷ bodies) (suc slot) = (next : Mark) × IsNext last body next × IsBadAt (Some next) bodies slot

-- what a file opens to ends in this mark, or has none where there is none
abbrev pub EndsAt : Option Mark → Opening → Type 0
EndsAt mark no_cache = ⊥
EndsAt mark (differs found) = ⊥
EndsAt mark (records version bodies) = LeadsTo None bodies mark

-- it has records of which the one in this slot is the first that isn't a mark above the one before it
abbrev pub IsBadIn : ℕ → Opening → Type 0
IsBadIn slot no_cache = ⊥
IsBadIn slot (differs found) = ⊥
IsBadIn slot (records version bodies) = IsBadAt None bodies slot

-- WHAT A READER KEEPS TO

-- the mark that the bodies lead to, or the slot of the first that is bad
abbrev pub StandsAt : List (List ℕ) → Result (Option Mark) ℕ → Type 0
StandsAt bodies (Ok last) = LeadsTo None bodies last
StandsAt bodies (Err slot) = IsBadAt None bodies slot

pub record IsReadTo (bodies : List (List ℕ)) (count : ℕ) (found : Result (Option Mark) ℕ) : Type 0 where
  pub counted : count ≡ length bodies
  pub stands : StandsAt bodies found
