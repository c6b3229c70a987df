-- The room for the records of a compaction.
use Rattle.std.specs.Prelude.{ℕ, ◌≡◌, ◌≤◌, ◌+◌, ◌*◌, List, map, length}
use Rattle.std.specs.List.{AllByRecursion}
use Rattle.std.specs.List.Sorted.{IsPermutation}
use Rattle.cabinet.specs.declared.kept.Kept.{Kept}
use Rattle.cabinet.specs.State.{State, now}
use Rattle.cabinet.specs.Writing.{IsInWritingOrder}
use Rattle.cabinet_records.specs.Recorded.{compacted}
use Rattle.record_text.specs.declared.entries.Record.{Record}
use Rattle.record_text.specs.declared.entries.Record.TheVariants as record_of
use Rattle.record_text.specs.Fits.{Fits}
use Rattle.record_text.specs.Spelling.{spelling}
use Rattle.truncation_list.specs.declared.book.Cut.{Cut}

-- the bodies that were written last, and for how many there is room
pub record Drafted : Type 0 where
  pub bodies : List (List ℕ)
  pub room : ℕ

-- for how many records a compaction of a cabinet may come to need room before more is made: the opening, each cut, and each metatile
-- that is kept or may come to be kept
abbrev pub needed : State → ℕ
needed s = 1 + length (now s).book.cuts + length (now s).kept + length (now s).out

abbrev pub HasRoom : State → Drafted → Type 0
HasRoom s draft = needed s ≤ draft.room

-- how many records an opening leaves as they are: twice as many as a compaction writes, and a thousand
abbrev pub most_left : State → ℕ
most_left s = 2 * (1 + length (now s).book.cuts + length (now s).kept) + 1024

-- the record of a cut that is in force
abbrev pub cut_record : Cut → Record
cut_record k = record_of.Cut k.number k.cover

-- the bodies are those of a compaction of the cabinet, which lists what is kept by last use and key, and each of its records fits its fields
pub record IsCompactionOf (s : State) (bodies : List (List ℕ)) : Type 0 where
  pub kept : List Kept
  pub order : IsPermutation kept (now s).kept
  pub by_use : IsInWritingOrder s kept
  pub bodies_are : bodies ≡ map spelling (compacted s.opening.number (now s).book kept)
  pub fits : AllByRecursion Fits (compacted s.opening.number (now s).book kept)
