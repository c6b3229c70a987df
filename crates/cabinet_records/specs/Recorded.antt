-- What the records of a journal say of a cabinet: a journal that was written by its commands comes to what it keeps, and to a book that
-- answers for its own.
use Rattle.std.specs.Prelude.{ℕ, ◌≡◌, ◌≤◌, List, ◌∷◌, ◌++◌, map, Contains, IsTrue, Option, Some, ◌⊎◌}
use Rattle.std.specs.List.{AllByRecursion}
use Rattle.std.specs.List.Sorted.{IsPermutation}
use Rattle.record_text.specs.declared.entries.Record.{Record}
use Rattle.record_text.specs.declared.entries.Record.TheVariants as record_of
use Rattle.truncation_list.specs.declared.book.Book.{Book}
use Rattle.truncation_list.specs.declared.book.Cut.{Cut as ListedCut}
use Rattle.truncation_list.specs.Purge.{is_outdone_among}
use Rattle.cabinet.specs.declared.kept.Kept.{Kept}
use Rattle.cabinet.specs.Fresh.{cuts_of}
use Rattle.cabinet.specs.History.{first_front}
use Rattle.cabinet_records.specs.Replay.{Replayed, Replays, unplayed}
use Rattle.cabinet.specs.State.{State, now}

-- a cut of the records is listed, or a later one of them contains it, or it is at or below the floor
abbrev pub IsAccounted : List ListedCut → Book → ListedCut → Type 0
IsAccounted cuts book k = Contains book.cuts k ⊎ IsTrue (is_outdone_among cuts k) ⊎ (k.number ≤ book.floor)

-- the floor of a book is at or below that of the records, or it is the number of one of their cuts
abbrev pub IsFloorOf : Replayed → ℕ → Type 0
IsFloorOf r floor = (floor ≤ r.floor) ⊎ ((k : ListedCut) × Contains r.cuts k × (k.number ≡ floor))

-- the cut was done since the opening of a cabinet, or stood in its book then, or its number was given before that
abbrev pub IsOfPast : State → ListedCut → Type 0
IsOfPast s k = Contains (cuts_of s.history) k ⊎ (k.number ≤ first_front s.opening)

-- the records come to what a cabinet keeps, each metatile under its number, with its region, moment and saved uses; each listed cut is
-- among their cuts, and each of their cuts is accounted for
pub record IsRecordedIn (s : State) (records : List (Option Record)) : Type 0 where
  pub replayed : Replayed
  pub replays : Replays s.catalogue unplayed records replayed
  pub opening : replayed.opening ≡ Some s.opening.number
  pub kept : IsPermutation replayed.kept (now s).kept
  pub listed : AllByRecursion (Contains replayed.cuts) (now s).book.cuts
  pub accounted : AllByRecursion (IsAccounted replayed.cuts (now s).book) replayed.cuts
  pub past : AllByRecursion (IsOfPast s) replayed.cuts
  pub floor : IsFloorOf replayed (now s).book.floor
  pub floor_before : replayed.floor ≤ (now s).book.floor

-- WHAT A COMPACTION WRITES

abbrev pub stored_record : Kept → Record
stored_record t = record_of.Stored t.number t.meta t.place t.length t.moment t.uses

-- the opening with the floor, then the cuts in force by number, then what is kept, in an order of which nothing is said
abbrev pub compacted : ℕ → Book → List Kept → List Record
compacted e book kept = record_of.Opened e book.floor ∷ map (λ k. record_of.Cut k.number k.cover) book.cuts ++ map stored_record kept
