-- The moments of a word after which a crash leaves what answers for what the cabinet came to.
use Rattle.std.specs.Prelude.{ℕ, ◌≤◌, Bool, IsTrue}
use Rattle.cabinet.specs.State.{State, now}
use Rattle.disk_model.specs.Images.{DiskState, Every, Leaves}
use Rattle.durable_cabinet.specs.Outlasting.{AnswersAs, Outlasts, outlasts_itself, outlasts_on}
use Rattle.gate_journal.specs.declared.journal.Journal.{Journal}
use Rattle.opened_cache.specs.Crash.{ImageLasts, IsLeftBy}
use Rattle.truncation_list.specs.Books.{AnswersForBook}

-- a crash at this moment leaves what a cabinet in the state s leaves, where the disk is modelled
abbrev pub LeavesNow : Bool → DiskState → State → Type 0
LeavesNow told disk s = IsTrue told → Every disk.may_leave (IsLeftBy s.catalogue s)

-- From one state of a cabinet to another a crash leaves what it does of each cabinet on a disk; and where the first is what a crash leaves at its
-- moment, so is the second at its own.
pub record OutlastsLeft (told told' : Bool) (faults faults' : ℕ) (s t : State) (j j' : Journal) (old new : DiskState) : Type 0 where
  pub outlasts : Outlasts told told' faults faults' s t j j' old new
  pub leaves : LeavesNow told old s → LeavesNow told' new t

-- no command
pub outlasts_left_itself : (told : Bool) (faults : ℕ) (s : State) (j : Journal) (disk : DiskState) → OutlastsLeft told told faults faults s s j j disk disk
outlasts_left_itself told faults s j disk = record { outlasts = outlasts_itself told faults s j disk; leaves = λ left. left }

-- commands after commands
pub outlasts_left_on : (told told' told'' : Bool) (f f' f'' : ℕ) (s t u : State) (j j' j'' : Journal) (old mid new : DiskState) → AnswersForBook (now t).book (now s).book
    → OutlastsLeft told told' f f' s t j j' old mid → OutlastsLeft told' told'' f' f'' t u j' j'' mid new → OutlastsLeft told told'' f f'' s u j j'' old new
outlasts_left_on told told' told'' f f' f'' s t u j j' j'' old mid new answers first next = record {
  outlasts = outlasts_on told told' told'' f f' f'' s t u j j' j'' old mid new answers first.outlasts next.outlasts;
  leaves = λ left. next.leaves (first.leaves left);
}

-- Within a word there was a moment of its disk at which a crash left what a cabinet in the state s leaves: exactly what s keeps, up to the one command
-- that the disk failed at. What a crash at that moment, or at any later one until the end of the word, might have left answers for each truncation of s,
-- under no lesser number of an opening; and up to that moment it was what a crash leaves within any word.
pub record PassesDisk (D : Type 0) (state : D → DiskState) (told : Bool) (from to : DiskState) (s : State) : Type 0 where
  pub mid : D
  pub earlier : IsTrue told → Leaves from (state mid) (ImageLasts s.catalogue from)
  pub here : LeavesNow told (state mid) s
  pub later : IsTrue told → (state mid).moment ≤ to.moment
  pub after : IsTrue told → Every (to.left_since (state mid).moment) (AnswersAs s.catalogue s.opening.number (now s).book)
