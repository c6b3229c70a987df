-- What a carry is planned to take over.
use Rattle.std.specs.Prelude.{ℕ, ◌≡◌, ◌+◌, ◌<◌, ◌≤◌, ◌^◌, List, length, Option, ⊤}
use Rattle.std.specs.Option.{option_map_or}
use Rattle.cabinet.specs.declared.kept.Kept.{Kept}
use Rattle.catalog.specs.declared.catalogue.Catalogue.{Catalogue}
use Rattle.gate_journal.specs.declared.fault.OpenFault.TheVariants as fault
use Rattle.truncation_list.specs.declared.book.Book.{Book}
use Rattle.truncation_list.specs.declared.book.Cut.{Cut}
use Rattle.carry_over.specs.declared.fault.CarryFault.{CarryFault}
use Rattle.carry_over.specs.declared.fault.CarryFault.TheVariants as carry
use Rattle.carry_over.specs.Chosen.{Chooses, ChoosesCuts, last_of}

-- the next number, what was chosen, and the same floor
pub record IsPlanned (c d : Catalogue) (opening : Option ℕ) (kept : List Kept) (book : Book) (number floor : ℕ) (cuts : List Cut) (chosen : List Kept) (roomless : ℕ) : Type 0 where
  pub next : number ≡ option_map_or (λ e. e) opening 0 + 1
  pub fits : number < 2 ^ 24
  pub same_floor : floor ≡ book.floor
  pub chooses : Chooses c d (last_of d kept) chosen roomless
  pub chooses_cuts : ChoosesCuts d book.cuts cuts
  pub few_cuts : length cuts ≤ d.cut_limit

-- no number is left, or more cuts are of the catalogue than may be listed, or memory ran out
abbrev pub IsPlanFault : Catalogue → Option ℕ → Book → CarryFault → Type 0
IsPlanFault d opening book (carry.Old fault.NotACache) = ⊥
IsPlanFault d opening book (carry.Old (fault.CatalogueDiffers found asked)) = ⊥
IsPlanFault d opening book (carry.Old (fault.BadRecord slot)) = ⊥
IsPlanFault d opening book (carry.Old fault.Spent) = 2 ^ 24 ≤ option_map_or (λ e. e) opening 0 + 1
IsPlanFault d opening book (carry.Old fault.DiskFault) = ⊥
IsPlanFault d opening book (carry.Old fault.OutOfMemory) = ⊥
IsPlanFault d opening book carry.NewDisk = ⊥
IsPlanFault d opening book carry.NotMade = ⊥
IsPlanFault d opening book carry.CutsFull = (cuts : List Cut) × ChoosesCuts d book.cuts cuts × (d.cut_limit < length cuts)
IsPlanFault d opening book carry.OutOfMemory = ⊤
