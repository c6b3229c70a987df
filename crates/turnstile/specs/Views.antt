-- What a turn is noted as, and what the view of a seat at a turnstile is after each step.
use Rattle.std.specs.Prelude.{ℕ, ◌+◌, ◌-◌, Bool, true, false, List, [], ◌∷◌, ◌++◌, Option, Some, None}
use Rattle.truncation_list.specs.declared.book.FrontedBook.{FrontedBook}
use Rattle.turnstile.specs.declared.view.Known.{Known}
use Rattle.turnstile.specs.declared.view.Lodged.{Lodged}
use Rattle.turnstile.specs.declared.view.Made.{Made}
use Rattle.turnstile.specs.declared.view.TurnStage.TheVariants.{Idle}
use Rattle.turnstile.specs.declared.view.View.{View}
use Rattle.turnstile.specs.declared.view.Opening.{Opening}

-- what may lie in the slot: the chest, or nothing while a pass has it
abbrev pub Slot : Type 0 → Type 0 → Type 0 → Type 0
Slot C M R = Option (Lodged C M R)

module _ {C H : Type 0} (charter : C → H) (book : C → FrontedBook) where
  -- what is known of a chest that was seen just now
  abbrev pub known_from : C → Bool → Known H
  known_from chest told = record { charter = Some (charter chest); told = told; book = book chest }

  -- the view of the first seat: it has the parts of all passes
  abbrev pub first_view : {N : Type 0} → Opening C → View C H N
  first_view key =
      record { live = true; parts = key.passes; own = known_from key.start.chest key.start.told; heard = known_from key.start.chest key.start.told; made = []; gathered = []; stage = Idle }

-- what is noted of a turn that found one chest and left another: the note of its command, and both books
module _ {C N M R X : Type 0} (book : C → FrontedBook) (shown : C → X) (note : M → R → X → X → N) where
  abbrev pub made_of : M → R → C → C → Made N
  made_of command reply found left = record { note = note command reply (shown found) (shown left); found = book found; left = book left }

  -- the notes of a turn: one where its command was answered, and none where there was no memory
  abbrev pub notes : C → C → List M → List R → List (Made N)
  notes found left (command ∷ _) (reply ∷ _) = made_of command reply found left ∷ []
  notes found left _ _ = []

-- what is known after a turn that left this book
abbrev pub known_after : {H : Type 0} → Known H → FrontedBook → Known H
known_after known left = record { charter = known.charter; told = known.told; book = left }

abbrev pub no_book : FrontedBook
no_book = record { book = record { cuts = []; floor = 0 }; front = 0 }

abbrev pub known_nothing : {H : Type 0} → Known H
known_nothing = record { charter = None; told = false; book = no_book }

module _ {C H N : Type 0} where
  abbrev pub parts_of : View C H N → ℕ
  parts_of v = v.parts

  abbrev pub after_turn : View C H N → FrontedBook → List (Made N) → View C H N
  after_turn v left gained =
      record { live = v.live; parts = v.parts; own = known_after v.own left; heard = known_after v.own left; made = v.made ++ gained; gathered = v.gathered; stage = Idle }

  -- a seat that has one part of those of v, and made nothing
  abbrev pub newcomer : ℕ → View C H N → View C H N
  newcomer parts v = record { live = v.live; parts = parts; own = v.own; heard = v.own; made = []; gathered = []; stage = Idle }

  -- v without one part
  abbrev pub one_less : View C H N → View C H N
  one_less v = record v { parts = v.parts - 1 }

  -- all turns that a view tells of
  abbrev pub turns_in : View C H N → List (Made N)
  turns_in v = v.made ++ v.gathered

  -- v hears what w knows, and takes over its parts and its turns
  abbrev pub hearing : View C H N → View C H N → View C H N
  hearing v w = record v { parts = v.parts + w.parts; heard = w.own; gathered = v.gathered ++ turns_in w }

  -- a seat that was joined into another one
  abbrev pub spent : View C H N
  spent = record { live = false; parts = 0; own = known_nothing; heard = known_nothing; made = []; gathered = []; stage = Idle }
