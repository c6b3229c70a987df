-- What contracts see of a turnstile and of its passes, and what each call does to them.
use Rattle.std.specs.Prelude.{◌≡◌, ℕ, ◌⊎◌, Bool, true, List, [], ◌∷◌, ◌++◌, Option, Some}
use Rattle.atomic_table.specs.Seated.{TableId}
use Rattle.atomic_table.specs.declared.shared.Seat.{Seat}
use Rattle.truncation_list.specs.declared.book.FrontedBook.{FrontedBook}
use Rattle.truncation_list.specs.Books.{AnswersForFronted}
use Rattle.turnstile.specs.declared.view.Known.{Known}
use Rattle.turnstile.specs.declared.view.Made.{Made}
use Rattle.turnstile.specs.declared.view.Opening.{Opening}
use Rattle.turnstile.specs.declared.view.TurnStage.TheVariants.{Idle, Out}
use Rattle.turnstile.specs.declared.view.View.{View}
use Rattle.turnstile.specs.Views.{first_view, made_of}
use Rattle.turnstile.specs.Steps.{Found}

-- which turnstile it is, and how many passes were made for it
pub record Identity : Type 0 where
  pub table : TableId
  pub passes : ℕ

-- a pass: of which turnstile it is, the charter of its chest and whether that is told to be sound, the book that the pass has seen,
-- and what it made, one item a turn
pub record Holding (H N : Type 0) : Type 0 where
  pub table : TableId
  pub charter : Option H
  pub told : Bool
  pub book : FrontedBook
  pub made : List (Made N)

module _ {H N : Type 0} where
  -- what a pass knows of the chest
  abbrev pub known_by : Holding H N → Known H
  known_by pass = record { charter = pass.charter; told = pass.told; book = pass.book }

  -- a new pass knows the chest that the turnstile was made with, and made nothing
  module _ {C : Type 0} (charter : C → H) (book : C → FrontedBook) where
    abbrev pub fresh_pass : TableId → C → Bool → Holding H N
    fresh_pass table chest told = record { table = table; charter = Some (charter chest); told = told; book = book chest; made = [] }

  -- a seat of a new table, with this many parts left to deal out
  module _ {C S : Type 0} (charter : C → H) (book : C → FrontedBook) where
    pub record IsDealer (table : TableId) (opening : Opening C) (parts : ℕ) (seat : Seat S (View C H N)) : Type 0 where
      pub same_table : seat.table_id ≡ table
      pub holds : seat.me ≡ (record (first_view charter book opening) { parts = parts }, [])

  -- a pass that has seen the book of a chest, and made these besides
  abbrev pub seen_by : Holding H N → FrontedBook → List (Made N) → Holding H N
  seen_by pass left gained = record { table = pass.table; charter = pass.charter; told = pass.told; book = left; made = pass.made ++ gained }

  -- what no call changes: of which turnstile a pass is, the charter, and the mark
  pub record Stays (before after : Holding H N) : Type 0 where
    pub table : after.table ≡ before.table
    pub charter : after.charter ≡ before.charter
    pub told : after.told ≡ before.told

  -- a pass heard what another one had seen
  pub record Met (mine theirs after : Holding H N) : Type 0 where
    pub is : after ≡ seen_by mine after.book []
    pub one_charter : theirs.charter ≡ mine.charter
    pub one_mark : theirs.told ≡ mine.told
    pub answers_mine : AnswersForFronted after.book mine.book
    pub answers_theirs : AnswersForFronted after.book theirs.book
    pub which : (after.book ≡ mine.book) ⊎ (after.book ≡ theirs.book)

  module _ {C M R X : Type 0} (charter : C → H) (sound : C → Type 0) (book : C → FrontedBook) (shown : C → X) (note : M → R → X → X → N)
      (may_reply : H → Bool → X → X → M → R → Type 0) where
    -- one turn: its command found one chest, which the pass may find, and left another. The reply is one that the command may have,
    -- and the pass has then seen what the turn left, and gained its note
    pub record Turned (before after : Holding H N) (command : M) (reply : R) : Type 0 where
      pub found : C
      pub left : C
      pub finds : Found charter sound book (known_by before) found
      pub same_charter : charter left ≡ charter found
      pub left_answers : AnswersForFronted (book left) (book found)
      pub left_sound : before.told ≡ true → sound left
      pub replies : may_reply (charter found) before.told (shown found) (shown left) command reply
      pub is : after ≡ seen_by before (book left) (made_of book shown note command reply found left ∷ [])

  -- a turn that came to nothing as memory ran out: the chest is as before, and the pass has seen it and gained no note
  module _ {C : Type 0} (charter : C → H) (sound : C → Type 0) (book : C → FrontedBook) (as_before : C → C → Type 0) where
    pub record Unturned (before after : Holding H N) : Type 0 where
      pub found : C
      pub left : C
      pub finds : Found charter sound book (known_by before) found
      pub same : as_before found left
      pub same_charter : charter left ≡ charter found
      pub same_book : book left ≡ book found
      pub is : after ≡ seen_by before (book found) []

-- what lies behind a pass: its seat
module _ {S C H N : Type 0} where
  abbrev pub knows : Seat S (View C H N) → View C H N
  knows seat = seat.me.0

  abbrev pub holding_of : Seat S (View C H N) → Holding H N
  holding_of seat =
      let v = knows seat in
      record { table = seat.table_id; charter = v.own.charter; told = v.own.told; book = v.own.book; made = v.made }

  -- a seat that has this many parts, no turn, and no slot: between two calls a pass has one part
  pub record IsReady (parts : ℕ) (seat : Seat S (View C H N)) : Type 0 where
    pub live : (knows seat).live ≡ true
    pub parts_is : (knows seat).parts ≡ parts
    pub idle : (knows seat).stage ≡ Idle
    pub carries : seat.me.1 ≡ []

-- the chest may come home in place of the one that the seat found
module _ {C H N : Type 0} (charter : C → H) (sound : C → Type 0) (book : C → FrontedBook) where
  pub record MayReturn (v : View C H N) (chest : C) : Type 0 where
    pub found : C
    pub out : v.stage ≡ Out found
    pub charter_is : charter chest ≡ charter found
    pub is_sound : v.own.told ≡ true → sound chest
    pub answers : AnswersForFronted (book chest) (book found)
