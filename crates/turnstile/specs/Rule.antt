-- The rule of a turnstile: what holds between any two steps of any threads.
use Rattle.std.specs.Prelude.{◌≡◌, ℕ, ◌+◌, ◌<◌, ◌⊎◌, Bool, true, List, [], ◌∷◌, length, slice_index, Some}
use mathlib.Core.Option.{some}
use lib.ListN.{get_elem?}
use Rattle.std.specs.List.{Contains}
use Rattle.atomic_table.specs.Table.{State}
use Rattle.truncation_list.specs.declared.book.FrontedBook.{FrontedBook}
use Rattle.truncation_list.specs.Books.{AnswersForFronted}
use Rattle.turnstile.specs.declared.view.Known.{Known}
use Rattle.turnstile.specs.declared.view.Lodged.{Lodged}
use Rattle.turnstile.specs.declared.view.Made.{Made}
use Rattle.turnstile.specs.declared.view.TurnStage.{TurnStage}
use Rattle.turnstile.specs.declared.view.TurnStage.TheVariants.{Idle, Out}
use Rattle.turnstile.specs.declared.view.View.{View}
use Rattle.turnstile.specs.Line.{InLine}
use Rattle.turnstile.specs.Views.{Slot, parts_of, turns_in}

-- the numbers f of the views, added up
abbrev pub total_of : {V : Type 0} → (V → ℕ) → List V → ℕ
total_of f [] = 0
total_of f (v ∷ vs) = f v + total_of f vs

-- of two books one answers for the other
abbrev pub Agree : FrontedBook → FrontedBook → Type 0
Agree a b = AnswersForFronted a b ⊎ AnswersForFronted b a

-- a view that has the turn is the holder's, while the word is 1, and it found the chest that was last at home
abbrev pub Stands : {C : Type 0} → C → ℕ → ℕ → ℕ → TurnStage C → Type 0
Stands now word holder at Idle = Unit {0}
Stands now word holder at (Out found) = (word ≡ 1) × (at ≡ holder) × (found ≡ now)

-- some view that isn't spent by a join knows this
pub record Holds {C H N : Type 0} (views : List (View C H N)) (known : Known H) : Type 0 where
  pub at : ℕ
  pub view : View C H N
  pub there : get_elem? views at ≡ some view
  pub live : view.live ≡ true
  pub is : (known ≡ view.own) ⊎ (known ≡ view.heard)

-- some view that isn't spent by a join tells of this turn
pub record Tells {C H N : Type 0} (views : List (View C H N)) (turn : Made N) : Type 0 where
  pub at : ℕ
  pub view : View C H N
  pub there : get_elem? views at ≡ some view
  pub live : view.live ≡ true
  pub among : Contains (turns_in view) turn

module _ {C H : Type 0} (charter : C → H) (book : C → FrontedBook) where
  -- what is known has the chest's charter and the one mark, and the chest's book answers for its book
  pub record Fits (now : C) (mark : Bool) (known : Known H) : Type 0 where
    pub charter_is : known.charter ≡ Some (charter now)
    pub told_is : known.told ≡ mark
    pub answers : AnswersForFronted (book now) known.book

  -- `now` is the chest at home, or while it is out the one that its one holder found
  pub record Kept {N M R : Type 0} (sound : C → Type 0) (total : ℕ) (s : State (Slot C M R) (View C H N)) : Type 0 where
    pub now : C
    pub mark : Bool
    pub holder : ℕ
    pub one : length s.words ≡ 1
    pub word : (slice_index s.words 0 ≡ 0) ⊎ (slice_index s.words 0 ≡ 1)
    pub home : slice_index s.words 0 ≡ 0 → (l : Lodged C M R) × (get_elem? s.homes 0 ≡ some (some (Some l))) × (l.chest ≡ now)
    pub out : slice_index s.words 0 ≡ 1 → (v : View C H N) × (get_elem? s.views holder ≡ some v) × (v.stage ≡ Out now) × (0 < v.parts)
    pub turn : (at : ℕ) (v : View C H N) → get_elem? s.views at ≡ some v → Stands now (slice_index s.words 0) holder at v.stage
    pub is_sound : mark ≡ true → sound now
    pub fits : (known : Known H) → Holds s.views known → Fits now mark known
    pub agree : (a b : Known H) → Holds s.views a → Holds s.views b → Agree a.book b.book
    pub past : (turn : Made N) → Tells s.views turn → AnswersForFronted (book now) turn.left
    pub line : (m n : Made N) → Tells s.views m → Tells s.views n → InLine m n
    pub all : total_of parts_of s.views ≡ total
