-- What each step on a turnstile's table tells the seat that takes it.
use Rattle.std.specs.Prelude.{◌≡◌, ◌≢◌, ℕ, ◌+◌, ◌⊎◌, true, [], ◌∷◌, ◌++◌, Some}
use Rattle.atomic_table.specs.Table.{Me, Step}
use Rattle.truncation_list.specs.declared.book.FrontedBook.{FrontedBook}
use Rattle.truncation_list.specs.Books.{AnswersForFronted}
use Rattle.turnstile.specs.declared.view.Known.{Known}
use Rattle.turnstile.specs.declared.view.Lodged.{Lodged}
use Rattle.turnstile.specs.declared.view.TurnStage.TheVariants.{Out}
use Rattle.turnstile.specs.declared.view.View.{View}
use Rattle.turnstile.specs.Views.{Slot, known_after, after_turn, notes, turns_in}

-- the chest is one that this was known of: it has the charter, is sound where the mark is set, and its book answers for what was seen
module _ {C H : Type 0} (charter : C → H) (sound : C → Type 0) (book : C → FrontedBook) where
  pub record Found (known : Known H) (chest : C) : Type 0 where
    pub charter_is : known.charter ≡ Some (charter chest)
    pub is_sound : known.told ≡ true → sound chest
    pub answers : AnswersForFronted (book chest) known.book

-- what was known and what was heard are of one turnstile, and both are known now: by the book that answers for the other one
pub record Gathers {H : Type 0} (mine theirs both : Known H) : Type 0 where
  pub one_charter : theirs.charter ≡ mine.charter
  pub one_mark : theirs.told ≡ mine.told
  pub is : both ≡ known_after mine both.book
  pub answers_mine : AnswersForFronted both.book mine.book
  pub answers_theirs : AnswersForFronted both.book theirs.book
  pub which : (both.book ≡ mine.book) ⊎ (both.book ≡ theirs.book)

module _ {C H N : Type 0} where
  -- the turn is won where the word was 0, and the chest is taken; else nothing changes
  module _ (charter : C → H) (sound : C → Type 0) (book : C → FrontedBook) where
    abbrev pub took : {M R : Type 0} → Step (Slot C M R) → Me (Slot C M R) (View C H N) → ℕ → Me (Slot C M R) (View C H N) → Type 0
    took {M} {R} step me word after =
        (word ≡ 0 → (l : Lodged C M R) × (after ≡ (record me.0 { stage = Out l.chest }, (0, Some l) ∷ me.1)) × Found charter sound book me.0.own l.chest)
        × (word ≢ 0 → after ≡ me)

  -- the chest comes home, and the seat has seen what the turn left and gains its notes
  module _ {M R X : Type 0} (book : C → FrontedBook) (shown : C → X) (note : M → R → X → X → N) where
    abbrev pub gave : Step (Slot C M R) → Me (Slot C M R) (View C H N) → ℕ → Me (Slot C M R) (View C H N) → Type 0
    gave step me word after =
        (found : C) (l : Lodged C M R) → me.0.stage ≡ Out found → me.1 ≡ (0, Some l) ∷ []
        → after ≡ (after_turn me.0 (book l.chest) (notes book shown note found l.chest l.asked.entries l.answered.entries), [])

  -- what was heard is taken in
  abbrev pub learned : {M R : Type 0} → Step (Slot C M R) → Me (Slot C M R) (View C H N) → ℕ → Me (Slot C M R) (View C H N) → Type 0
  learned step me word after = (both : Known H) × (after ≡ (record me.0 { own = both; heard = both }, me.1)) × Gathers me.0.own me.0.heard both

-- a seat that knew v heard another one that knew w, and now knows x: it has the parts of both, and tells of the turns of both
pub record HeardBy {C H N : Type 0} (v w x : View C H N) : Type 0 where
  pub both : Known H
  pub is : x ≡ record v { parts = v.parts + w.parts; own = both; heard = both; gathered = v.gathered ++ turns_in w }
  pub gathers : Gathers v.own w.own both
