-- What a book answers for, and what it has seen.
use Rattle.std.specs.Prelude.{ℕ, ◌≤◌, max, ◌⊎◌, List, [], ◌∷◌, IsTrue}
use Rattle.std.specs.List.{All, Any, Contains}
use Rattle.truncation_list.specs.declared.book.Book.{Book}
use Rattle.truncation_list.specs.declared.book.Cut.{Cut}
use Rattle.truncation_list.specs.declared.book.FrontedBook.{FrontedBook}
use Rattle.truncation_list.specs.Contains.{contains}

-- the cut has at least the number of another one, and its cover contains the other's
pub record Outdoes (cut other : Cut) : Type 0 where
  pub number : other.number ≤ cut.number
  pub cover : IsTrue (contains cut.cover other.cover)

-- the cut is listed, or a listed one outdoes it, or its number is at most the floor
abbrev pub AnswersFor : Book → Cut → Type 0
AnswersFor book cut = Contains book.cuts cut ⊎ (Any (λ listed. Outdoes listed cut) book.cuts ⊎ (cut.number ≤ book.floor))

-- a book answers for another one where its floor is no less, and it answers for each cut listed there
pub record AnswersForBook (book other : Book) : Type 0 where
  pub floor : other.floor ≤ book.floor
  pub cuts : All (AnswersFor book) other.cuts

-- and with fronts only where its front is no less either
pub record AnswersForFronted (fronted other : FrontedBook) : Type 0 where
  pub book : AnswersForBook fronted.book other.book
  pub front : other.front ≤ fronted.front

abbrev pub greatest_number : List Cut → ℕ
greatest_number [] = 0
greatest_number (cut ∷ cuts) = max cut.number (greatest_number cuts)

-- the greatest cut that the book has seen: the greater of its floor and its greatest listed number
abbrev pub last_seen : Book → ℕ
last_seen book = max book.floor (greatest_number book.cuts)
