-- A chest of the tests: a number that only grows.
use Rattle.std.specs.Prelude.{ℕ, []}
use Rattle.truncation_list.specs.declared.book.FrontedBook.{FrontedBook}

-- its book lists no cut, and each number up to its own has been seen
abbrev pub counted : ℕ → FrontedBook
counted number = record { book = record { cuts = []; floor = number }; front = number }
