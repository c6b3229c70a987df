-- What a crash leaves while requests are served.
use Rattle.truncation_list.specs.Books.{AnswersForBook}
use Rattle.cabinet.specs.State.{State, now}

-- From a cabinet in the state s to a later one in the state t: a crash may leave what the keeper says between the two, and the later
-- book answers for the book before, so that this composes.
pub record Lasting (Outlasts : Type 0) (s t : State) : Type 0 where
  pub outlasts : Outlasts
  pub answers : AnswersForBook (now t).book (now s).book
