-- The passes of a hall when it is made, and when it ends.
use Rattle.std.specs.Prelude.{◌≡◌, Bool, true, [], Some}
use Rattle.cabinet.specs.State.{IsSound, State, fronted, now}
use Rattle.truncation_list.specs.declared.book.FrontedBook.{FrontedBook}
use Rattle.truncation_list.specs.Books.{AnswersForFronted}
use Rattle.cache_hall.specs.Turned.{HallPass}

-- a pass that has seen this book and made nothing, with this mark of being told
pub record IsFirstPass (told : Bool) (book : FrontedBook) (pass : HallPass) : Type 0 where
  pub same_mark : pass.told ≡ told
  pub seen : pass.book ≡ book
  pub nothing : pass.made ≡ []

-- a cabinet in this state may be the one of which the pass knows: it has the catalogue, is sound where the pass is told so, and its
-- book answers for what the pass has seen
pub record Knows (s : State) (pass : HallPass) : Type 0 where
  pub charter : pass.charter ≡ Some s.catalogue
  pub is_sound : pass.told ≡ true → IsSound s
  pub answers : AnswersForFronted (fronted (now s)) pass.book
