-- What one line of a feed comes to.
-- A tie between the code and its definitions: the promise can be read without it.
use Rattle.std.specs.Prelude.{◌≡◌, ◌⊎◌, ◌≤◌, ℕ, Bool, true, false, IsTrue, List, Some, None}
use Rattle.cabinet.specs.State.{IsSound, now}
use Rattle.change_feed.specs.declared.applied.Applied.{Applied}
use Rattle.change_feed.specs.declared.change.Change.{Change}
use Rattle.change_feed.specs.Applies.{Applies, Pair}
use Rattle.change_feed.specs.Files.{MayEndIn}
use Rattle.disk_model.specs.Images.{DiskState, Leaves}
use Rattle.opened_cache.specs.Change.{HasWritten, IsCutShort}
use Rattle.sessions.specs.Outside.{OutputChange}
use Rattle.served_covers.specs.OfCatalogue.{IsCoverOf}
use Rattle.truncation_list.specs.Books.{AnswersForBook}
use Rattle.feed_words.specs.declared.line.FeedLineEnd.{FeedLineEnd}
use Rattle.feed_words.specs.declared.line.FeedLineEnd.TheVariants as line_end
use Rattle.feed_words.specs.Orders.{change_in}
use Rattle.feed_words.specs.Run.{IsLeftAs}
use Rattle.feed_words.specs.Texts.{answer_text}

-- a text went out whole, or a front of it, and then a write failed
abbrev pub IsSent : OutputChange → List ℕ → Bool → Type 0
IsSent o text true = HasWritten o text
IsSent o text false = IsCutShort o text

-- what became of a change is told by its text
abbrev pub IsToldAs : OutputChange → ℕ → Applied → FeedLineEnd → Type 0
IsToldAs o number reply line_end.Told = HasWritten o (answer_text number reply)
IsToldAs o number reply line_end.WriteFault = IsCutShort o (answer_text number reply)
IsToldAs o number reply line_end.Refused = ⊥
IsToldAs o number reply line_end.OutOfMemory = ⊥

-- a change was answered by its row, and the answer was told; or memory ran out
abbrev pub MakesChange : Change → OutputChange → Type 0 → Pair → Pair → FeedLineEnd → Type 0
MakesChange change o Stays s t line_end.Told = (reply : Applied) × Applies s change reply t × HasWritten o (answer_text change.number reply)
MakesChange change o Stays s t line_end.WriteFault = (reply : Applied) × Applies s change reply t × IsCutShort o (answer_text change.number reply)
MakesChange change o Stays s t line_end.Refused = ⊥
MakesChange change o Stays s t line_end.OutOfMemory = IsLeftAs s t × Stays

-- a line orders this change
pub record IsOrderFor (s : Pair) (line : List ℕ) (change : Change) : Type 0 where
  pub reads : change_in s.cabinet.catalogue line ≡ Some change
  pub cover : IsCoverOf s.cabinet.catalogue change.cover

abbrev pub RunsLine : List ℕ → OutputChange → Type 0 → Pair → Pair → FeedLineEnd → Type 0
RunsLine line o Stays s t line_end.Told = (change : Change) × IsOrderFor s line change × MakesChange change o Stays s t line_end.Told
RunsLine line o Stays s t line_end.WriteFault = (change : Change) × IsOrderFor s line change × MakesChange change o Stays s t line_end.WriteFault
RunsLine line o Stays s t line_end.Refused = (change_in s.cabinet.catalogue line ≡ None) × (t ≡ s) × Stays
RunsLine line o Stays s t line_end.OutOfMemory = IsLeftAs s t × Stays

-- From s to t: at every moment an image of the marks ends in a mark of either stand; counts don't fall; and the cabinet has the catalogue
-- of before, answers for its book, and is sound where it was.
pub record GoesTo (told : Bool) (digest : List ℕ) (from to : DiskState) (s t : Pair) : Type 0 where
  pub images : IsTrue told → Leaves from to (λ image. MayEndIn digest s.stand image ⊎ MayEndIn digest t.stand image)
  pub later : s.faults ≤ t.faults
  pub cabinet_later : s.cabinet_faults ≤ t.cabinet_faults
  pub same_catalogue : t.cabinet.catalogue ≡ s.cabinet.catalogue
  pub answers : AnswersForBook (now t.cabinet).book (now s.cabinet).book
  pub still_sound : IsSound s.cabinet → IsSound t.cabinet
