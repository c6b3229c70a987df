-- What a crash leaves of the truncations, and of the numbers of openings, at each moment of a word and at its end.
use Rattle.std.specs.Prelude.{ℕ, ◌⊎◌, ◌≤◌, ◌+◌, Bool, IsTrue, List, ⊤}
use Rattle.std.proofs.Common.{inl, inr}
use Rattle.std.specs.List.Sorted.{IsPermutation}
use Rattle.cabinet.specs.declared.kept.Kept.{Kept}
use Rattle.cabinet.specs.State.{IsSound, State, now}
use Rattle.cabinet_records.specs.Replay.{Replayed, book_after, opening_number}
use Rattle.catalog.specs.declared.catalogue.Catalogue.{Catalogue}
use Rattle.disk_model.specs.Content.{Content}
use Rattle.disk_model.specs.Images.{DiskState, Every, Leaves}
use Rattle.durable_cabinet.specs.Images.{IsOneRecordOn, IsOurs, IsSoundImage, OpensTo, Restores}
use Rattle.durable_cabinet.specs.Filed.{OpensLike}
use Rattle.durable_cabinet.specs.Missed.{HasMissed, IsPicture}
use Rattle.durable_cabinet.specs.Outlasting.{AnswersAs}
use Rattle.gate_journal.specs.declared.journal.Journal.{Journal}
use Rattle.gate_journal.specs.Sound.{IsSettled}
use Rattle.opened_cache.specs.Change.{DiskChange, HasFailed}
use Rattle.truncation_list.specs.declared.book.Cut.{Cut}
use Rattle.truncation_list.specs.Books.{AnswersFor}

-- AT EVERY MOMENT

-- an image opens, and its book answers for the cut
pub record HasCut (c : Catalogue) (cut : Cut) (image : Content) : Type 0 where
  pub replayed : Replayed
  pub opens : OpensTo c image replayed
  pub answers : AnswersFor (book_after replayed) cut

-- each image at entry answers for the cut
abbrev pub HadCut : Catalogue → DiskState → Cut → Type 0
HadCut c old cut = Every old.may_leave (HasCut c cut)

-- an image opens, and the number of its last opening is no less than e
pub record HasOpening (c : Catalogue) (e : ℕ) (image : Content) : Type 0 where
  pub replayed : Replayed
  pub opens : OpensTo c image replayed
  pub later : e ≤ opening_number replayed

-- the number of each image at entry is no less than e
abbrev pub HadOpening : Catalogue → DiskState → ℕ → Type 0
HadOpening c old e = Every old.may_leave (HasOpening c e)

-- an image opens
abbrev pub ImageOpens : Catalogue → Content → Type 0
ImageOpens c image = (r : Replayed) × OpensTo c image r

-- What an opening leaves: what might have been left at entry, or the file of a cabinet that opens to the same kept list as what was read, with the same blobs, and
-- to a book that answers for that one.
abbrev pub LeftByOpening : Catalogue → DiskState → Content → Type 0
LeftByOpening c old image = old.may_leave image ⊎ ((r : Replayed) × OpensTo c old.seen r × OpensLike c r old.seen image × IsOurs c image)

-- what was read at entry opens, and an image does under a greater number of an opening
abbrev pub OpensLater : Catalogue → DiskState → Content → Type 0
OpensLater c old image = (r : Replayed) × OpensTo c old.seen r × HasOpening c (opening_number r + 1) image

-- An image opens where every image at entry does, it answers for each cut for which every image at entry answers, its opening has no lesser number than
-- each of theirs, and a greater one than what was read where it is more than what an opening leaves; and it is the file of a cabinet, unless it was an
-- image at entry.
pub record ImageLasts (c : Catalogue) (old : DiskState) (image : Content) : Type 0 where
  pub opens : Every old.may_leave (ImageOpens c) → ImageOpens c image
  pub answers : (cut : Cut) → HadCut c old cut → HasCut c cut image
  pub numbers : (e : ℕ) → HadOpening c old e → HasOpening c e image
  pub newer : LeftByOpening c old image ⊎ OpensLater c old image
  pub ours : old.may_leave image ⊎ IsOurs c image

-- at every moment of a word a crash leaves such an image, where the disk is modelled
abbrev pub LastsThrough : Catalogue → DiskChange → Type 0
LastsThrough c d = IsTrue d.told → Leaves d.from d.to (ImageLasts c d.from)

-- WHERE NOTHING WAS DONE

-- a crash at any moment leaves what it might have left at entry, where the disk is modelled
abbrev pub LeavesAsItWas : DiskChange → Type 0
LeavesAsItWas d = IsTrue d.told → Leaves d.from d.to d.from.may_leave

-- a crash at any moment of a word that did no more than an opening leaves such an image, where the disk is modelled
abbrev pub OpeningLeaves : Catalogue → DiskChange → Type 0
OpeningLeaves c d = IsTrue d.told → Leaves d.from d.to (LeftByOpening c d.from)

-- AT THE END

-- an image opens to what the cabinet keeps, or to what one record more would have made of it
pub record KeepsNearly (c : Catalogue) (s : State) (image : Content) : Type 0 where
  pub replayed : Replayed
  pub opens : OpensTo c image replayed
  pub kept : List Kept
  pub nearly : IsOneRecordOn c (now s).kept kept
  pub same : IsPermutation replayed.kept kept

-- the disk failed at the last command of the cabinet, and an image opens to exactly what that would have led to, with its blobs
pub record RestoresMissed (s : State) (image : Content) : Type 0 where
  pub next : State
  pub missed : HasMissed s next
  pub restores : Restores next image

-- that command was no render, or its blob is that of its metatile in the picture of its number
abbrev pub IsTrueTo : (s : State) (image : Content) → Restores s image ⊎ RestoresMissed s image → Type 0
IsTrueTo s image (inl restores) = ⊤
IsTrueTo s image (inr m) = IsPicture m.missed.from m.next m.missed.missed m.missed.misses

-- An image opens to a book that answers for that of the cabinet, and so for each cut that was done, under the number of its opening or a later one. It has
-- exactly what the cabinet keeps, blobs and all, or what the last command would have led to, which the disk failed at: so up to one record. Where the
-- cabinet keeps the pictures of its numbers, and such a command's blob is one, so does the image. And it is the file of a cabinet.
pub record IsLeftBy (c : Catalogue) (s : State) (image : Content) : Type 0 where
  pub answers : AnswersAs c s.opening.number (now s).book image
  pub kept : KeepsNearly c s image
  pub restores : Restores s image ⊎ RestoresMissed s image
  pub sound : IsSound s → IsTrueTo s image restores → IsSoundImage c image
  pub ours : IsOurs c image

-- The cabinet of a modelled disk was closed at s, with this journal: each image is one of those; where no command has failed since the journal was settled
-- it opens to exactly what the cabinet is, and where that is the pictures of its numbers, so is what the image opens to.
pub record IsCacheClosed (told : Bool) (j : Journal) (disk : DiskState) (s : State) : Type 0 where
  pub left : IsTrue told → Every disk.may_leave (IsLeftBy s.catalogue s)
  pub restores : IsTrue told → IsSettled j → Every disk.may_leave (Restores s)
  pub sound : IsTrue told → IsSettled j → IsSound s → Every disk.may_leave (IsSoundImage s.catalogue)

-- after the cabinet came to s a crash leaves such an image, where the disk is modelled
abbrev pub IsLeft : Catalogue → DiskChange → State → Type 0
IsLeft c d s = IsTrue d.told → Every d.to.may_leave (IsLeftBy c s)

-- where the disk is modelled and has not failed, each image opens to exactly what the cabinet is
abbrev pub IsRestored : DiskChange → State → Type 0
IsRestored d s = HasFailed d ⊎ (IsTrue d.told → Every d.to.may_leave (Restores s))
