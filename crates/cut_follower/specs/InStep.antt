-- What holds of a lossy link after any events: the follower is in step with the leader.
use Rattle.std.specs.Prelude.{◌≡◌, ℕ, ◌+◌, ◌≤◌, List, ◌∷◌, [], ◌++◌, length, map, slice_get, Contains, Option, Some, None, IfSome}
use Rattle.std.specs.List.{AllByRecursion}
use Rattle.cabinet.specs.declared.replies.Asked.{Asked}
use Rattle.cabinet.specs.declared.replies.Asked.TheVariants as replies
use Rattle.cabinet.specs.State.{IsKnown, now}
use Rattle.change_feed.specs.declared.mark.Mark.{Mark}
use Rattle.change_feed.specs.Marks.{last_of}
use Rattle.outbox.specs.declared.packet.Packet.{Packet}
use Rattle.outbox.specs.declared.packet.Packet.TheVariants as packets
use Rattle.served_covers.specs.OfCatalogue.{IsCoverOf}
use Rattle.truncation_list.specs.Books.{AnswersFor}
use Rattle.truncation_list.specs.declared.book.Book.{Book}
use Rattle.truncation_list.specs.declared.book.Cut.{Cut}
use Rattle.truncation_list.specs.declared.cover.Cover.{Cover}
use Rattle.cut_follower.specs.Lossy.{Lossy}

-- a list begins with this one
abbrev pub IsFront : {X : Type 0} → List X → List X → Type 0
IsFront {X} front whole = (rest : List X) × (whole ≡ front ++ rest)

-- the number of the last change that is marked
abbrev pub last_in : Lossy → ℕ
last_in l = last_of l.stores.stand.mark

abbrev pub book_in : Lossy → Book
book_in l = (now l.stores.cabinet).book

abbrev pub covers_of : List Cut → List Cover
covers_of cuts = map (λ cut. cut.cover) cuts

-- a change that was sent is the post of its number; what was told as seen is marked
abbrev pub IsTrueOf : List Cover → ℕ → Packet → Type 0
IsTrueOf posts last_number (packets.Change n cover) = (i : ℕ) × (n ≡ i + 1) × (slice_get posts i ≡ Some cover)
IsTrueOf posts last_number (packets.Seen j) = j ≤ last_number

-- the cut in the mark is the last one that was applied
abbrev pub IsLastOf : List Cut → Mark → Type 0
IsLastOf cuts mark = (before : List Cut) × (cover : Cover) × (cuts ≡ before ++ record { number = mark.cut; cover = cover } ∷ [])

-- an undecided mark is that of the next change; its cut has the cover of the next post, and the book answers for it
pub record IsNextIn (l : Lossy) (mark : Mark) : Type 0 where
  pub next : mark.number ≡ last_in l + 1
  pub cover : Cover
  pub is_posted : slice_get l.out.posts (last_in l) ≡ Some cover
  pub is_cut : l.unsure ≡ Some (record { number = mark.cut; cover = cover })
  pub answers : AnswersFor (book_in l) (record { number = mark.cut; cover = cover })

pub record IsInStep (l : Lossy) : Type 0 where
  pub known : IsKnown l.stores.cabinet
  -- the posts are of the catalogue, the one that is undecided included
  pub served : AllByRecursion (IsCoverOf l.stores.cabinet.catalogue) l.out.posts
  pub served_too : IfSome l.out.undecided (IsCoverOf l.stores.cabinet.catalogue)
  -- as many changes were applied as are marked, and the last one with the cut in its mark
  pub counted : length l.applied ≡ last_in l
  pub marked : IfSome l.stores.stand.mark (IsLastOf l.applied)
  -- they are the first posts, in their order
  pub posted : IsFront (covers_of l.applied) l.out.posts
  -- and are in force
  pub answers : AllByRecursion (AnswersFor (book_in l)) l.applied
  pub undecided : IfSome l.stores.stand.undecided (IsNextIn l)
  pub sent : AllByRecursion (IsTrueOf l.out.posts (last_in l)) l.sent
  pub heard : l.out.heard ≤ last_in l

-- a change is acknowledged where it was told, of it or of one behind it, that it is seen
abbrev pub IsAcknowledged : ℕ → Lossy → Type 0
IsAcknowledged i l = (j : ℕ) × (i ≤ j) × Contains l.sent (packets.Seen j)

-- the number of the tile that a reply answers with, or that is rendered for it
abbrev pub tile_number : Asked → Option ℕ
tile_number (replies.Hit k bytes) = Some k
tile_number (replies.Busy k) = None
tile_number replies.Spent = None
tile_number (replies.Ticket t) = Some t.number
