-- What the disk of the new cache opens to once a carry has ended well.
use Rattle.std.specs.Prelude.{ℕ, ◌≡◌, ◌<◌, ◌+◌, ◌⊎◌, Bool, IsTrue, List, length, Option, Some, ⊤}
use Rattle.std.specs.List.{AllByRecursion}
use Rattle.std.specs.Option.{option_map_or}
use Rattle.cabinet.specs.declared.kept.Kept.{Kept}
use Rattle.cabinet.specs.History.{CabinetOpening}
use Rattle.cabinet_records.specs.Replay.{Replayed, book_after, opening_after}
use Rattle.cache_file.specs.File.{HasBlobAt}
use Rattle.catalog.specs.declared.catalogue.Catalogue.{Catalogue}
use Rattle.disk_model.specs.Content.{Content, bytes_at}
use Rattle.disk_model.specs.Images.{Every}
use Rattle.durable_cabinet.specs.Images.{IsOurs, OpensTo, blobs_start}
use Rattle.truncation_list.specs.declared.book.Book.{Book}
use Rattle.truncation_list.specs.declared.book.Cut.{Cut}
use Rattle.truncation_list.specs.Books.{AnswersForBook}
use Rattle.base.specs.Causes.{Rose}
use Rattle.durable_cabinet.specs.Filed.{IsRefusedAs}
use Rattle.carry_over.specs.Chosen.{ChoosesCuts, IsPartOf, Takes, taken_over}
use Rattle.carry_over.specs.Planned.{IsPlanFault}
use Rattle.carry_over.specs.declared.fault.CarryFault.{CarryFault}
use Rattle.carry_over.specs.declared.fault.CarryFault.TheVariants as carry

-- An image opens under a catalogue to an opening: to its number, to what it keeps in its order, each metatile under its number, with its region, moment and uses,
-- and to a book that answers for its own; it has in each region the bytes that a content has there, counted from where the blobs of that one begin; and it is the
-- file of a cabinet.
pub record HasTaken (d : Catalogue) (o : CabinetOpening) (from : ℕ) (seen image : Content) : Type 0 where
  pub replayed : Replayed
  pub opens : OpensTo d image replayed
  pub opening : replayed.opening ≡ Some o.number
  pub kept : replayed.kept ≡ o.kept
  pub answers : AnswersForBook (book_after replayed) o.book
  pub has : AllByRecursion (λ t. HasBlobAt (blobs_start d + t.place) (bytes_at seen (from + t.place) t.length) image) o.kept
  pub ours : IsOurs d image

abbrev pub opening_with : ℕ → ℕ → List Cut → List Kept → CabinetOpening
opening_with number floor cuts kept = record { number = number; kept = kept; book = record { cuts = cuts; floor = floor } }

-- Of what was chosen all is kept that was read, and each image of the new disk opens to it.
pub record IsCopied (d : Catalogue) (o : CabinetOpening) (from : ℕ) (seen : Content) (may_leave : Content → Type 0) (kept_count unread : ℕ) : Type 0 where
  pub kept : List Kept
  pub part : IsPartOf kept o.kept
  pub told : length kept + unread ≡ length o.kept
  pub kept_is : kept_count ≡ length kept
  pub images : Every may_leave (HasTaken d (opening_with o.number o.book.floor o.book.cuts kept) from seen)

-- the opening that follows what was restored
abbrev pub opening_of : Option ℕ → List Kept → Book → CabinetOpening
opening_of last kept book = record { number = option_map_or (λ e. e) last 0 + 1; kept = kept; book = book }

-- What is taken over of an opening, and what each image of the new disk opens to.
pub record IsTakenFrom (c d : Catalogue) (o : CabinetOpening) (seen : Content) (may_leave : Content → Type 0) (kept_count cut_count roomless unread : ℕ) : Type 0 where
  pub chosen : List Kept
  pub kept : List Kept
  pub cuts : List Cut
  pub takes : Takes c d o chosen kept cuts roomless unread
  pub kept_is : kept_count ≡ length kept
  pub cuts_are : cut_count ≡ length cuts
  pub images : Every may_leave (HasTaken d (taken_over o kept cuts) (blobs_start c) seen)

-- THE CACHE OF c IS TAKEN OVER UNDER d: what the records of its disk come to was chosen, and each image of the new disk opens to all that was chosen and read,
-- with the blobs that the old disk has; so many weren't read, and so many stay and have no room
pub record IsTakenOver (c d : Catalogue) (seen : Content) (may_leave : Content → Type 0) (kept_count cut_count roomless unread : ℕ) : Type 0 where
  pub replayed : Replayed
  pub opens : OpensTo c seen replayed
  pub taken : IsTakenFrom c d (opening_after replayed) seen may_leave kept_count cut_count roomless unread

-- WHY IT ISN'T: the old disk is refused as an opening of its cache refuses it; the new disk's count of faults rose; more of the cuts that the old records come to
-- are of the new catalogue than it lets be listed; memory ran out; or the new disk doesn't give back the file that was made there, which one that is modelled does
abbrev pub IsCarryFault : Bool → Catalogue → Catalogue → Content → ℕ → ℕ → Bool → ℕ → ℕ → CarryFault → Type 0
IsCarryFault told c d seen before after new_told new_before new_after (carry.Old fault) = IsRefusedAs told c seen before after fault
IsCarryFault told c d seen before after new_told new_before new_after carry.NewDisk = Rose new_before new_after
IsCarryFault told c d seen before after new_told new_before new_after carry.NotMade = IsTrue new_told → ⊥
IsCarryFault told c d seen before after new_told new_before new_after carry.CutsFull = IsTrue told → (r : Replayed) × OpensTo c seen r × ((cuts : List Cut) × ChoosesCuts d (book_after r).cuts cuts × (d.cut_limit < length cuts))
IsCarryFault told c d seen before after new_told new_before new_after carry.OutOfMemory = ⊤

-- why it isn't once the old disk was read: no number is left, the new disk, too many cuts, or memory
abbrev pub IsLateFault : Catalogue → Option ℕ → Book → Bool → ℕ → ℕ → CarryFault → Type 0
IsLateFault d last book new_told new_before new_after fault =
    IsPlanFault d last book fault ⊎ ((fault ≡ carry.NotMade) × (IsTrue new_told → ⊥)) ⊎ ((fault ≡ carry.NewDisk) × Rose new_before new_after)
