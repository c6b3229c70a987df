-- What an image of the file of an outbox says, and what holds of each outbox.
use Rattle.std.specs.Prelude.{◌≡◌, ◌≢◌, ◌⊎◌, ℕ, ◌+◌, ◌≤◌, Bool, IsTrue, List, [], ◌∷◌, ◌++◌, length, Some, None, IfSome, ⊤}
use Rattle.std.specs.List.{AllByRecursion}
use Rattle.cache_file.specs.File.{held, unsure}
use Rattle.catalog.specs.declared.catalogue.Catalogue.{Catalogue}
use Rattle.catalog.specs.Valid.{IsValid}
use Rattle.base.specs.Causes.{Rose}
use Rattle.disk_model.specs.Content.{Content}
use Rattle.disk_model.specs.Images.{DiskState}
use Rattle.gate_journal.specs.declared.fault.OpenFault.{OpenFault}
use Rattle.gate_journal.specs.declared.fault.OpenFault.TheVariants as fault
use Rattle.gate_journal.specs.declared.journal.Journal.{Journal}
use Rattle.gate_journal.specs.Layout.{journal_length}
use Rattle.gate_journal.specs.Opened.{Opening, opened, no_cache, differs, records}
use Rattle.gate_journal.specs.Sound.{IsSettled, IsSound, digest_of, room_of, slots_of}
use Rattle.record_text.specs.declared.entries.Record.TheVariants as record_of
use Rattle.record_text.specs.Fits.{FitsCover}
use Rattle.record_text.specs.Spelling.{spelling}
use Rattle.served_covers.specs.OfCatalogue.{IsCoverOf}
use Rattle.truncation_list.specs.declared.cover.Cover.{Cover}
use Rattle.outbox.specs.Posts.{Outgoing, post_slots}

-- POSTS AS RECORDS

-- a cover is of the catalogue, and its numbers fit their fields
pub record IsPostable (c : Catalogue) (cover : Cover) : Type 0 where
  pub served : IsCoverOf c cover
  pub fits : FitsCover cover

-- the body of the record of a change
unfoldable pub post_body : ℕ → Cover → List ℕ
post_body n cover = spelling (record_of.Cut n cover)

-- the bodies of changes that follow the one of this number
abbrev pub bodies_from : ℕ → List Cover → List (List ℕ)
bodies_from n [] = []
bodies_from n (cover ∷ covers) = post_body (n + 1) cover ∷ bodies_from (n + 1) covers

-- the bodies of posts, of which the first is the change 1
abbrev pub bodies_of : List Cover → List (List ℕ)
bodies_of posts = bodies_from 0 posts

-- bodies are those of these posts, whose covers are of the catalogue
pub record ArePosts (c : Catalogue) (bodies : List (List ℕ)) (posts : List Cover) : Type 0 where
  pub bodies_are : bodies ≡ bodies_of posts
  pub postable : AllByRecursion (IsPostable c) posts

-- behind the bodies of posts stands one, in this slot, that is no next post's
pub record IsBadBehind (c : Catalogue) (bodies : List (List ℕ)) (slot : ℕ) : Type 0 where
  pub posts : List Cover
  pub postable : AllByRecursion (IsPostable c) posts
  pub bad : List ℕ
  pub others : List (List ℕ)
  pub bodies_are : bodies ≡ bodies_of posts ++ bad ∷ others
  pub slot_is : slot ≡ length posts
  pub is_bad : (cover : Cover) → IsPostable c cover → bad ≢ post_body (slot + 1) cover

-- a file opens to the records of these posts, and to no others
abbrev pub Holds : Catalogue → List Cover → Opening → Type 0
Holds c posts no_cache = ⊥
Holds c posts (differs found) = ⊥
Holds c posts (records version bodies) = ArePosts c bodies posts

-- a file opens to records, of which the one in this slot is the first that is no post's
abbrev pub IsBadIn : Catalogue → ℕ → Opening → Type 0
IsBadIn c slot no_cache = ⊥
IsBadIn c slot (differs found) = ⊥
IsBadIn c slot (records version bodies) = IsBadBehind c bodies slot

-- IMAGES

-- an image opens to these posts under the digest of the catalogue, and has the journal whole
pub record OpensToPosts (c : Catalogue) (image : Content) (posts : List Cover) : Type 0 where
  pub opens : Holds c posts (opened c.digest post_slots image)
  pub whole : journal_length post_slots ≤ length image

-- an image opens to the posts, or to these and the one that a call may have left that failed
abbrev pub MayOpenTo : Catalogue → Outgoing → Content → Type 0
MayOpenTo c s image = OpensToPosts c image s.posts ⊎ ((cover : Cover) × (s.undecided ≡ Some cover) × OpensToPosts c image (s.posts ++ cover ∷ []))

-- where a content opens to posts it has their journal whole: it is what `make` and outboxes left
abbrev pub IsOutboxFile : Catalogue → Content → Type 0
IsOutboxFile c image = (posts : List Cover) → Holds c posts (opened c.digest post_slots image) → journal_length post_slots ≤ length image

-- what is refused of a content, and a fault of the disk only where its count of faults rose
abbrev pub IsRefusedAs : Bool → Catalogue → Content → ℕ → ℕ → OpenFault → Type 0
IsRefusedAs told c seen before after fault.NotACache = IsTrue told → opened c.digest post_slots seen ≡ no_cache
IsRefusedAs told c seen before after (fault.CatalogueDiffers found asked) = (asked ≡ c.digest) × (IsTrue told → opened c.digest post_slots seen ≡ differs found)
IsRefusedAs told c seen before after (fault.BadRecord slot) = IsTrue told → IsBadIn c slot (opened c.digest post_slots seen)
IsRefusedAs told c seen before after fault.Spent = ⊥
IsRefusedAs told c seen before after fault.DiskFault = Rose before after
IsRefusedAs told c seen before after fault.OutOfMemory = ⊤

-- THE TIE

-- what the file holds are the posts, and what is unsure of it these, or these and the undecided one
pub record IsPostedOn (c : Catalogue) (s : Outgoing) (j : Journal) (disk : DiskState) : Type 0 where
  pub sound : IsSound j disk
  pub holds : Holds c s.posts (held j disk)
  pub wavers : Holds c s.posts (unsure j disk) ⊎ ((cover : Cover) × (s.undecided ≡ Some cover) × Holds c (s.posts ++ cover ∷ []) (unsure j disk))

-- what holds of each outbox
pub record IsPosted (told : Bool) (c : Catalogue) (s : Outgoing) (j : Journal) (disk : DiskState) : Type 0 where
  pub valid : IsValid c
  pub same_slots : slots_of j ≡ post_slots
  pub same_digest : digest_of j ≡ c.digest
  pub fills : room_of j + length s.posts ≡ post_slots
  pub postable : AllByRecursion (IsPostable c) s.posts
  pub undecided : IfSome s.undecided (IsPostable c)
  pub heard : s.heard ≤ length s.posts
  pub sure : IsSettled j → s.undecided ≡ None
  pub on_disk : IsTrue told → IsPostedOn c s j disk
