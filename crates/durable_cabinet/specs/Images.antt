-- What the images of a cabinet's disk come to when they are opened, and what a crash within a command may leave.
use Rattle.std.specs.Prelude.{ℕ, ◌≡◌, ◌≤◌, ◌+◌, ◌*◌, ◌⊎◌, List, [], ◌∷◌, ◌++◌, map, length, Option, IfSome, Some}
use Rattle.std.specs.List.{AllByRecursion}
use Rattle.std.specs.List.Sorted.{IsPermutation}
use Rattle.cabinet.specs.declared.kept.Kept.{Kept}
use Rattle.cabinet.specs.declared.kept.KeptBlob.{KeptBlob}
use Rattle.cabinet.specs.History.{but, spared, with_uses}
use Rattle.cabinet_records.specs.Replay.{AreRecordsOf, Replayed, Replays, book_after, unplayed}
use Rattle.cabinet.specs.State.{State, now}
use Rattle.cache_file.specs.File.{HasBlobAt, opens_to, unsure}
use Rattle.catalog.specs.declared.catalogue.Catalogue.{Catalogue}
use Rattle.disk_model.specs.Content.{Content, bytes_at}
use Rattle.disk_model.specs.Images.{DiskState, Leaves}
use Rattle.gate_journal.specs.declared.journal.Journal.{Journal}
use Rattle.gate_journal.specs.Layout.{journal_length}
use Rattle.gate_journal.specs.Opened.{opened, records}
use Rattle.metatile_plan.specs.declared.metatile.MetaKey.{MetaKey}
use Rattle.raster_field.specs.Blocks.{block_text}
use Rattle.record_text.specs.declared.entries.Record.{Record}
use Rattle.truncation_list.specs.declared.cover.Cover.{Cover}
use Rattle.truncation_list.specs.Books.{AnswersForBook}
use Rattle.durable_cabinet.specs.Missed.{HasMissed}

-- how many slots a half of the journal has
abbrev pub slots_for : Catalogue → ℕ
slots_for c = 2 * (c.kept_limit + c.cut_limit) + 64

-- where the blobs begin, in bytes
abbrev pub blobs_start : Catalogue → ℕ
blobs_start c = journal_length (slots_for c)

-- AN IMAGE opens under the catalogue, without a refusal, and its records come to this
pub record OpensTo (c : Catalogue) (image : Content) (r : Replayed) : Type 0 where
  pub version : ℕ
  pub bodies : List (List ℕ)
  pub entries : List (Option Record)
  pub opens : opened c.digest (slots_for c) image ≡ records version bodies
  pub are : AreRecordsOf version bodies entries
  pub replays : Replays c unplayed entries r
  pub few_cuts : length (book_after r).cuts ≤ c.cut_limit

-- THE FILE of a cabinet, where a content opens as one: its journal is whole, and each kept region ends within it
abbrev pub IsOurs : Catalogue → Content → Type 0
IsOurs c content = (r : Replayed) → OpensTo c content r → (blobs_start c ≤ length content) × AllByRecursion (λ t. blobs_start c + t.place + t.length ≤ length content) r.kept

-- the image has the blob in its region
abbrev pub HasIn : Catalogue → Content → KeptBlob → Type 0
HasIn c image b = HasBlobAt (blobs_start c + b.kept.place) b.text image

-- what is kept, with the bytes that a content has in its region
abbrev pub blob_on : Catalogue → Content → Kept → KeptBlob
blob_on c seen t = record { kept = t; text = bytes_at seen (blobs_start c + t.place) t.length }

-- what is kept, with the text of its block in the picture of its number
abbrev pub pictured : Catalogue → Kept → KeptBlob
pictured c t = record { kept = t; text = block_text c t.number t.meta }

-- A SOUND IMAGE: each metatile that it opens to has in its region the text of its block in the picture of its number
abbrev pub IsSoundImage : Catalogue → Content → Type 0
IsSoundImage c image = (r : Replayed) → OpensTo c image r → AllByRecursion (λ t. HasIn c image (pictured c t)) r.kept

-- An image opens to the opening of a cabinet and to what it keeps, each metatile under its number, with its region, moment and saved
-- uses, to a book that answers for the cabinet's book, has its blobs, and is the file of a cabinet.
pub record Restores (s : State) (image : Content) : Type 0 where
  pub replayed : Replayed
  pub opens : OpensTo s.catalogue image replayed
  pub opening : replayed.opening ≡ Some s.opening.number
  pub kept : IsPermutation replayed.kept (now s).kept
  pub answers : AnswersForBook (book_after replayed) (now s).book
  pub has : IfSome s.blobs (λ blobs. AllByRecursion (HasIn s.catalogue image) blobs)
  pub ours : IsOurs s.catalogue image

-- WHILE THE JOURNAL IS UNSETTLED

-- the kept list, or the one that one record more gives: a metatile is kept anew, or dropped, or what a cover hits is dropped, or uses are
-- told anew
abbrev pub IsOneRecordOn : Catalogue → List Kept → List Kept → Type 0
IsOneRecordOn c kept later =
    (later ≡ kept) ⊎ ((t : Kept) × (later ≡ but t.meta kept ++ t ∷ [])) ⊎ ((m : MetaKey) × (later ≡ but m kept)) ⊎ ((cover : Cover) × (later ≡ spared c cover kept)) ⊎ ((m : MetaKey) × (u : ℕ) × (later ≡ map (with_uses m u) kept))

-- what the record of a command that failed would have made of the cabinet, whose book answers for the cabinet's
pub record IsBeside (s u : State) : Type 0 where
  pub same_catalogue : u.catalogue ≡ s.catalogue
  pub same_opening : u.opening ≡ s.opening
  pub kept : IsOneRecordOn s.catalogue (now s).kept (now u).kept
  pub answers : AnswersForBook (now u).book (now s).book

-- an image has the undecided record of the last command, which the disk failed at: it opens to exactly what that command would have led to, with the
-- blobs of that, and each region of what is kept then holds in the image what a read of the disk gives there
pub record HasUndecided (s : State) (j : Journal) (disk : DiskState) (image : Content) : Type 0 where
  pub unsure_is : opens_to j image ≡ unsure j disk
  pub beside : State
  pub is_beside : IsBeside s beside
  pub missed : HasMissed s beside
  pub restores : Restores beside image
  pub has : AllByRecursion (λ t. HasIn s.catalogue image (blob_on s.catalogue disk.seen t)) (now beside).kept

-- the cabinet, or the undecided record of a command that failed before
abbrev pub IsLeft : State → Journal → DiskState → Content → Type 0
IsLeft s j disk image = Restores s image ⊎ HasUndecided s j disk image

-- WITHIN A COMMAND that leads to one of these states where it succeeds: at every moment each image opens to the cabinet from before the
-- command, or to the undecided record of one that failed before, or to the cabinet after it
abbrev pub Lasts : State → (State → Type 0) → Journal → DiskState → DiskState → Type 0
Lasts s Next j old new = Leaves old new (λ image. IsLeft s j old image ⊎ ((u : State) × Next u × Restores u image))
