-- What is seen of the disk of a cache that isn't opened.
use Rattle.std.specs.Prelude.{ℕ, ◌≡◌, ◌≤◌, Bool, IsTrue, List, length, Option}
use Rattle.std.specs.List.{AllByRecursion}
use Rattle.cabinet.specs.declared.kept.Kept.{Kept}
use Rattle.cabinet_records.specs.Replay.{Replayed, book_after}
use Rattle.catalog.specs.declared.catalogue.Catalogue.{Catalogue}
use Rattle.disk_model.specs.Content.{Content, Same}
use Rattle.disk_model.specs.Images.{ChangesBy}
use Rattle.durable_cabinet.specs.Images.{OpensTo}
use Rattle.opened_cache.specs.Change.{DiskChange}
use Rattle.raster_field.specs.Blocks.{IsMeta}
use Rattle.truncation_list.specs.declared.book.Book.{Book}

-- Records are restored to this: the number of their last opening, what is kept, each metatile one of the catalogue and no more than may be, and the
-- cuts in force. Where the disk is modelled its content opens to these records.
pub record HoldsSo (told : Bool) (c : Catalogue) (seen : Content) (opening : Option ℕ) (kept : List Kept) (book : Book) : Type 0 where
  pub replayed : Replayed
  pub opening_is : opening ≡ replayed.opening
  pub kept_is : kept ≡ replayed.kept
  pub book_is : book ≡ book_after replayed
  pub metas : AllByRecursion (λ t. IsMeta c t.meta) kept
  pub few : length kept ≤ c.kept_limit
  pub opens : IsTrue told → OpensTo c seen replayed

-- nothing of the disk was changed: a read gives what it gave, and at each moment of the word a crash leaves what it might have left before
abbrev pub IsUnchanged : DiskChange → Type 0
IsUnchanged d = IsTrue d.told → ChangesBy Same d.from d.to
