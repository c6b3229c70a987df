-- Numbers of renders and of truncations, beside the book that a turn found.
use Rattle.std.specs.Prelude.{ℕ, ◌<◌, IsTrue}
use Rattle.std.specs.List.{AllByRecursion}
use Rattle.cabinet.specs.Hits.{covers_in}
use Rattle.catalog.specs.declared.catalogue.Catalogue.{Catalogue}
use Rattle.matrix_geometry.specs.declared.address.Address.{Address}
use Rattle.truncation_list.specs.declared.book.Book.{Book}

-- the number is above the floor, and above each listed truncation
pub record IsAboveAll (book : Book) (k : ℕ) : Type 0 where
  pub floor : book.floor < k
  pub cuts : AllByRecursion (λ cut. cut.number < k) book.cuts

-- the number is above the floor, and above each listed truncation that covers the tile
pub record IsAboveCovering (c : Catalogue) (book : Book) (a : Address) (k : ℕ) : Type 0 where
  pub floor : book.floor < k
  pub cuts : AllByRecursion (λ cut. IsTrue (covers_in c cut.cover a) → cut.number < k) book.cuts
