-- What the words of a look write.
use Rattle.std.specs.Prelude.{ℕ, ◌==◌, Bool, true, if◌then◌else◌, List, [], ◌++◌, codes, decimal, length, flat_map, sum_by, Option, Some, None}
use Rattle.cabinet.specs.declared.kept.Kept.{Kept}
use Rattle.cabinet_records.specs.Replay.{Replayed, book_after}
use Rattle.catalog.specs.declared.catalogue.Catalogue.{Catalogue}
use Rattle.job_sizes.specs.declared.sizes.JobSize.{JobSize}
use Rattle.kept_lines.specs.Lines.{line_of}
use Rattle.truncation_list.specs.declared.book.Book.{Book}

-- CHECK

-- the bytes of what is kept
abbrev pub kept_bytes : List Kept → ℕ
kept_bytes kept = sum_by (λ t. t.length) kept

unfoldable pub files_text : ℕ → ℕ → ℕ → List ℕ
files_text layers grids document =
    codes "catalogue ok: " ++ decimal layers ++ codes " layers, " ++ decimal grids ++ codes " grids\ncapabilities ok: " ++ decimal document ++ codes " bytes\n"

unfoldable pub cache_text : ℕ → ℕ → ℕ → List ℕ
cache_text metatiles bytes cuts = codes "cache ok: " ++ decimal metatiles ++ codes " metatiles, " ++ decimal bytes ++ codes " bytes, " ++ decimal cuts ++ codes " truncations in force\n"

-- a line for each thing that was looked at: the catalogue, the capabilities document, and the cache that holds this
abbrev pub looked_text : Catalogue → List ℕ → List Kept → Book → List ℕ
looked_text c document kept book = files_text (length c.layers) (length c.grids) (length document) ++ cache_text (length kept) (kept_bytes kept) (length book.cuts)

-- the same of a cache whose records come to this
abbrev pub check_text : Catalogue → List ℕ → Replayed → List ℕ
check_text c document r = looked_text c document r.kept (book_after r)

-- LIST

-- it is of this layer, where one is asked for
abbrev pub is_listed : Option ℕ → Kept → Bool
is_listed None t = true
is_listed (Some layer) t = t.meta.theme.layer == layer

-- its line, where it is asked for
abbrev pub listed_line : Catalogue → Option ℕ → Kept → List ℕ
listed_line c layer t = if is_listed layer t then line_of c t else []

-- a line for each metatile that is kept, in the order of their records
abbrev pub list_text : Catalogue → Option ℕ → List Kept → List ℕ
list_text c layer kept = flat_map (listed_line c layer) kept

-- DRY RUN

-- how many places a job has, and the bytes of their blobs
unfoldable pub size_text : JobSize → List ℕ
size_text size = codes "places " ++ decimal size.places ++ codes " bytes " ++ decimal size.bytes ++ codes "\n"
