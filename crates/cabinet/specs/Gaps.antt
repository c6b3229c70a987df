-- The regions of what is kept, and the gaps between them.
use Rattle.std.specs.Prelude.{ℕ, ◌+◌, ◌≤◌, nat_le, if◌then◌else◌, List, [], ◌∷◌, Option, Some, None, ⊤}
use Rattle.std.specs.List.{AllByRecursion}
use Rattle.catalog.specs.declared.catalogue.Catalogue.{Catalogue}
use Rattle.extent_map.specs.declared.part.Extent.{Extent}
use Rattle.extent_map.specs.Parts.{part_at, end_of, AreApart, inserted}
use Rattle.cabinet.specs.declared.kept.Kept.{Kept}

-- the bytes that the blob of a kept metatile takes
abbrev pub region : Kept → Extent
region t = part_at t.place t.length

-- the regions of what is kept, in order of place
abbrev pub regions : List Kept → List Extent
regions [] = []
regions (t ∷ ts) = inserted (part_at t.place t.length) (regions ts)

-- no byte lies in the regions of two of them
abbrev pub AreDisjoint : List Kept → Type 0
AreDisjoint [] = ⊤
AreDisjoint (t ∷ ts) = AllByRecursion (λ u. AreApart (region t) (region u)) ts × AreDisjoint ts

-- each has a region of at least one byte that ends within so many, and no byte lies in two of the regions
pub record HaveRegions (bytes : ℕ) (kept : List Kept) : Type 0 where
  pub some : AllByRecursion (λ t. 1 ≤ t.length) kept
  pub within : AllByRecursion (λ t. t.place + t.length ≤ bytes) kept
  pub disjoint : AreDisjoint kept

-- the start of the lowest gap of so many bytes, from a place on, between parts in order of place and within a size
abbrev pub lowest_gap : ℕ → List Extent → ℕ → ℕ → Option ℕ
lowest_gap from [] size bytes = if nat_le (from + bytes) size then Some from else None
lowest_gap from (p ∷ ps) size bytes = if nat_le (from + bytes) p.place then Some from else lowest_gap (end_of p) ps size bytes

-- the lowest gap of the blobs' bytes for so many more
abbrev pub gap_for : Catalogue → List Kept → ℕ → Option ℕ
gap_for c kept bytes = lowest_gap 0 (regions kept) c.blob_bytes bytes
