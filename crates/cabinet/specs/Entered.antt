-- What a shelf has on which is entered what a cabinet is opened with, one after the other.
use Rattle.std.specs.Prelude.{ℕ, ◌≡◌, ◌<◌, ◌≤◌, if◌then◌else◌, List, [], ◌∷◌, ◌++◌, length, map, find, Some, None}
use Rattle.std.specs.List.{AllByRecursion}
use Rattle.std.specs.Option.{option_map}
use Rattle.catalog.specs.declared.catalogue.Catalogue.{Catalogue}
use Rattle.expiry_policy.specs.Victims.{one_more}
use Rattle.extent_map.specs.Spaces.{IsFree}
use Rattle.metatile_plan.specs.declared.metatile.MetaKey.{MetaKey}
use Rattle.metatile_plan.specs.Keys.{same_meta}
use Rattle.raster_field.specs.Blocks.{IsMeta}
use Rattle.cabinet.specs.declared.kept.Kept.{Kept}
use Rattle.cabinet.specs.declared.kept.KeptBlob.{KeptBlob}
use Rattle.cabinet.specs.Counted.{clock, use_of}
use Rattle.cabinet.specs.Fresh.{ApartBy, IsOfLength}
use Rattle.cabinet.specs.Gaps.{HaveRegions, region, regions}
use Rattle.cabinet.specs.History.{is_of, stored_entry}
use Rattle.cabinet.specs.Shelved.{LeavesShelf, Shelved, UsesByKey, listed, use_on}
use Rattle.cabinet.specs.Started.{away}

-- ONE IS ENTERED

-- the uses where one is entered at this count: its own, all saved
abbrev pub with_entered : Kept → ℕ → UsesByKey → UsesByKey
with_entered t count uses n = if same_meta n t.meta then Some (record { meta = t.meta; uses = t.uses; saved = t.uses; last = count }) else uses n

-- one is kept behind the others, with a blob that lies elsewhere
abbrev pub Enters : Kept → Shelved → Shelved → Type 0
Enters t s new = LeavesShelf s (s.blobs ++ away t ∷ []) (one_more s.clock) (with_entered t (one_more s.clock) (use_on s)) new

-- it is of the catalogue, its region has its blob's length and is free, none is kept of its metatile, and fewer are kept than may be
pub record CanEnter (c : Catalogue) (blobs : List KeptBlob) (t : Kept) : Type 0 where
  pub meta : IsMeta c t.meta
  pub size : IsOfLength c t
  pub some : 1 ≤ t.length
  pub free : IsFree (regions (listed blobs)) c.blob_bytes (region t)
  pub new : find (is_of t.meta) (listed blobs) ≡ None
  pub few : length blobs < c.kept_limit

-- ALL ARE ENTERED

-- each is of the catalogue and once there, in a region of its own of its blob's length, and they are no more than may be kept
pub record CanBeEntered (c : Catalogue) (kept : List Kept) : Type 0 where
  pub once : ApartBy (λ t. t.meta) kept
  pub metas : AllByRecursion (λ t. IsMeta c t.meta) kept
  pub regions : HaveRegions c.blob_bytes kept
  pub lengths : AllByRecursion (IsOfLength c) kept
  pub few : length kept ≤ c.kept_limit

-- the shelf has them, in their order and with blobs that lie elsewhere, and it counts as if each had just been stored
pub record AreEntered (c : Catalogue) (kept : List Kept) (s : Shelved) : Type 0 where
  pub catalogue : s.catalogue ≡ c
  pub blobs : s.blobs ≡ map away kept
  pub clock : s.clock ≡ clock (map stored_entry kept)
  pub uses : (m : MetaKey) → use_on s m ≡ option_map (λ t. use_of (map stored_entry kept) m) (find (is_of m) kept)
