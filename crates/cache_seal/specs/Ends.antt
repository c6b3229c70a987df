-- How a seal of a cache ends.
use Rattle.std.specs.Prelude.{ℕ, ◌≡◌, ◌⊎◌, ◌+◌, ◌^◌, ◌≤◌, Bool, IsTrue, List, length, ⊤}
use Rattle.std.specs.List.{AllByRecursion}
use Rattle.base.specs.Causes.{Rose}
use Rattle.cabinet.specs.declared.kept.Kept.{Kept}
use Rattle.cabinet.specs.Gaps.{AreDisjoint}
use Rattle.cabinet_records.specs.Replay.{Replayed}
use Rattle.catalog.specs.declared.catalogue.Catalogue.{Catalogue}
use Rattle.disk_model.specs.Content.{Content}
use Rattle.durable_cabinet.specs.Filed.{IsRefusedAs}
use Rattle.durable_cabinet.specs.Images.{OpensTo, blobs_start}
use Rattle.raster_field.specs.Blocks.{IsMeta}
use Rattle.cache_seal.specs.declared.counting.SealTally.{SealTally}
use Rattle.cache_seal.specs.declared.fault.SealFault.{SealFault}
use Rattle.cache_seal.specs.declared.fault.SealFault.TheVariants as seal
use Rattle.cache_seal.specs.Fates.{AddsUp, no_tally}
use Rattle.cache_seal.specs.OfCache.{kept_tiles}
use Rattle.cache_seal.specs.Seals.{HasSealed}

-- what records are restored to: metatiles of the catalogue, each in a region of its own, and no more than may be
pub record IsKeptSo (c : Catalogue) (kept : List Kept) : Type 0 where
  pub metas : AllByRecursion (λ t. IsMeta c t.meta) kept
  pub disjoint : AreDisjoint kept
  pub within : AllByRecursion (λ t. t.place + t.length ≤ 2 ^ 60) kept
  pub few : length kept ≤ 1048576

-- THE CACHE IS SEALED: the records of its disk come to this, and the sums of all tiles of what it keeps were looked after, with the bytes that
-- its disk gives; each is counted
pub record IsSealed (disk_told sums_told : Bool) (c : Catalogue) (grain : ℕ) (anew : Bool) (seen old new : Content) (tally : SealTally) : Type 0 where
  pub replayed : Replayed
  pub opens : IsTrue disk_told → OpensTo c seen replayed
  pub sealed : HasSealed disk_told sums_told grain anew seen (kept_tiles (blobs_start c) c replayed.kept) old new no_tally tally
  pub tiles : tally.tiles ≡ length (kept_tiles (blobs_start c) c replayed.kept)
  pub sum : AddsUp tally

-- why it isn't, once its records were read: memory ran out, or the sums failed
abbrev pub IsLateFault : ℕ → ℕ → SealFault → Type 0
IsLateFault before after fault = (fault ≡ seal.OutOfMemory) ⊎ ((fault ≡ seal.Sums) × Rose before after)

-- WHY IT ISN'T: its disk is refused as an opening refuses it, and then the sums stay; a sum wasn't written, which is only where the count of
-- faults of the sums rose; or memory ran out
abbrev pub IsSealFault : Bool → Catalogue → Content → ℕ → ℕ → ℕ → ℕ → Type 0 → SealFault → Type 0
IsSealFault told c seen before after sums_before sums_after Stay (seal.Cache fault) = IsRefusedAs told c seen before after fault × Stay
IsSealFault told c seen before after sums_before sums_after Stay seal.Sums = Rose sums_before sums_after
IsSealFault told c seen before after sums_before sums_after Stay seal.OutOfMemory = ⊤
