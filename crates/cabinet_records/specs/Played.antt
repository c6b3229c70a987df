-- What a replay holds while records are played, and what each record comes to there.
use Rattle.std.specs.Prelude.{ℕ, if◌then◌else◌, ◌==◌, ◌↔◌, ◌≡◌, ◌≢◌, ◌+◌, ◌<◌, ◌≤◌, List, length, Bool, true, false, IsTrue, IfSome, IfNone, Option, Some, None, Result, IfOk, OnErr, vec_capacity}
use Rattle.std.specs.List.{AllByRecursion}
use Rattle.std.specs.declared.alloc.AllocError.{AllocError}
use Rattle.catalog.specs.declared.catalogue.Catalogue.{Catalogue}
use Rattle.extent_map.specs.declared.part.Extent.{Extent}
use Rattle.extent_map.specs.Spaces.{IsFree, IsSound, IsTaken, Space}
use Rattle.indexmap.specs.IndexMap.{spare}
use Rattle.matrix_geometry.specs.declared.matrix.Matrix.{Matrix}
use Rattle.raster_field.specs.Blocks.{IsMeta, blob_size}
use Rattle.record_text.specs.declared.entries.Record.{Record}
use Rattle.truncation_list.specs.declared.block.Block.{Block}
use Rattle.truncation_list.specs.declared.book.Cut.{Cut}
use Rattle.truncation_list.specs.Covers.{hits}
use Rattle.cabinet.specs.declared.kept.Kept.{Kept}
use Rattle.cabinet_records.specs.declared.replay.progress.ReplayProgress.{ReplayProgress}
use Rattle.cabinet.specs.Fresh.{IsNewer}
use Rattle.cabinet.specs.Gaps.{region}
use Rattle.cabinet.specs.History.{but}
use Rattle.cabinet_records.specs.Placed.{AreTied, place_in}
use Rattle.cabinet_records.specs.Replay.{MayFollow, Replayed, Replays, opening_number, opening_of, replayed, unplayed}
use Rattle.cabinet.specs.Shelved.{listed}

-- what the records came to
abbrev pub replayed_of : ReplayProgress → Replayed
replayed_of p = record { opening = p.opening; floor = p.floor; kept = listed p.store.blobs; cuts = p.cuts.book.cuts }

abbrev pub AreTiedIn : ℕ → ReplayProgress → Type 0
AreTiedIn next p = AreTied next (listed p.store.blobs) p.regions (place_in p.places.entries)

-- what is held is what some records come to; the next one has this place among all records. There is room to list what is kept
pub record IsPlayed (c : Catalogue) (next : ℕ) (p : ReplayProgress) : Type 0 where
  pub reached : (records : List (Option Record)) × Replays c unplayed records (replayed_of p)
  pub tied : AreTiedIn next p
  pub size : p.regions.size ≡ c.blob_bytes
  pub floor : p.cuts.book.floor ≡ 0
  pub none : length p.out.items ≡ 0
  pub room : length p.store.blobs ≤ vec_capacity p.out

-- the number is above each of the cuts that hits the block
abbrev pub IsNewerThan : List Cut → Matrix → Block → ℕ → Type 0
IsNewerThan cuts m b number = AllByRecursion (λ k. IsTrue (hits k.cover m b) → k.number < number) cuts

-- what may be stored but for its region
pub record MayKeep (c : Catalogue) (r : Replayed) (t : Kept) : Type 0 where
  pub meta : IsMeta c t.meta
  pub size : t.length ≡ blob_size c t.meta
  pub given : opening_of t.number ≤ opening_number r
  pub above_floor : r.floor < t.number
  pub own : AllByRecursion (λ u. t.number ≢ u.number) (but t.meta r.kept)
  pub newer : IsNewer c r.cuts t.number t.meta
  pub few : length (but t.meta r.kept) < c.kept_limit

-- all is as before, and there is no less room
pub record LeavesAll (old new : ReplayProgress) : Type 0 where
  pub opening : new.opening ≡ old.opening
  pub floor : new.floor ≡ old.floor
  pub blobs : new.store.blobs ≡ old.store.blobs
  pub parts : new.regions.parts ≡ old.regions.parts
  pub size : new.regions.size ≡ old.regions.size
  pub order : IsSound new.regions
  pub places : new.places.entries ≡ old.places.entries
  pub cuts : new.cuts.book ≡ old.cuts.book
  pub out : length new.out.items ≡ length old.out.items
  pub room : vec_capacity old.out ≤ vec_capacity new.out

-- one more can be kept with no memory taken
pub record HasRoom (p : ReplayProgress) : Type 0 where
  pub store : 1 ≤ p.store.spare
  pub regions : 1 ≤ p.regions.spare
  pub places : 0 < spare p.places
  pub out : length p.store.blobs < vec_capacity p.out

-- the region of what was kept before, if anything was, was given back, and the part was taken where it was free then
pub record ClaimsRegion (old : Space) (older : Option Kept) (p : Extent) (is : Bool) (new : Space) : Type 0 where
  pub given : Space
  pub back : IfSome older (λ t. IsTaken given (region t) old)
  pub left : IfNone older (given ≡ old)
  pub sound : IsSound given
  pub free : (is ≡ true) ↔ IsFree given.parts given.size p
  pub taken : is ≡ true → IsTaken given p new
  pub order : IsSound new

-- the places of numbers without that of what was kept before
abbrev pub places_but : Option Kept → (ℕ → Option ℕ) → ℕ → Option ℕ
places_but None places n = places n
places_but (Some t) places n = if t.number == n then None else places n

-- the record was played, or no cache has it here
abbrev pub Plays : Catalogue → ℕ → ReplayProgress → Record → Bool → ReplayProgress → Type 0
Plays c next old x true new = MayFollow c (replayed_of old) x × (replayed_of new ≡ replayed c (replayed_of old) x) × IsPlayed c (next + 1) new
Plays c next old x false new = MayFollow c (replayed_of old) x → ⊥

-- or memory ran out, and what is held is as before
pub record PlaysOrLacks (c : Catalogue) (next : ℕ) (old : ReplayProgress) (x : Record) (result : Result Bool AllocError) (new : ReplayProgress) : Type 0 where
  pub played : IfOk result (λ is. Plays c next old x is new)
  pub same : OnErr result (replayed_of new ≡ replayed_of old)
  pub kept : OnErr result (IsPlayed c next new)
