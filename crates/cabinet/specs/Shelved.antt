-- What contracts see of a shelf, what its calls leave, and how its parts are tied together.
use Rattle.std.specs.Prelude.{ℕ, ◌≡◌, ◌<◌, ◌≤◌, if◌then◌else◌, List, [], length, map, find, Option, Some, None, is_some, slice_get}
use Rattle.std.specs.List.{AllByRecursion}
use Rattle.std.specs.Option.{option_and_then, option_map, option_map_or}
use Rattle.catalog.specs.declared.catalogue.Catalogue.{Catalogue}
use Rattle.catalog.specs.declared.catalogue.Scope.{Scope}
use Rattle.catalog.specs.Valid.{IsValid}
use Rattle.expiry_policy.specs.declared.uses.Use.{Use}
use Rattle.expiry_policy.specs.Victims.{Counts, IsUnsaved, IsVictim, one_more, use_of}
use Rattle.expiry_policy.specs.Victims as victims
use Rattle.extent_map.specs.Spaces.{Space, IsSound}
use Rattle.kept_areas.specs.declared.spot.KeptSpot.{KeptSpot}
use Rattle.matrix_geometry.specs.declared.address.Address.{Address}
use Rattle.metatile_locks.specs.Tickets.{Ticketed}
use Rattle.metatile_plan.specs.declared.metatile.MetaKey.{MetaKey}
use Rattle.metatile_plan.specs.Keys.{same_meta}
use Rattle.quota_ledger.specs.Accounts.{Accounts, accounts, exceeded, removed, used_at}
use Rattle.quota_ledger.specs.Accounts as ledger
use Rattle.raster_field.specs.Blocks.{blob_size, block_of, block_text, tile_part}
use Rattle.raster_field.specs.TileText.{tile_text}
use Rattle.truncation_list.specs.declared.cover.Cover.{Cover}
use Rattle.cabinet.specs.declared.judged.Judged.{Judged}
use Rattle.cabinet.specs.declared.judged.Judged.TheVariants as judged
use Rattle.cabinet.specs.declared.judged.Unsaved.{Unsaved}
use Rattle.cabinet.specs.declared.kept.Kept.{Kept}
use Rattle.cabinet.specs.declared.kept.KeptBlob.{KeptBlob}
use Rattle.cabinet.specs.declared.shelving.FoundTile.{FoundTile}
use Rattle.cabinet.specs.Fresh.{ApartBy}
use Rattle.cabinet.specs.Gaps.{gap_for, regions}
use Rattle.cabinet.specs.History.{but, is_of}
use Rattle.cabinet.specs.Hits.{hits_of}
use Rattle.cabinet.specs.Counted.{part_of}
use Rattle.cabinet.specs.State.{IsLong, blobs_counted, blobs_spared, blobs_with, blobs_without}

-- what is kept, in the order in which it was kept and in an order of which nothing is said, its keys by chunks, in which those that a cover
-- hits are looked for, and how many more there is room for
pub record Stored : Type 0 where
  pub blobs : List KeptBlob
  pub held : List KeptBlob
  pub chunks : List (List KeptSpot)
  pub spare : ℕ

-- the catalogue, what is kept with its blobs, the uses of each layer, in an order of which nothing is said, the count of entries
-- that kept or used, and how many more there is room for
pub record Shelved : Type 0 where
  pub catalogue : Catalogue
  pub blobs : List KeptBlob
  pub uses : List (List Use)
  pub clock : ℕ
  pub room : ℕ

-- how each metatile was used, none where none is kept of it
abbrev pub UsesByKey : Type 0
UsesByKey = MetaKey → Option Use

abbrev pub use_on : Shelved → UsesByKey
use_on s m = option_and_then (find (victims.is_of m)) (slice_get s.uses m.theme.layer)

-- what is kept, without the blobs
abbrev pub listed : List KeptBlob → List Kept
listed blobs = map (λ b. b.kept) blobs

-- THE PARTS OF A SHELF

-- the accounts are those of what is kept, it has uses and nothing else has, and its regions are the taken ones, in order; each metatile is kept once, is of a layer
-- of the catalogue, with a blob of its metatile's length, and no more are kept than may be
pub record IsShelved (c : Catalogue) (blobs : List KeptBlob) (space : Space) (ledger : Accounts) (counts : Counts) : Type 0 where
  pub valid : IsValid c
  pub once : ApartBy (λ t. t.meta) (listed blobs)
  pub within : AllByRecursion (λ t. t.meta.theme.layer < length c.layers) (listed blobs)
  pub lengths : AllByRecursion (IsLong c) blobs
  pub few : length blobs ≤ c.kept_limit
  pub parts : space.parts ≡ regions (listed blobs)
  pub size : space.size ≡ c.blob_bytes
  pub order : IsSound space
  pub bytes : ledger ≡ accounts c (map part_of (listed blobs))
  pub policy : counts.policy ≡ c.policy
  pub layers : counts.layers ≡ length c.layers
  pub keys : (m : MetaKey) → is_some (use_of counts m) ≡ is_some (find (is_of m) (listed blobs))

-- the bytes of a kept metatile are among those that the accounts count
abbrev pub IsCountedIn : Accounts → Kept → Type 0
IsCountedIn a t = (t.meta.theme.layer < length a.layers) × (t.length ≤ used_at a t.meta.theme.layer)

-- the accounts without the bytes of what was kept, where anything was
abbrev pub without : Option Kept → Accounts → Accounts
without older a = option_map_or (λ t. removed t.meta.theme.layer t.length a) older a

-- WHAT BECOMES OF USES at this count: a metatile is kept anew, used or forgotten, its uses are saved, or those are forgotten that a
-- cover hits

abbrev pub with_kept : MetaKey → ℕ → UsesByKey → UsesByKey
with_kept m count uses n = if same_meta n m then Some (record { meta = m; uses = 0; saved = 0; last = count }) else uses n

abbrev pub with_used : MetaKey → ℕ → UsesByKey → UsesByKey
with_used m count uses n = if same_meta n m then option_map (victims.used_at count) (uses n) else uses n

abbrev pub with_saved : MetaKey → UsesByKey → UsesByKey
with_saved m uses n = if same_meta n m then option_map victims.all_saved (uses n) else uses n

abbrev pub with_forgotten : MetaKey → UsesByKey → UsesByKey
with_forgotten m uses n = if same_meta n m then None else uses n

abbrev pub with_spared : Catalogue → Cover → UsesByKey → UsesByKey
with_spared c cover uses n = if hits_of c cover n then None else uses n

-- a call left the policy and the layers as they were, so many entries and uses counted, and these uses
pub record LeavesUses (old : Counts) (count : ℕ) (by_key : UsesByKey) (new : Counts) : Type 0 where
  pub policy : new.policy ≡ old.policy
  pub layers : new.layers ≡ old.layers
  pub now : new.now ≡ count
  pub uses : (m : MetaKey) → use_of new m ≡ by_key m

-- WHAT IS READ

-- the number, the moment and the tile's part of the blob that is kept of the tile's metatile, which is the encoded tile where the blob is the
-- metatile's; or nothing is kept of it
abbrev pub Reads : Catalogue → List KeptBlob → Address → Option FoundTile → Type 0
Reads c blobs a None = find (λ b. is_of (block_of c a) b.kept) blobs ≡ None
Reads c blobs a (Some f) =
    (b : KeptBlob) × (find (λ b. is_of (block_of c a) b.kept) blobs ≡ Some b) × (f.number ≡ b.kept.number) × (f.moment ≡ b.kept.moment) × (f.text ≡ tile_part c a b.text)
    × ((k : ℕ) → b.text ≡ block_text c k (block_of c a) → f.text ≡ tile_text c k a)

-- WHAT CALLS LEAVE

-- a shelf of the catalogue on which nothing is kept
pub record IsBare (c : Catalogue) (s : Shelved) : Type 0 where
  pub catalogue : s.catalogue ≡ c
  pub blobs : s.blobs ≡ []
  pub clock : s.clock ≡ 0
  pub uses : (m : MetaKey) → use_on s m ≡ None

-- the shelf after it has the catalogue, these blobs, so many entries counted that kept or used, and these uses
pub record LeavesShelf (s : Shelved) (blobs_then : List KeptBlob) (count : ℕ) (by_key : UsesByKey) (new : Shelved) : Type 0 where
  pub catalogue : new.catalogue ≡ s.catalogue
  pub blobs : new.blobs ≡ blobs_then
  pub clock : new.clock ≡ count
  pub uses : (m : MetaKey) → use_on new m ≡ by_key m

-- all but its room is as before
abbrev pub IsAlike : Shelved → Shelved → Type 0
IsAlike s new = LeavesShelf s s.blobs s.clock (use_on s) new

-- a metatile is used
abbrev pub Touches : MetaKey → Shelved → Shelved → Type 0
Touches m s new = LeavesShelf s s.blobs (one_more s.clock) (with_used m (one_more s.clock) (use_on s)) new

-- a blob is kept, in the place of its metatile's older one
abbrev pub Keeps : Kept → List ℕ → Shelved → Shelved → Type 0
Keeps t text s new = LeavesShelf s (blobs_with t text s.blobs) (one_more s.clock) (with_kept t.meta (one_more s.clock) (use_on s)) new

-- what a cover hits is dropped
abbrev pub Sifts : Cover → Shelved → Shelved → Type 0
Sifts cover s new = LeavesShelf s (blobs_spared s.catalogue cover s.blobs) s.clock (with_spared s.catalogue cover (use_on s)) new

-- one metatile is dropped
abbrev pub Forgets : MetaKey → Shelved → Shelved → Type 0
Forgets m s new = LeavesShelf s (blobs_without m s.blobs) s.clock (with_forgotten m (use_on s)) new

-- all uses of one metatile are saved, and they are so many
abbrev pub Marks : MetaKey → ℕ → Shelved → Shelved → Type 0
Marks m u s new = LeavesShelf s (blobs_counted m u s.blobs) s.clock (with_saved m (use_on s)) new

-- what is to come of a ticket's render that was begun at this moment and was not overtaken: as many others are kept as may be, or no gap
-- has room for its blob, or it fits
abbrev pub JudgesOn : Shelved → Ticketed → ℕ → Judged → Type 0
JudgesOn s t n judged.Stranger = ⊥
JudgesOn s t n (judged.Overtaken cut) = ⊥
JudgesOn s t n judged.Full = s.catalogue.kept_limit ≤ length (but t.meta (listed s.blobs))
JudgesOn s t n judged.NoRoom = (length (but t.meta (listed s.blobs)) < s.catalogue.kept_limit) × (gap_for s.catalogue (listed s.blobs) (blob_size s.catalogue t.meta) ≡ None)
JudgesOn s t n (judged.Fits kept) =
    (length (but t.meta (listed s.blobs)) < s.catalogue.kept_limit) × (gap_for s.catalogue (listed s.blobs) (blob_size s.catalogue t.meta) ≡ Some kept.place)
    × (kept ≡ record { number = t.number; meta = t.meta; place = kept.place; length = blob_size s.catalogue t.meta; moment = n; uses = 0 })

-- the scope whose quota is exceeded
abbrev pub scope_above : Shelved → Option Scope
scope_above s = exceeded (accounts s.catalogue (map part_of (listed s.blobs)))

-- the first metatile to go of the scope whose quota is exceeded, none exactly where no quota is
abbrev pub IsFirstToGo : Shelved → Option Kept → Type 0
IsFirstToGo s None = scope_above s ≡ None
IsFirstToGo s (Some t) = (scope : Scope) × (scope_above s ≡ Some scope) × IsVictim s.catalogue.policy scope (use_on s) (Some t.meta) × (find (is_of t.meta) (listed s.blobs) ≡ Some t)

-- the metatile of the least key of those with uses that are not all saved, and how many uses it has, none exactly where all are
abbrev pub IsUnsavedOn : Shelved → Option Unsaved → Type 0
IsUnsavedOn s None = IsUnsaved (use_on s) None
IsUnsavedOn s (Some x) = IsUnsaved (use_on s) (Some x.kept.meta) × (find (is_of x.kept.meta) (listed s.blobs) ≡ Some x.kept) × (option_map (λ u. u.uses) (use_on s x.kept.meta) ≡ Some x.uses)

-- the bytes of a layer, and of all layers
abbrev pub used_on : Shelved → ℕ → ℕ
used_on s layer = ledger.used layer (map part_of (listed s.blobs))

abbrev pub used_on_all : Shelved → ℕ
used_on_all s = ledger.used_all (map part_of (listed s.blobs))
