-- What the records of a journal come to: what is kept and which cuts are in force, or the first record that no cache has.
use Rattle.std.specs.Prelude.{ℕ, ◌≡◌, ◌≢◌, ◌+◌, ◌/◌, ◌^◌, ◌<◌, ◌≤◌, max, List, [], ◌∷◌, ◌++◌, length, map, find, drop, slice_get, zero, suc, Bool, true, false, IsTrue, Option, Some, None, IfSome, IsSomeAnd, ◌⊎◌, ⊤}
use Rattle.std.specs.List.{AllByRecursion}
use Rattle.std.specs.Option.{option_map_or}
use Rattle.catalog.specs.declared.catalogue.Catalogue.{Catalogue}
use Rattle.extent_map.specs.Parts.{AreApart}
use Rattle.metatile_plan.specs.declared.metatile.MetaKey.{MetaKey}
use Rattle.raster_field.specs.Blocks.{IsMeta, blob_size}
use Rattle.record_text.specs.declared.entries.Record.{Record}
use Rattle.record_text.specs.Fits.{Fits}
use Rattle.record_text.specs.Old.{IsOld}
use Rattle.record_text.specs.Spelling.{spelling}
use Rattle.record_text.specs.declared.entries.Record.TheVariants.{Opened, Stored, Dropped, Cut, Uses}
use Rattle.served_covers.specs.OfCatalogue.{IsCoverOf}
use Rattle.truncation_list.specs.declared.book.Book.{Book}
use Rattle.truncation_list.specs.declared.book.Cut.{Cut as ListedCut}
use Rattle.truncation_list.specs.declared.cover.Cover.{Cover}
use Rattle.truncation_list.specs.Purge.{purged}
use Rattle.cabinet.specs.declared.kept.Kept.{Kept}
use Rattle.cabinet.specs.Fresh.{IsNewer}
use Rattle.cabinet.specs.Gaps.{region}
use Rattle.cabinet.specs.History.{CabinetOpening, but, is_of, least_of, spared, with_uses}

-- what the records so far come to: the number of the last opening, none before the first, the floor, what is kept, and every cut
pub record Replayed : Type 0 where
  pub opening : Option ℕ
  pub floor : ℕ
  pub kept : List Kept
  pub cuts : List ListedCut

-- no record yet
abbrev pub unplayed : Replayed
unplayed = record { opening = None; floor = 0; kept = []; cuts = [] }

-- the number of the last opening, 0 before the first
abbrev pub opening_number : Replayed → ℕ
opening_number r = option_map_or (λ e. e) r.opening 0

-- the opening that gave a number
abbrev pub opening_of : ℕ → ℕ
opening_of number = number / 2 ^ 40

-- WHICH RECORDS A CACHE HAS, behind those that come to r

-- the number of an opening is above that of each earlier one; its floor was given by then, and is below all that is kept
pub record MayOpen (r : Replayed) (e floor : ℕ) : Type 0 where
  pub later : IfSome r.opening (λ before. before < e)
  pub given : opening_of floor ≤ e
  pub below : AllByRecursion (λ t. floor < t.number) r.kept

-- what is stored is of the catalogue and in a region of its own, under a number that was given by then, that is above the floor and
-- each cut that hits its metatile, and that nothing else has; no more are kept then than may be
pub record MayStore (c : Catalogue) (r : Replayed) (t : Kept) : Type 0 where
  pub meta : IsMeta c t.meta
  pub size : t.length ≡ blob_size c t.meta
  pub within : t.place + t.length ≤ c.blob_bytes
  pub apart : AllByRecursion (λ u. AreApart (region t) (region u)) (but t.meta r.kept)
  pub given : opening_of t.number ≤ opening_number r
  pub above_floor : r.floor < t.number
  pub own : AllByRecursion (λ u. t.number ≢ u.number) (but t.meta r.kept)
  pub newer : IsNewer c r.cuts t.number t.meta
  pub few : length (but t.meta r.kept) < c.kept_limit

-- the metatile is of the catalogue, and kept under this number
abbrev pub IsKeptUnder : Catalogue → Replayed → ℕ → MetaKey → Type 0
IsKeptUnder c r k m = IsMeta c m × ((t : Kept) × (find (is_of m) r.kept ≡ Some t) × (t.number ≡ k))

-- the cover of a cut is of the catalogue, and its number was given by then and is above that of each earlier cut
pub record MayCut (c : Catalogue) (r : Replayed) (t : ℕ) (cover : Cover) : Type 0 where
  pub cover_of : IsCoverOf c cover
  pub given : opening_of t ≤ opening_number r
  pub above : AllByRecursion (λ k. k.number < t) r.cuts

abbrev pub MayFollow : Catalogue → Replayed → Record → Type 0
MayFollow c r (Opened e floor) = MayOpen r e floor
MayFollow c r (Stored k m place length moment uses) = MayStore c r (record { number = k; meta = m; place = place; length = length; moment = moment; uses = uses })
MayFollow c r (Dropped k m) = IsKeptUnder c r k m
MayFollow c r (Cut t cover) = MayCut c r t cover
MayFollow c r (Uses k m uses) = IsKeptUnder c r k m

-- WHAT EACH RECORD DOES

abbrev pub replayed : Catalogue → Replayed → Record → Replayed
replayed c r (Opened e floor) = record { opening = Some e; floor = max r.floor floor; kept = r.kept; cuts = r.cuts }
replayed c r (Stored k m place length moment uses) =
    record { opening = r.opening; floor = r.floor; kept = but m r.kept ++ record { number = k; meta = m; place = place; length = length; moment = moment; uses = uses } ∷ []; cuts = r.cuts }
replayed c r (Dropped k m) = record { opening = r.opening; floor = r.floor; kept = but m r.kept; cuts = r.cuts }
replayed c r (Cut t cover) = record { opening = r.opening; floor = r.floor; kept = spared c cover r.kept; cuts = r.cuts ++ record { number = t; cover = cover } ∷ [] }
replayed c r (Uses k m uses) = record { opening = r.opening; floor = r.floor; kept = map (with_uses m uses) r.kept; cuts = r.cuts }

-- ALL RECORDS

-- each of these records, of which some body may be no spelling of any, is one that a cache has, and they lead from r to t
abbrev pub Replays : Catalogue → Replayed → List (Option Record) → Replayed → Type 0
Replays c r [] t = t ≡ r
Replays c r (None ∷ records) t = ⊥
Replays c r (Some record' ∷ records) t = MayFollow c r record' × Replays c (replayed c r record') records t

-- the first record that no cache has stands here
abbrev pub IsBadAt : Catalogue → Replayed → List (Option Record) → ℕ → Type 0
IsBadAt c r [] slot = ⊥
IsBadAt c r (None ∷ records) slot = slot ≡ 0
IsBadAt c r (Some record' ∷ records) zero = MayFollow c r record' → ⊥
IsBadAt c r (Some record' ∷ records) (suc slot) = MayFollow c r record' × IsBadAt c (replayed c r record') records slot

-- BODIES

-- the body is the spelling of this record in a version of the journal, or that of no record
abbrev pub IsRecordOf : ℕ → List ℕ → Option Record → Type 0
IsRecordOf version body (Some record') = Fits record' × (spelling record' ≡ body) × (version ≡ 1 → IsOld record')
IsRecordOf version body None = (record' : Record) → Fits record' → spelling record' ≡ body → (version ≡ 1 → IsOld record') → ⊥

-- these are the records of the bodies, in order
abbrev pub AreRecordsOf : ℕ → List (List ℕ) → List (Option Record) → Type 0
AreRecordsOf version [] [] = ⊤
AreRecordsOf version [] (record' ∷ records) = ⊥
AreRecordsOf version (body ∷ bodies) [] = ⊥
AreRecordsOf version (body ∷ bodies) (record' ∷ records) = IsRecordOf version body record' × AreRecordsOf version bodies records

abbrev pub is_cut : Option Record → Bool
is_cut None = false
is_cut (Some (Opened e floor)) = false
is_cut (Some (Stored k m place length moment uses)) = false
is_cut (Some (Dropped k m)) = false
is_cut (Some (Cut t cover)) = true
is_cut (Some (Uses k m uses)) = false

-- the last cut of the records stands here
pub record IsLastCut (records : List (Option Record)) (slot : ℕ) : Type 0 where
  pub there : IsSomeAnd (slice_get records slot) (λ r. IsTrue (is_cut r))
  pub last : AllByRecursion (λ r. is_cut r ≡ false) (drop (slot + 1) records)

-- WHAT IS OPENED

-- the cuts, purged once, by the least kept number
abbrev pub book_after : Replayed → Book
book_after r = purged None (least_of (map (λ t. t.number) r.kept)) (record { cuts = r.cuts; floor = r.floor })

-- the opening that follows the records
abbrev pub opening_after : Replayed → CabinetOpening
opening_after r = record { number = opening_number r + 1; kept = r.kept; book = book_after r }

-- what the bodies of a journal of this version are restored to: the number of their last opening, none before the first, what is kept,
-- in the order of its records, and the book; or the slot of the first record that no cache has, or of the last cut where too many are
-- left
pub record IsRestored (c : Catalogue) (records : List (Option Record)) (opening : Option ℕ) (kept : List Kept) (book : Book) : Type 0 where
  pub replayed : Replayed
  pub replays : Replays c unplayed records replayed
  pub few_cuts : length (book_after replayed).cuts ≤ c.cut_limit
  pub opening_is : opening ≡ replayed.opening
  pub kept_is : kept ≡ replayed.kept
  pub book_is : book ≡ book_after replayed

-- the cuts of the records, purged at their end, are more than may be
pub record AreTooMany (c : Catalogue) (records : List (Option Record)) : Type 0 where
  pub replayed : Replayed
  pub replays : Replays c unplayed records replayed
  pub many : c.cut_limit < length (book_after replayed).cuts

abbrev pub IsRefusedAt : Catalogue → List (Option Record) → ℕ → Type 0
IsRefusedAt c records slot = IsBadAt c unplayed records slot ⊎ (AreTooMany c records × IsLastCut records slot)

-- what contracts see of a replay: the catalogue, and the bodies that it was shown
pub record ShownReplay : Type 0 where
  pub catalogue : Catalogue
  pub bodies : List (List ℕ)
