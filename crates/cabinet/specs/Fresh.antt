-- Which histories are possible, what each of them keeps, and when a render is fresh.
use Rattle.std.specs.Prelude.{ℕ, ◌≡◌, ◌≢◌, ◌+◌, ◌<◌, ◌≤◌, List, [], ◌∷◌, ◌++◌, length, take, fold, Some, None, ◌⊎◌, IsSome, IfSome, IsTrue, Contains, ⊤, if◌then◌else◌, ◌==◌, Option, slice_get}
use Rattle.std.specs.List.{AllByRecursion}
use Rattle.std.specs.Option.{option_and_then, option_or}
use Rattle.catalog.specs.AgeLimits.{age_limit}
use Rattle.catalog.specs.LookUp.{layer_of}
use Rattle.catalog.specs.declared.catalogue.Catalogue.{Catalogue}
use Rattle.matrix_geometry.specs.declared.address.Address.{Address}
use Rattle.metatile_locks.specs.declared.render.Render.{Render}
use Rattle.metatile_locks.specs.Running.{render_of, running_for, unmarked, OneRuns}
use Rattle.metatile_plan.specs.declared.metatile.MetaKey.{MetaKey}
use Rattle.raster_field.specs.Blocks.{block_of, blob_size, IsMeta}
use Rattle.truncation_list.specs.declared.book.Cut.{Cut}
use Rattle.truncation_list.specs.Books.{AnswersFor}
use Rattle.truncation_list.specs.Purge.{IsInOrder, purged}
use Rattle.cabinet.specs.declared.entry.HistoryEntry.{HistoryEntry}
use Rattle.cabinet.specs.declared.entry.HistoryEntry.TheVariants as entry
use Rattle.cabinet.specs.declared.kept.Kept.{Kept}
use Rattle.cabinet.specs.Gaps.{HaveRegions, gap_for}
use Rattle.cabinet.specs.History.{CabinetOpening, CabinetStanding, History, after, but, first, kept_of, least_of, numbers}
use Rattle.cabinet.specs.Hits.{hits_of, covers_in}
use Rattle.served_covers.specs.OfCatalogue.{IsCoverOf}

-- WHICH HISTORIES ARE POSSIBLE

-- the entry comes where the commands let it
abbrev pub May : Catalogue → CabinetStanding → HistoryEntry → Type 0
May c s (entry.At n) = ⊤
May c s (entry.Started k m) = (k ≡ s.front + 1) × (running_for m s.out ≡ None) × IsMeta c m
May c s (entry.Cut t cover) = (t ≡ s.front + 1) × IsCoverOf c cover × (length (purged (Some cover) (least_of (numbers s.out s.kept)) s.book).cuts < c.cut_limit)
May c s (entry.Missed t) = t ≡ s.front + 1
May c s (entry.Stored k m place size n uses) =
    (render_of (record { number = k; meta = m }) s.out ≡ Some (unmarked k m n)) × (size ≡ blob_size c m) × (gap_for c s.kept size ≡ Some place)
    × (length (but m s.kept) < c.kept_limit) × (uses ≡ 0)
May c s (entry.Counted m u) = IsSome (kept_of m s)
May c s (entry.Ended k) = ⊤
May c s (entry.Used m) = IsSome (kept_of m s)
May c s (entry.Dropped m) = IsSome (kept_of m s)

-- from what stands on, each of the entries does
abbrev pub Follows : Catalogue → CabinetStanding → History → Type 0
Follows c s [] = ⊤
Follows c s (e ∷ es) = May c s e × Follows c (after c s e) es

-- THE CUTS of a history, purged ones too

abbrev pub cuts_after : List Cut → HistoryEntry → List Cut
cuts_after cuts (entry.At n) = cuts
cuts_after cuts (entry.Started k m) = cuts
cuts_after cuts (entry.Cut t cover) = cuts ++ record { number = t; cover = cover } ∷ []
cuts_after cuts (entry.Missed t) = cuts
cuts_after cuts (entry.Stored k m place length n uses) = cuts
cuts_after cuts (entry.Counted m u) = cuts
cuts_after cuts (entry.Ended k) = cuts
cuts_after cuts (entry.Used m) = cuts
cuts_after cuts (entry.Dropped m) = cuts

abbrev pub cuts_of : History → List Cut
cuts_of h = fold cuts_after [] h

-- WHAT EACH HISTORY KEEPS TO

-- the number is above each of the cuts that hits the metatile
abbrev pub IsNewer : Catalogue → List Cut → ℕ → MetaKey → Type 0
IsNewer c cuts n m = AllByRecursion (λ k. IsTrue (hits_of c k.cover m) → k.number < n) cuts

pub record HoldsOfKept (c : Catalogue) (cuts : List Cut) (front floor : ℕ) (t : Kept) : Type 0 where
  pub given : t.number ≤ front
  pub above_floor : floor < t.number
  pub newer : IsNewer c cuts t.number t.meta

pub record HoldsOfRender (c : Catalogue) (cuts : List Cut) (front floor : ℕ) (r : Render) : Type 0 where
  pub given : r.number ≤ front
  pub above_floor : floor < r.number
  pub newer : r.mark ≡ None → IsNewer c cuts r.number r.meta

-- what stands after a history with these cuts: each kept number, and each running one that is not overtaken, is above
-- every cut that hits its metatile, purged ones too; the floor is below them all; and the book answers for every cut
pub record HoldsAfterCuts (c : Catalogue) (cuts : List Cut) (s : CabinetStanding) : Type 0 where
  pub given : AllByRecursion (λ k. k.number ≤ s.front) cuts
  pub floor_given : s.book.floor ≤ s.front
  pub listed : AllByRecursion (λ k. Contains cuts k) s.book.cuts
  pub order : IsInOrder s.book.cuts
  pub answers : AllByRecursion (AnswersFor s.book) cuts
  pub kept : AllByRecursion (HoldsOfKept c cuts s.front s.book.floor) s.kept
  pub out : AllByRecursion (HoldsOfRender c cuts s.front s.book.floor) s.out

-- any two of the list differ in what f says of them
abbrev pub ApartBy : {X Y : Type 0} → (X → Y) → List X → Type 0
ApartBy f [] = ⊤
ApartBy f (x ∷ xs) = AllByRecursion (λ y. f x ≢ f y) xs × ApartBy f xs

-- kept and running numbers differ, and of the renders of one metatile at most one is not overtaken
pub record Differ (s : CabinetStanding) : Type 0 where
  pub out : ApartBy (λ r. r.number) s.out
  pub kept : ApartBy (λ t. t.number) s.kept
  pub both : AllByRecursion (λ r. AllByRecursion (λ t. r.number ≢ t.number) s.kept) s.out
  pub one_runs : OneRuns s.out

-- THE POSSIBLE HISTORIES

-- the region of a kept metatile has the length of its blob
abbrev pub IsOfLength : Catalogue → Kept → Type 0
IsOfLength c t = t.length ≡ blob_size c t.meta

-- what a cabinet may begin with: its kept list and its book keep to what each history keeps to, each metatile is kept once, under
-- a number and in a region of its own, of its blob's length, and is of the catalogue, as each cover of the book is, and no more are kept or
-- listed than may be
pub record MayBeginWith (c : Catalogue) (o : CabinetOpening) : Type 0 where
  pub holds : HoldsAfterCuts c o.book.cuts (first o)
  pub numbers : ApartBy (λ t. t.number) o.kept
  pub once : ApartBy (λ t. t.meta) o.kept
  pub metas : AllByRecursion (λ t. IsMeta c t.meta) o.kept
  pub regions : HaveRegions c.blob_bytes o.kept
  pub lengths : AllByRecursion (IsOfLength c) o.kept
  pub covers : AllByRecursion (λ k. IsCoverOf c k.cover) o.book.cuts
  pub few : length o.kept ≤ c.kept_limit
  pub few_cuts : length o.book.cuts ≤ c.cut_limit

-- the history of an opening and these later entries: the first entries are the opening's, and each later one comes where the
-- commands let it
pub record Possible (c : Catalogue) (o : CabinetOpening) (later : History) : Type 0 where
  pub opens : MayBeginWith c o
  pub follows : Follows c (first o) later

-- FRESH

-- the entry begins or keeps the render k of the metatile
abbrev pub IsRenderOf : ℕ → MetaKey → HistoryEntry → Type 0
IsRenderOf k m (entry.At n) = ⊥
IsRenderOf k m (entry.Started j n) = (j ≡ k) × (n ≡ m)
IsRenderOf k m (entry.Cut t cover) = ⊥
IsRenderOf k m (entry.Missed t) = ⊥
IsRenderOf k m (entry.Stored j n place length b uses) = (j ≡ k) × (n ≡ m)
IsRenderOf k m (entry.Counted n u) = ⊥
IsRenderOf k m (entry.Ended j) = ⊥
IsRenderOf k m (entry.Used n) = ⊥
IsRenderOf k m (entry.Dropped n) = ⊥

abbrev pub Begins : ℕ → MetaKey → History → Type 0
Begins k m [] = ⊥
Begins k m (e ∷ es) = IsRenderOf k m e ⊎ Begins k m es

-- the render k is newer than the entry, where the entry is a truncation that covers the tile
abbrev pub IsNoOlder : Catalogue → ℕ → Address → HistoryEntry → Type 0
IsNoOlder c k a (entry.At n) = ⊤
IsNoOlder c k a (entry.Started j n) = ⊤
IsNoOlder c k a (entry.Cut t cover) = IsTrue (covers_in c cover a) → t < k
IsNoOlder c k a (entry.Missed t) = ⊤
IsNoOlder c k a (entry.Stored j n place length b uses) = ⊤
IsNoOlder c k a (entry.Counted n u) = ⊤
IsNoOlder c k a (entry.Ended j) = ⊤
IsNoOlder c k a (entry.Used n) = ⊤
IsNoOlder c k a (entry.Dropped n) = ⊤

-- the moment of the last ask or force, and that at which a render was begun, none before that
pub record Beginning : Type 0 where
  pub moment : ℕ
  pub begun : Option ℕ

-- the first moment counts
abbrev pub begun_or : Beginning → Option ℕ → Beginning
begun_or was begun = record { moment = was.moment; begun = option_or was.begun begun }

-- a render is begun at the moment of the last At before its Started; one that was kept before the opening tells its moment
abbrev pub begun_after : ℕ → Beginning → HistoryEntry → Beginning
begun_after k was (entry.At n) = record { moment = n; begun = was.begun }
begun_after k was (entry.Started j m) = begun_or was (if j == k then Some was.moment else None)
begun_after k was (entry.Cut t cover) = was
begun_after k was (entry.Missed t) = was
begun_after k was (entry.Stored j m place length n uses) = begun_or was (if j == k then Some n else None)
begun_after k was (entry.Counted m u) = was
begun_after k was (entry.Ended j) = was
begun_after k was (entry.Used m) = was
begun_after k was (entry.Dropped m) = was

-- the moment at which the render k was begun
abbrev pub moment : History → ℕ → Option ℕ
moment h k = (fold (begun_after k) (record { moment = 0; begun = None }) h).begun

-- the age limit in seconds of the tile's layer at its zoom
abbrev pub limit_for : Catalogue → Address → Option ℕ
limit_for c a = option_and_then (λ l. age_limit l a.z) (layer_of c a.theme)

-- the layer of the tile has no limit at its zoom, or the entry at place p is that of an ask or force, at a moment that is past the
-- beginning of the render k by no more than the limit
abbrev pub IsYoung : Catalogue → History → ℕ → Address → ℕ → Type 0
IsYoung c h p a k = IfSome (limit_for c a) (λ limit. (n b : ℕ) × (slice_get h p ≡ Some (entry.At n)) × (moment h k ≡ Some b) × (n ≤ b + limit))

-- k is a render of the tile's metatile, and newer than each truncation of the first p entries that covers the tile
pub record IsCurrent (c : Catalogue) (h : History) (p : ℕ) (a : Address) (k : ℕ) : Type 0 where
  pub begins : Begins k (block_of c a) h
  pub above : AllByRecursion (IsNoOlder c k a) (take p h)

-- and it is within the age limit at place p
pub record IsFresh (c : Catalogue) (h : History) (p : ℕ) (a : Address) (k : ℕ) : Type 0 where
  pub current : IsCurrent c h p a k
  pub young : IsYoung c h p a k
