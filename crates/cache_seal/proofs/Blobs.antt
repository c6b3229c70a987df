-- The tiles of what is kept, blob by blob.
use Rattle.std.proofs.Common.{ℕ, zero, suc, ◌≡◌, ◌≢◌, ◌+◌, ◌*◌, ◌/◌, ◌<◌, ◌≤◌, List, [], ◌∷◌, ◌++◌, take, append-nil, refl, ap, subst, ◌∙◌, inl, inr, arith, slice_get, Option, Some, None, IsSomeAnd}
use Rattle.std.specs.List.{AllByRecursion, flat_map}
use Rattle.std.specs.Option.{option_and_then, option_map_or}
use Rattle.std.proofs.lemmas.Nat.{mul-le}
use Rattle.std.proofs.Math.Nat.{div-mul-le_self}
use Rattle.cabinet.specs.declared.kept.Kept.{Kept}
use Rattle.cabinet.specs.Gaps.{AreDisjoint, region}
use Rattle.catalog.specs.declared.catalogue.Catalogue.{Catalogue}
use Rattle.catalog.specs.declared.grid.Grid.{Grid}
use Rattle.catalog.specs.LookUp.{matrix_in}
use Rattle.extent_map.specs.Parts.{AreApart as DoNotMeet}
use Rattle.matrix_geometry.specs.declared.matrix.Matrix.{Matrix}
use Rattle.metatile_plan.specs.Texts.{tile_len}
use Rattle.raster_field.specs.Blocks.{IsMeta}
use Rattle.tile_grain.specs.Grain.{AreLongIn, AreLongOn}
use Rattle.cache_seal.specs.declared.tiles.DiskTile.{DiskTile}
use Rattle.cache_seal.specs.OfCache.{blob_tiles, kept_tiles, tile_length}
use Rattle.cache_seal.specs.Seals.{IsBeside}
use Rattle.cache_seal.specs.Tiles.{nth_tile, tiles_in}
use Rattle.cache_seal.proofs.Apart.{all_places, grains_apart, one_more_of}
use Rattle.cache_seal.proofs.Together.{BeginApart}

some_is : {A : Type 0} (x y : A) → Some x ≡ Some y → x ≡ y
some_is x y e = cc

pub all_at : {X : Type 0} (P : X → Type 0) (xs : List X) (i : ℕ) (x : X) → AllByRecursion P xs → slice_get xs i ≡ Some x → P x
all_at P [] i x all is = absurd cc
all_at P (y ∷ ys) zero x all is = subst P (some_is y x is) all.0
all_at P (y ∷ ys) (suc i) x all is = all_at P ys i x all.1 is

pub all_taken : {X : Type 0} (P : X → Type 0) (n : ℕ) (xs : List X) → AllByRecursion P xs → AllByRecursion P (take n xs)
all_taken P zero xs all = tt
all_taken P (suc n) [] all = tt
all_taken P (suc n) (x ∷ xs) all = (all.0, all_taken P n xs all.1)

all_joined : {X : Type 0} (P : X → Type 0) (xs ys : List X) → AllByRecursion P xs → AllByRecursion P ys → AllByRecursion P (xs ++ ys)
all_joined P [] ys h k = k
all_joined P (x ∷ xs) ys h k = (h.0, all_joined P xs ys h.1 k)

pub take_next : {X : Type 0} (xs : List X) (i : ℕ) (x : X) → slice_get xs i ≡ Some x → take (i + 1) xs ≡ take i xs ++ x ∷ []
take_next [] i x is = absurd cc
take_next (y ∷ ys) zero x is = ap (λ (z : _). z ∷ []) (some_is y x is)
take_next (y ∷ ys) (suc i) x is = let e : suc i + 1 ≡ suc (i + 1) = omega arith in ap (λ (n : ℕ). take n (y ∷ ys)) e ∙ ap (λ (l : List _). y ∷ l) (take_next ys i x is)

-- WHAT A TILE HAS AT LEAST

on_grid : (least z : ℕ) (x : Matrix) (o : Option Grid) → ((g : Grid) → o ≡ Some g → AreLongOn least g.matrices) → option_and_then (λ g. slice_get g.matrices z) o ≡ Some x → least ≤ tile_len x
on_grid least z x None long is = absurd cc
on_grid least z x (Some g) long is = all_at (λ (m : Matrix). least ≤ tile_len m) g.matrices z x (long g refl) is

pub long_matrix : (least : ℕ) (c : Catalogue) (grid z : ℕ) (x : Matrix) → AreLongIn least c.grids → matrix_in c grid z ≡ Some x → least ≤ tile_len x
long_matrix least c grid z x long is = on_grid least z x (slice_get c.grids grid) (λ g there. all_at (λ (h : Grid). AreLongOn least h.matrices) c.grids grid g long there) is

wide_on : (least : ℕ) (P : Matrix → Type 0) (o : Option Matrix) → ((x : Matrix) → o ≡ Some x → least ≤ tile_len x) → IsSomeAnd o P → least ≤ option_map_or tile_len o 0
wide_on least P None long there = absurd there
wide_on least P (Some x) long there = long x refl

pub wide_all : (least : ℕ) (c : Catalogue) (ts : List Kept) → AreLongIn least c.grids → AllByRecursion (λ t. IsMeta c t.meta) ts → AllByRecursion (λ t. least ≤ tile_length c t.meta) ts
wide_all least c [] long metas = tt
wide_all least c (t ∷ ts) long metas = (wide_on least _ (matrix_in c t.meta.grid t.meta.z) (λ x is. long_matrix least c t.meta.grid t.meta.z x long is) metas.0.place, wide_all least c ts long metas.1)

-- a tile ends within its blob
pub tile_within : (n size j : ℕ) → j < size / n → j * n + n ≤ size
tile_within n size j lt =
    let le = mul-le (j + 1) n (size / n) n (omega (arith, lt)) (omega arith) in
    let e = one_more_of j n in
    let top = div-mul-le_self size n in
    omega (arith, le, e, top)

-- TILES OF TWO BLOBS

module _ (grain start : ℕ) (c : Catalogue) (t : Kept) (some : 0 < grain) (long : grain ≤ tile_length c t.meta) where
  tiles_apart : (u : Kept) (j i : ℕ) → grain ≤ tile_length c u.meta → DoNotMeet (region u) (region t) → j < u.length / tile_length c u.meta → i < t.length / tile_length c t.meta
      → (nth_tile (blob_tiles start c u) j).at / grain ≢ (nth_tile (blob_tiles start c t) i).at / grain
  tiles_apart u j i wide (inl past) one two =
      let a = tile_within (tile_length c u.meta) u.length j one in
      grains_apart grain (start + u.place + j * tile_length c u.meta) (tile_length c u.meta) (start + t.place + i * tile_length c t.meta) (tile_length c t.meta) some wide long (inl (omega (arith, a, past)))
  tiles_apart u j i wide (inr past) one two =
      let a = tile_within (tile_length c t.meta) t.length i two in
      grains_apart grain (start + u.place + j * tile_length c u.meta) (tile_length c u.meta) (start + t.place + i * tile_length c t.meta) (tile_length c t.meta) some wide long (inr (omega (arith, a, past)))

  blobs_apart : (u : Kept) → grain ≤ tile_length c u.meta → DoNotMeet (region u) (region t) → BeginApart grain (tiles_in (blob_tiles start c u)) (tiles_in (blob_tiles start c t))
  blobs_apart u wide apart =
      all_places (λ (x : DiskTile). IsBeside grain (tiles_in (blob_tiles start c t)) (x.at / grain)) (nth_tile (blob_tiles start c u)) 0 (u.length / tile_length c u.meta)
      (λ j from to. all_places (λ (y : DiskTile). (nth_tile (blob_tiles start c u) j).at / grain ≢ y.at / grain) (nth_tile (blob_tiles start c t)) 0 (t.length / tile_length c t.meta)
      (λ i low high. tiles_apart u j i wide apart (omega (arith, to)) (omega (arith, high))))

  -- the tiles of some, and those of one more
  pub kept_apart : (us : List Kept) → AllByRecursion (λ u. grain ≤ tile_length c u.meta) us → AllByRecursion (λ u. DoNotMeet (region u) (region t)) us → BeginApart grain (kept_tiles start c us) (tiles_in (blob_tiles start c t))
  kept_apart [] wide apart = tt
  kept_apart (u ∷ us) wide apart =
      all_joined (λ (x : DiskTile). IsBeside grain (tiles_in (blob_tiles start c t)) (x.at / grain)) (tiles_in (blob_tiles start c u)) (kept_tiles start c us) (blobs_apart u wide.0 apart.0) (kept_apart us wide.1 apart.1)

-- one is apart from all before it
pub apart_before : (ts : List Kept) (i : ℕ) (t : Kept) → AreDisjoint ts → slice_get ts i ≡ Some t → AllByRecursion (λ u. DoNotMeet (region u) (region t)) (take i ts)
apart_before [] i t h is = absurd cc
apart_before (u ∷ us) zero t h is = tt
apart_before (u ∷ us) (suc i) t h is = (all_at (λ (v : Kept). DoNotMeet (region u) (region v)) us i t h.0 is, apart_before us i t h.1 is)

flat_joined : {X Y : Type 0} (f : X → List Y) (xs : List X) (x : X) → flat_map f (xs ++ x ∷ []) ≡ flat_map f xs ++ f x
flat_joined f [] x = append-nil (f x)
flat_joined f (y ∷ ys) x = ap (λ (l : List _). f y ++ l) (flat_joined f ys x) ∙ joined (f y) (flat_map f ys) (f x)
  where
    joined : {Y : Type 0} (a b d : List Y) → a ++ (b ++ d) ≡ (a ++ b) ++ d
    joined [] b d = refl
    joined (y ∷ a) b d = ap (λ (l : List _). y ∷ l) (joined a b d)

pub tiles_next : (start : ℕ) (c : Catalogue) (ts : List Kept) (i : ℕ) (t : Kept) → slice_get ts i ≡ Some t → kept_tiles start c (take (i + 1) ts) ≡ kept_tiles start c (take i ts) ++ tiles_in (blob_tiles start c t)
tiles_next start c ts i t is = ap (λ (l : List Kept). kept_tiles start c l) (take_next ts i t is) ∙ flat_joined (λ (u : Kept). tiles_in (blob_tiles start c u)) (take i ts) t
