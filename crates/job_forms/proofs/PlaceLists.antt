-- The places of a job, from the metatiles of its cover.
use Rattle.std.proofs.Common.{◌≡◌, ℕ, zero, suc, ◌*◌, ◌^◌, ◌/◌, ◌%◌, ◌≤◌, ◌<◌, inl, inr, [], ◌∷◌, length, map, Some, slice_get, refl, ap, subst, ◌∙◌, arith, List}
use Rattle.std.specs.Prelude.{◌≢◌, Contains}
use Rattle.std.proofs.Math.Nat.{mul-le-mul}
use Rattle.std.proofs.lemmas.Nat.{div-add-mod', div_below}
use Rattle.catalog.specs.declared.catalogue.Catalogue.{Catalogue}
use Rattle.catalog.specs.Valid.{AreDistinct, IsValid}
use Rattle.matrix_geometry.specs.declared.theme.Theme.{Theme}
use Rattle.metatile_plan.specs.declared.metatile.MetaKey.{MetaKey}
use Rattle.raster_field.specs.Blocks.{IsMeta}
use Rattle.raster_field.proofs.Metas.{tile_meta}
use Rattle.served_covers.specs.OfCatalogue.{IsCoverOf}
use Rattle.truncation_list.specs.declared.cover.Cover.{Cover}
use Rattle.job_forms.specs.declared.job.Job.{Job}
use Rattle.job_forms.specs.declared.job.JobKind.{JobKind}
use Rattle.job_forms.specs.declared.job.JobKind.TheVariants.{Seed, Reseed, Truncate}
use Rattle.job_forms.specs.Covered.{CoversTileOf}
use Rattle.job_forms.specs.Order.{IsBefore}
use Rattle.job_forms.specs.Places.{Cut, Metatile, metas_of, metatiles, places, places_of}
use Rattle.job_forms.specs.Themes.{themes}
use Rattle.job_forms.proofs.CoveredMetas.{covered_metatiles, metatiles_covered}
use Rattle.job_forms.proofs.Members.{Has, IsApart, apart_map, contains_has, distinct, has_at, has_contains, has_map, map_has, rising_at}
use Rattle.job_forms.proofs.InOrder.{metatiles_apart, metatiles_rising}
use Rattle.job_forms.proofs.Pieces.{get_map, get_piece, map_length, pieces_length}

-- HOW MANY

pub metatiles_length : (c : Catalogue) (cover : Cover) (each : ℕ) → ((theme : Theme) → length (metas_of c cover theme) ≡ each) → length (metatiles c cover) ≡ length (themes c cover) * each
unfolding metatiles
metatiles_length c cover each all = pieces_length (metas_of c cover) each all (themes c cover)

pub product_most : (themes each : ℕ) → themes ≤ 2 ^ 45 → each ≤ 30 * 2 ^ 62 → themes * each ≤ 2 ^ 45 * (30 * 2 ^ 62)
product_most themes each h k = mul-le-mul h k

pub places_length : (c : Catalogue) (kind : JobKind) (cover : Cover) → kind ≢ Truncate → length (places_of c kind cover) ≡ length (metatiles c cover)
places_length c Seed cover not = map_length Metatile (metatiles c cover)
places_length c Reseed cover not = map_length Metatile (metatiles c cover)
places_length c Truncate cover not = absurd (not refl)

-- BY THE PLACE

metatile_at : (c : Catalogue) (cover : Cover) (each i : ℕ) (theme : Theme) (k : MetaKey) → ((theme : Theme) → length (metas_of c cover theme) ≡ each) → slice_get (themes c cover) (i / each) ≡ Some theme
    → slice_get (metas_of c cover theme) (i % each) ≡ Some k → slice_get (metatiles c cover) i ≡ Some k
unfolding metatiles
metatile_at c cover each i theme k all e d =
    subst (λ (n : ℕ). slice_get (metatiles c cover) n ≡ Some k) (div-add-mod' i each) (get_piece (metas_of c cover) each all (themes c cover) (i / each) (i % each) theme k e d)

place_at : (c : Catalogue) (kind : JobKind) (cover : Cover) (i : ℕ) (k : MetaKey) → kind ≢ Truncate → slice_get (metatiles c cover) i ≡ Some k → slice_get (places_of c kind cover) i ≡ Some (Metatile k)
place_at c Seed cover i k not e = get_map Metatile (metatiles c cover) i k e
place_at c Reseed cover i k not e = get_map Metatile (metatiles c cover) i k e
place_at c Truncate cover i k not e = absurd (not refl)

meta_of_covered : (c : Catalogue) (cover : Cover) (k : MetaKey) → CoversTileOf c cover k → IsMeta c k
meta_of_covered c cover k t = subst (λ (x : MetaKey). IsMeta c x) t.held (tile_meta c t.tile t.in_catalogue)

-- the metatile of this number, found by its theme and what is left
pub record IsFound (c : Catalogue) (job : Job) (i : ℕ) (k : MetaKey) : Type 0 where
  pub place : slice_get (places c job) i ≡ Some (Metatile k)
  pub meta : IsMeta c k

pub found : (c : Catalogue) (job : Job) (each i : ℕ) (theme : Theme) (k : MetaKey) → IsValid c → IsCoverOf c job.cover → job.kind ≢ Truncate → ((theme : Theme) → length (metas_of c job.cover theme) ≡ each)
    → slice_get (themes c job.cover) (i / each) ≡ Some theme → slice_get (metas_of c job.cover theme) (i % each) ≡ Some k → IsFound c job i k
found c job each i theme k valid of not all e d =
    let at = metatile_at c job.cover each i theme k all e d in
    record {
      place = place_at c job.kind job.cover i k not at;
      meta = meta_of_covered c job.cover k (metatiles_covered c job.cover k valid of (has_at (metatiles c job.cover) i k at));
    }

-- a place below the count has a theme, and what is left of it a metatile of that theme
pub some_each : (c : Catalogue) (job : Job) (each i : ℕ) → job.kind ≢ Truncate → ((theme : Theme) → length (metas_of c job.cover theme) ≡ each) → i < length (places c job) → (0 < each) × (i / each < length (themes c job.cover))
some_each c job each i not all l =
    let e = places_length c job.kind job.cover not ∙ metatiles_length c job.cover each all in
    let below : i < length (themes c job.cover) * each = subst (λ (n : ℕ). i < n) e l in
    some each below (λ h. div_below i each (length (themes c job.cover)) h below) where
      some : (n : ℕ) → i < length (themes c job.cover) * n → (0 < n → i / n < length (themes c job.cover)) → (0 < n) × (i / n < length (themes c job.cover))
      some zero h later = absurd (omega (arith, h))
      some (suc n) h later = let k : 0 < suc n = omega arith in (k, later k)

-- WHICH

own_meta : (x y : MetaKey) → Metatile x ≡ Metatile y → x ≡ y
own_meta x y e = cc

listed_has : (c : Catalogue) (cover : Cover) (k : MetaKey) → Has (map Metatile (metatiles c cover)) (Metatile k) → Has (metatiles c cover) k
listed_has c cover k h = let p = map_has Metatile (metatiles c cover) (Metatile k) h in subst (λ (x : MetaKey). Has (metatiles c cover) x) (own_meta p.0 k p.2) p.1

place_has : (c : Catalogue) (kind : JobKind) (cover : Cover) (k : MetaKey) → Has (places_of c kind cover) (Metatile k) → Has (metatiles c cover) k
place_has c Seed cover k h = listed_has c cover k h
place_has c Reseed cover k h = listed_has c cover k h
place_has c Truncate cover k (inl e) = absurd (cc)
place_has c Truncate cover k (inr h) = absurd h

has_place : (c : Catalogue) (kind : JobKind) (cover : Cover) (k : MetaKey) → kind ≢ Truncate → Has (metatiles c cover) k → Has (places_of c kind cover) (Metatile k)
has_place c Seed cover k not h = has_map Metatile (metatiles c cover) k h
has_place c Reseed cover k not h = has_map Metatile (metatiles c cover) k h
has_place c Truncate cover k not h = absurd (not refl)

pub places_covered : (c : Catalogue) (job : Job) (k : MetaKey) → IsValid c → IsCoverOf c job.cover → Contains (places c job) (Metatile k) → CoversTileOf c job.cover k
places_covered c job k valid of h = metatiles_covered c job.cover k valid of (place_has c job.kind job.cover k (contains_has (places c job) (Metatile k) h))

pub covered_places : (c : Catalogue) (job : Job) (k : MetaKey) → IsValid c → IsCoverOf c job.cover → job.kind ≢ Truncate → CoversTileOf c job.cover k → Contains (places c job) (Metatile k)
covered_places c job k valid of not t = has_contains (places c job) (Metatile k) (has_place c job.kind job.cover k not (covered_metatiles c job.cover k valid of t))

pub places_metas : (c : Catalogue) (job : Job) (k : MetaKey) → IsValid c → IsCoverOf c job.cover → Contains (places c job) (Metatile k) → IsMeta c k
places_metas c job k valid of h = meta_of_covered c job.cover k (places_covered c job k valid of h)

pub cut_alone : (c : Catalogue) (kind : JobKind) (cover : Cover) → kind ≡ Truncate → places_of c kind cover ≡ Cut cover ∷ []
cut_alone c kind cover e = ap (λ (x : JobKind). places_of c x cover) e

places_apart : (c : Catalogue) (kind : JobKind) (cover : Cover) → IsApart (places_of c kind cover)
places_apart c Seed cover = apart_map Metatile own_meta (metatiles c cover) (metatiles_apart c cover)
places_apart c Reseed cover = apart_map Metatile own_meta (metatiles c cover) (metatiles_apart c cover)
places_apart c Truncate cover = (λ h. h, tt)

pub places_distinct : (c : Catalogue) (job : Job) → AreDistinct (places c job)
places_distinct c job = distinct (places c job) (places_apart c job.kind job.cover)

-- a place of the list is a place among the metatiles
map_some : (xs : List MetaKey) (i : ℕ) (k : MetaKey) → slice_get (map Metatile xs) i ≡ Some (Metatile k) → slice_get xs i ≡ Some k
map_some [] i k e = absurd (cc)
map_some (x ∷ xs) zero k e = let d : Metatile x ≡ Metatile k = cc in ap Some (own_meta x k d)
map_some (x ∷ xs) (suc i) k e = map_some xs i k e

no_cut : (cover : Cover) (i : ℕ) (k : MetaKey) → slice_get (Cut cover ∷ []) i ≡ Some (Metatile k) → ⊥
no_cut cover zero k e = absurd (cc)
no_cut cover (suc i) k e = absurd (cc)

metatile_some : (c : Catalogue) (kind : JobKind) (cover : Cover) (i : ℕ) (k : MetaKey) → slice_get (places_of c kind cover) i ≡ Some (Metatile k) → slice_get (metatiles c cover) i ≡ Some k
metatile_some c Seed cover i k e = map_some (metatiles c cover) i k e
metatile_some c Reseed cover i k e = map_some (metatiles c cover) i k e
metatile_some c Truncate cover i k e = absurd (no_cut cover i k e)

pub places_rising : (c : Catalogue) (job : Job) (i j : ℕ) (a b : MetaKey) → i < j → slice_get (places c job) i ≡ Some (Metatile a) → slice_get (places c job) j ≡ Some (Metatile b) → IsBefore a b
places_rising c job i j a b l e d =
    rising_at IsBefore (metatiles c job.cover) (metatiles_rising c job.cover) i j a b l (metatile_some c job.kind job.cover i a e) (metatile_some c job.kind job.cover j b d)
