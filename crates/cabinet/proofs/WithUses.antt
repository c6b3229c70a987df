-- What is kept where the uses of a metatile are set: all else of it stays.
use Rattle.std.proofs.Common.{ℕ, ◌≡◌, ◌≢◌, ◌+◌, ◌≤◌, Bool, true, false, cond, List, [], ◌∷◌, map, find, refl, sym, ap, subst, ◌∙◌}
use Rattle.std.specs.List.{AllByRecursion}
use Rattle.std.specs.Option.{option_map}
use Rattle.extent_map.specs.declared.part.Extent.{Extent}
use Rattle.extent_map.specs.Parts.{AreApart, inserted}
use Rattle.metatile_locks.proofs.Lists.{all_map, all_weaker}
use Rattle.metatile_plan.specs.declared.metatile.MetaKey.{MetaKey}
use Rattle.metatile_plan.specs.Keys.{same_meta}
use Rattle.cabinet.specs.declared.kept.Kept.{Kept}
use Rattle.cabinet.specs.declared.kept.KeptBlob.{KeptBlob}
use Rattle.cabinet.specs.Fresh.{ApartBy}
use Rattle.cabinet.specs.Gaps.{AreDisjoint, HaveRegions, region, regions}
use Rattle.cabinet.specs.History.{is_of, with_uses}
use Rattle.cabinet.specs.State.{blobs_counted}
use Rattle.cabinet.proofs.Lists.{find_map}

abbrev pub counted : ℕ → Kept → Kept
counted n t = record { number = t.number; meta = t.meta; place = t.place; length = t.length; moment = t.moment; uses = n }

module _ (m : MetaKey) (n : ℕ) where
  -- one of which the uses are set has what it has whatever its uses are
  pub set_has : (P : Kept → Type 0) → ((t : Kept) → P t → P (counted n t)) → (t : Kept) → P t → P (with_uses m n t)
  set_has P f t h = chosen (is_of m t)
    where
      chosen : (v : Bool) → P (cond v (counted n t) t)
      chosen true = f t h
      chosen false = h

  -- what is the same at any uses stays
  pub set_same : {Y : Type 0} (h : Kept → Y) → ((t : Kept) → h (counted n t) ≡ h t) → (t : Kept) → h (with_uses m n t) ≡ h t
  set_same h f t = chosen (is_of m t)
    where
      chosen : (v : Bool) → h (cond v (counted n t) t) ≡ h t
      chosen true = f t
      chosen false = refl

  -- ALL OF A LIST

  pub all_set : (P : Kept → Type 0) → ((t : Kept) → P t → P (counted n t)) → (ts : List Kept) → AllByRecursion P ts → AllByRecursion P (map (with_uses m n) ts)
  all_set P f ts a = all_map (with_uses m n) P ts (all_weaker P (λ t. P (with_uses m n t)) (set_has P f) ts a)

  pub apart_set : {Y : Type 0} (h : Kept → Y) → ((t : Kept) → h (counted n t) ≡ h t) → (ts : List Kept) → ApartBy h ts → ApartBy h (map (with_uses m n) ts)
  apart_set h same [] a = tt
  apart_set h same (t ∷ ts) a = (
    all_map (with_uses m n) (λ y. h (with_uses m n t) ≢ h y) ts
        (all_weaker (λ y. h t ≢ h y) (λ y. h (with_uses m n t) ≢ h (with_uses m n y)) (λ y off e. off (sym (set_same h same t) ∙ e ∙ set_same h same y)) ts a.0),
    apart_set h same ts a.1,
  )

  pub map_set : {Y : Type 0} (h : Kept → Y) → ((t : Kept) → h (counted n t) ≡ h t) → (ts : List Kept) → map h (map (with_uses m n) ts) ≡ map h ts
  map_set h same [] = refl
  map_set h same (t ∷ ts) = λ i. set_same h same t i ∷ map_set h same ts i

  -- what is found of each metatile
  pub found_set : (k : MetaKey) (ts : List Kept) → find (is_of k) (map (with_uses m n) ts) ≡ option_map (with_uses m n) (find (is_of k) ts)
  found_set k ts =
      find_map (with_uses m n) (is_of k) ts
      ∙ ap (λ (q : Kept → Bool). option_map (with_uses m n) (find q ts)) (λ i t. same_meta (set_same (λ (x : Kept). x.meta) (λ x. refl) t i) k)

  -- REGIONS

  disjoint_set : (ts : List Kept) → AreDisjoint ts → AreDisjoint (map (with_uses m n) ts)
  disjoint_set [] a = tt
  disjoint_set (t ∷ ts) a = (
    all_map (with_uses m n) (λ y. AreApart (region (with_uses m n t)) (region y)) ts
        (all_weaker (λ y. AreApart (region t) (region y)) (λ y. AreApart (region (with_uses m n t)) (region (with_uses m n y)))
        (λ y h. subst (λ (p : Extent). AreApart p (region (with_uses m n y))) (sym (set_same region (λ x. refl) t)) (subst (λ (q : Extent). AreApart (region t) q) (sym (set_same region (λ x. refl) y)) h)) ts a.0),
    disjoint_set ts a.1,
  )

  pub regions_set : (ts : List Kept) → regions (map (with_uses m n) ts) ≡ regions ts
  regions_set [] = refl
  regions_set (t ∷ ts) = λ i. inserted (set_same region (λ x. refl) t i) (regions_set ts i)

  pub have_set : (bytes : ℕ) (ts : List Kept) → HaveRegions bytes ts → HaveRegions bytes (map (with_uses m n) ts)
  have_set bytes ts h = record {
    some = all_set (λ (t : Kept). 1 ≤ t.length) (λ t a. a) ts h.some;
    within = all_set (λ (t : Kept). t.place + t.length ≤ bytes) (λ t a. a) ts h.within;
    disjoint = disjoint_set ts h.disjoint;
  }

  -- BLOBS

  -- without the blobs
  pub listed_set : (bs : List KeptBlob) → map (λ b. b.kept) (blobs_counted m n bs) ≡ map (with_uses m n) (map (λ b. b.kept) bs)
  listed_set [] = refl
  listed_set (b ∷ bs) = ap (λ (ts : List Kept). with_uses m n b.kept ∷ ts) (listed_set bs)

  -- each has what it has whatever its uses are
  pub blobs_set : (P : KeptBlob → Type 0) → ((b : KeptBlob) → P b → P (record { kept = counted n b.kept; text = b.text })) → (bs : List KeptBlob) → AllByRecursion P bs → AllByRecursion P (blobs_counted m n bs)
  blobs_set P f [] a = tt
  blobs_set P f (b ∷ bs) a = (chosen (is_of m b.kept), blobs_set P f bs a.1)
    where
      chosen : (v : Bool) → P (record { kept = cond v (counted n b.kept) b.kept; text = b.text })
      chosen true = f b a.0
      chosen false = a.0
