-- As many metatiles of a layer are kept as have uses of that layer.
use Rattle.std.proofs.Common.{ℕ, ◌≡◌, ◌≢◌, ◌==◌, Bool, true, false, true≢false, cond, List, [], ◌∷◌, length, map, filter, find, slice_get, Option, Some, None, refl, sym, ap, ◌∙◌, eq-eqb}
use Rattle.std.specs.Prelude.{is_some, option_and_then, unwrap_or}
use Rattle.std.specs.List.{AllByRecursion}
use Rattle.std.specs.Option.{option_map}
use Rattle.std.proofs.lemmas.Bool.{eqb-true}
use Rattle.std.proofs.lemmas.List.{length-map}
use Rattle.std.proofs.lemmas.List.Sorted.{length_permutation}
use Rattle.catalog.specs.declared.catalogue.Catalogue.{Catalogue}
use Rattle.expiry_policy.specs.declared.uses.Use.{Use}
use Rattle.expiry_policy.specs.Victims.{AreApart, Counts, use_of, uses_in}
use Rattle.expiry_policy.specs.Victims as victims
use Rattle.extent_map.specs.Spaces.{Space}
use Rattle.metatile_locks.proofs.Lists.{all_map}
use Rattle.metatile_plan.specs.declared.metatile.MetaKey.{MetaKey}
use Rattle.metatile_plan.specs.Keys.{same_meta}
use Rattle.metatile_plan.proofs.Same.{same_meta_is}
use Rattle.quota_ledger.specs.Accounts.{Accounts}
use Rattle.cabinet.specs.declared.kept.KeptBlob.{KeptBlob}
use Rattle.cabinet.specs.Fresh.{ApartBy}
use Rattle.cabinet.specs.History.{is_of}
use Rattle.cabinet.specs.Ordered.{held_at}
use Rattle.cabinet.specs.Shelved.{IsShelved, listed}
use Rattle.cabinet.proofs.Lists.{all_of_map, find_map}
use Rattle.cabinet.proofs.Numbers.{apart_filter}
use Rattle.cabinet.proofs.Orders.{reordered}

abbrev pub of_layer : ℕ → List KeptBlob → List KeptBlob
of_layer layer bs = filter (λ b. b.kept.meta.theme.layer == layer) bs

-- a metatile alone
abbrev alone : MetaKey → KeptBlob
alone m = record { kept = record { number = 0; meta = m; place = 0; length = 0; moment = 0; uses = 0 }; text = [] }

abbrev of_use : Use → KeptBlob
of_use u = alone u.meta

abbrev of_blob : KeptBlob → KeptBlob
of_blob b = alone b.kept.meta

use_alone : (m : MetaKey) (us : List Use) → held_at (map of_use us) m ≡ cond (is_some (find (victims.is_of m) us)) (Some (alone m)) None
use_alone m [] = refl
use_alone m (u ∷ us) = chosen (same_meta u.meta m) refl (use_alone m us)
  where
    chosen : (v : Bool) → same_meta u.meta m ≡ v → held_at (map of_use us) m ≡ cond (is_some (find (victims.is_of m) us)) (Some (alone m)) None
        → cond v (Some (of_use u)) (held_at (map of_use us) m) ≡ cond (is_some (cond v (Some u) (find (victims.is_of m) us))) (Some (alone m)) None
    chosen true is ih = λ i. Some (alone (same_meta_is u.meta m is i))
    chosen false is ih = ih

blob_alone : (m : MetaKey) (bs : List KeptBlob) → held_at (map of_blob bs) m ≡ cond (is_some (held_at bs m)) (Some (alone m)) None
blob_alone m [] = refl
blob_alone m (b ∷ bs) = chosen (same_meta b.kept.meta m) refl (blob_alone m bs)
  where
    chosen : (v : Bool) → same_meta b.kept.meta m ≡ v → held_at (map of_blob bs) m ≡ cond (is_some (held_at bs m)) (Some (alone m)) None
        → cond v (Some (of_blob b)) (held_at (map of_blob bs) m) ≡ cond (is_some (cond v (Some b) (held_at bs m))) (Some (alone m)) None
    chosen true is ih = λ i. Some (alone (same_meta_is b.kept.meta m is i))
    chosen false is ih = ih

uses_apart : (us : List Use) → AreApart us → ApartBy (λ b. b.kept.meta) (map of_use us)
uses_apart [] a = tt
uses_apart (u ∷ us) a = (all_map of_use (λ (b : KeptBlob). u.meta ≢ b.kept.meta) us a.0, uses_apart us a.1)

blobs_apart : (bs : List KeptBlob) → ApartBy (λ b. b.kept.meta) bs → ApartBy (λ b. b.kept.meta) (map of_blob bs)
blobs_apart [] a = tt
blobs_apart (b ∷ bs) a = (all_map of_blob (λ (x : KeptBlob). b.kept.meta ≢ x.kept.meta) bs a.0, blobs_apart bs a.1)

listed_apart : (bs : List KeptBlob) → ApartBy (λ t. t.meta) (listed bs) → ApartBy (λ b. b.kept.meta) bs
listed_apart [] a = tt
listed_apart (b ∷ bs) a = (all_of_map (λ (x : KeptBlob). x.kept) (λ t. b.kept.meta ≢ t.meta) bs a.0, listed_apart bs a.1)

-- two lists of the same metatiles are as long
as_long : (us : List Use) (bs : List KeptBlob) → AreApart us → ApartBy (λ b. b.kept.meta) bs → ((m : MetaKey) → is_some (find (victims.is_of m) us) ≡ is_some (held_at bs m)) → length us ≡ length bs
as_long us bs a b same =
    let order = reordered (map of_use us) (map of_blob bs) (uses_apart us a) (blobs_apart bs b)
    (λ m. use_alone m us ∙ ap (λ (v : Bool). cond v (Some (alone m)) None) (same m) ∙ sym (blob_alone m bs)) in
    sym (length-map us of_use) ∙ sym (length_permutation (map of_use us) (map of_blob bs) order) ∙ length-map bs of_blob

-- WHAT IS KEPT OF A LAYER

kept_of_layer : (layer : ℕ) (m : MetaKey) (bs : List KeptBlob) → held_at (of_layer layer bs) m ≡ cond (m.theme.layer == layer) (held_at bs m) None
kept_of_layer layer m [] = none (m.theme.layer == layer)
  where
    none : (v : Bool) → ◌≡◌ {A = Option KeptBlob} None (cond v None None)
    none true = refl
    none false = refl
kept_of_layer layer m (b ∷ bs) = chosen (same_meta b.kept.meta m) refl (b.kept.meta.theme.layer == layer) refl (kept_of_layer layer m bs)
  where
    chosen : (v : Bool) → same_meta b.kept.meta m ≡ v → (w : Bool) → (b.kept.meta.theme.layer == layer) ≡ w → held_at (of_layer layer bs) m ≡ cond (m.theme.layer == layer) (held_at bs m) None
        → held_at (cond w (b ∷ of_layer layer bs) (of_layer layer bs)) m ≡ cond (m.theme.layer == layer) (cond v (Some b) (held_at bs m)) None
    chosen true is true at ih =
        let here : (m.theme.layer == layer) ≡ true = ap (λ (n : MetaKey). n.theme.layer == layer) (sym (same_meta_is b.kept.meta m is)) ∙ at in
        ap (λ (u : Bool). cond u (Some b) (held_at (of_layer layer bs) m)) is ∙ sym (ap (λ (u : Bool). cond u (Some b) None) here)
    chosen true is false at ih =
        let here : (m.theme.layer == layer) ≡ false = ap (λ (n : MetaKey). n.theme.layer == layer) (sym (same_meta_is b.kept.meta m is)) ∙ at in
        ih ∙ ap (λ (u : Bool). cond u (held_at bs m) None) here ∙ sym (ap (λ (u : Bool). cond u (Some b) None) here)
    chosen false is true at ih = ap (λ (u : Bool). cond u (Some b) (held_at (of_layer layer bs) m)) is ∙ ih
    chosen false is false at ih = ih

-- THE USES OF A LAYER

no_uses : (layer : ℕ) (m : MetaKey) → (m.theme.layer == layer) ≡ false → (us : List Use) → AllByRecursion (λ u. u.meta.theme.layer ≡ layer) us → find (victims.is_of m) us ≡ None
no_uses layer m off [] a = refl
no_uses layer m off (u ∷ us) a = chosen (same_meta u.meta m) refl (no_uses layer m off us a.1)
  where
    chosen : (v : Bool) → same_meta u.meta m ≡ v → find (victims.is_of m) us ≡ None → cond v (Some u) (find (victims.is_of m) us) ≡ None
    chosen true is ih =
        let at : m.theme.layer ≡ layer = ap (λ (n : MetaKey). n.theme.layer) (sym (same_meta_is u.meta m is)) ∙ a.0 in
        absurd (true≢false (sym (eq-eqb m.theme.layer layer at) ∙ off))
    chosen false is ih = ih

found_among : (m : MetaKey) (o : Option (List Use)) → option_and_then (find (victims.is_of m)) o ≡ find (victims.is_of m) (unwrap_or o [])
found_among m None = refl
found_among m (Some us) = refl

uses_here : (counts : Counts) (layer : ℕ) (m : MetaKey) → m.theme.layer ≡ layer → use_of counts m ≡ find (victims.is_of m) (uses_in counts layer)
uses_here counts layer m at = ap (λ (n : ℕ). option_and_then (find (victims.is_of m)) (slice_get counts.uses n)) at ∙ found_among m (slice_get counts.uses layer)

some_mapped : (o : Option KeptBlob) → is_some (option_map (λ b. b.kept) o) ≡ is_some o
some_mapped None = refl
some_mapped (Some b) = refl

module _ (c : Catalogue) (blobs : List KeptBlob) (space : Space) (ledger : Accounts) (counts : Counts) (n : IsShelved c blobs space ledger counts) (layer : ℕ)
    (numbered : AllByRecursion (λ u. u.meta.theme.layer ≡ layer) (uses_in counts layer)) (apart : AreApart (uses_in counts layer)) where
  both : (m : MetaKey) (v : Bool) → (m.theme.layer == layer) ≡ v → is_some (find (victims.is_of m) (uses_in counts layer)) ≡ is_some (cond v (held_at blobs m) None)
  both m true at =
      ap is_some (sym (uses_here counts layer m (eqb-true m.theme.layer layer at))) ∙ n.keys m ∙ ap is_some (find_map (λ (b : KeptBlob). b.kept) (is_of m) blobs) ∙ some_mapped (held_at blobs m)
  both m false at = ap is_some (no_uses layer m at (uses_in counts layer) numbered)

  pub layer_count : length (uses_in counts layer) ≡ length (of_layer layer blobs)
  layer_count =
      as_long (uses_in counts layer) (of_layer layer blobs) apart (apart_filter (λ (b : KeptBlob). b.kept.meta) (λ b. b.kept.meta.theme.layer == layer) blobs (listed_apart blobs n.once))
      (λ m. both m (m.theme.layer == layer) refl ∙ ap is_some (sym (kept_of_layer layer m blobs)))
