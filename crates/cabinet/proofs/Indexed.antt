-- The keys by area have the number of what is held of each metatile, so that what is told of them is told of what is kept.
use Rattle.std.proofs.Common.{ℕ, ◌≡◌, ◌≢◌, ◌+◌, ◌≤◌, Bool, true, false, cond, not, List, [], ◌∷◌, length, map, fold, find, Option, Some, None, refl, sym, ap, subst, ◌∙◌}
use Rattle.std.specs.Prelude.{IsSome, is_some}
use Rattle.std.specs.List.{AllByRecursion}
use Rattle.std.specs.Option.{option_map}
use Rattle.std.proofs.lemmas.List.Sorted.{IsPermutation-map}
use Rattle.kept_areas.specs.declared.spot.KeptSpot.{KeptSpot}
use Rattle.kept_areas.specs.Areas.{AreOnce, Areas, is_spot_of, least_in, number_at, number_in}
use Rattle.kept_areas.specs.Areas as areas
use Rattle.metatile_locks.proofs.Lists.{all_map, fewer, found}
use Rattle.metatile_plan.specs.declared.metatile.MetaKey.{MetaKey}
use Rattle.metatile_plan.specs.Keys.{same_meta}
use Rattle.metatile_plan.proofs.Same.{same_meta_is, same_meta_self}
use Rattle.cabinet.specs.declared.kept.Kept.{Kept}
use Rattle.cabinet.specs.declared.kept.KeptBlob.{KeptBlob}
use Rattle.cabinet.specs.Fresh.{ApartBy}
use Rattle.cabinet.specs.History.{is_of, lesser}
use Rattle.cabinet.specs.Ordered.{IsIndexed, IsStored, held_at, recounted}
use Rattle.cabinet.proofs.Lists.{all_of, find_map}
use Rattle.cabinet.proofs.Orders.{others, reordered}
use Rattle.cabinet.proofs.Told.{least_same}

abbrev number_of : KeptBlob → ℕ
number_of b = b.kept.number

-- THE LEAST NUMBER is that of the areas: both lists have the same number of each metatile, so as lists of these they are one another
-- in another order

abbrev bare : MetaKey → ℕ → KeptBlob
bare m n = record { kept = record { number = n; meta = m; place = 0; length = 0; moment = 0; uses = 0 }; text = [] }

abbrev of_spot : KeptSpot → KeptBlob
of_spot s = bare s.meta s.number

abbrev of_blob : KeptBlob → KeptBlob
of_blob b = bare b.kept.meta b.kept.number

spot_at : (m : MetaKey) (ss : List KeptSpot) → held_at (map of_spot ss) m ≡ option_map (bare m) (number_in ss m)
spot_at m [] = refl
spot_at m (s ∷ ss) = chosen (same_meta s.meta m) refl (spot_at m ss)
  where
    chosen : (v : Bool) → same_meta s.meta m ≡ v → held_at (map of_spot ss) m ≡ option_map (bare m) (number_in ss m)
        → cond v (Some (of_spot s)) (held_at (map of_spot ss) m) ≡ option_map (bare m) (option_map (λ t. t.number) (cond v (Some s) (find (is_spot_of m) ss)))
    chosen true is ih = λ i. Some (bare (same_meta_is s.meta m is i) s.number)
    chosen false is ih = ih

blob_at : (m : MetaKey) (bs : List KeptBlob) → held_at (map of_blob bs) m ≡ option_map (bare m) (option_map number_of (held_at bs m))
blob_at m [] = refl
blob_at m (b ∷ bs) = chosen (same_meta b.kept.meta m) refl (blob_at m bs)
  where
    chosen : (v : Bool) → same_meta b.kept.meta m ≡ v → held_at (map of_blob bs) m ≡ option_map (bare m) (option_map number_of (held_at bs m))
        → cond v (Some (of_blob b)) (held_at (map of_blob bs) m) ≡ option_map (bare m) (option_map number_of (cond v (Some b) (held_at bs m)))
    chosen true is ih = λ i. Some (bare (same_meta_is b.kept.meta m is i) b.kept.number)
    chosen false is ih = ih

spots_apart : (ss : List KeptSpot) → AreOnce ss → ApartBy (λ b. b.kept.meta) (map of_spot ss)
spots_apart [] a = tt
spots_apart (s ∷ ss) a = (all_map of_spot (λ (b : KeptBlob). s.meta ≢ b.kept.meta) ss a.0, spots_apart ss a.1)

blobs_apart : (bs : List KeptBlob) → ApartBy (λ b. b.kept.meta) bs → ApartBy (λ b. b.kept.meta) (map of_blob bs)
blobs_apart [] a = tt
blobs_apart (b ∷ bs) a = (all_map of_blob (λ (x : KeptBlob). b.kept.meta ≢ x.kept.meta) bs a.0, blobs_apart bs a.1)

spot_numbers : (ss : List KeptSpot) → map number_of (map of_spot ss) ≡ map (λ s. s.number) ss
spot_numbers [] = refl
spot_numbers (s ∷ ss) = ap (λ ns. s.number ∷ ns) (spot_numbers ss)

blob_numbers : (bs : List KeptBlob) → map number_of (map of_blob bs) ≡ map number_of bs
blob_numbers [] = refl
blob_numbers (b ∷ bs) = ap (λ ns. b.kept.number ∷ ns) (blob_numbers bs)

lesser_is : (was : Option ℕ) (n : ℕ) → areas.lesser was n ≡ lesser was n
lesser_is None n = refl
lesser_is (Some m) n = refl

least_is : (was : Option ℕ) (ns : List ℕ) → fold areas.lesser was ns ≡ fold lesser was ns
least_is was [] = refl
least_is was (n ∷ ns) = least_is (areas.lesser was n) ns ∙ ap (λ (o : Option ℕ). fold lesser o ns) (lesser_is was n)

pub numbers_same : (was : Option ℕ) (ss : List KeptSpot) (bs : List KeptBlob) → AreOnce ss → ApartBy (λ b. b.kept.meta) bs → ((m : MetaKey) → number_in ss m ≡ option_map number_of (held_at bs m)) → least_in was ss ≡ fold lesser was (map number_of bs)
numbers_same was ss bs a b same =
    let order = reordered (map of_spot ss) (map of_blob bs) (spots_apart ss a) (blobs_apart bs b) (λ m. spot_at m ss ∙ ap (option_map (bare m)) (same m) ∙ sym (blob_at m bs)) in
    least_is was (map (λ s. s.number) ss)
    ∙ ap (fold lesser was) (sym (spot_numbers ss))
    ∙ least_same was (map number_of (map of_spot ss)) (map number_of (map of_blob bs)) (IsPermutation-map number_of (map of_spot ss) (map of_blob bs) order)
    ∙ ap (fold lesser was) (blob_numbers bs)

-- THE NUMBERS STAY THOSE OF WHAT IS HELD

pub index_put : (b : KeptBlob) (old new : Areas) (held later : List KeptBlob) → IsIndexed old held → ((m : MetaKey) → number_at new m ≡ cond (same_meta m b.kept.meta) (Some b.kept.number) (number_at old m))
    → ((m : MetaKey) → held_at later m ≡ cond (same_meta m b.kept.meta) (Some b) (held_at held m)) → IsIndexed new later
index_put b old new held later i numbers is = λ m.
    numbers m ∙ ap (cond (same_meta m b.kept.meta) (Some b.kept.number)) (i m) ∙ joined (same_meta m b.kept.meta) (held_at held m) ∙ ap (option_map number_of) (sym (is m))
  where
    joined : (v : Bool) (o : Option KeptBlob) → cond v (Some b.kept.number) (option_map number_of o) ≡ option_map number_of (cond v (Some b) o)
    joined true o = refl
    joined false o = refl

pub index_dropped : (k : MetaKey) (old new : Areas) (held later : List KeptBlob) → IsIndexed old held → ((m : MetaKey) → number_at new m ≡ cond (same_meta m k) None (number_at old m)) → ((m : MetaKey) → held_at later m ≡ cond (same_meta m k) None (held_at held m))
    → IsIndexed new later
index_dropped k old new held later i numbers is = λ m. numbers m ∙ ap (cond (same_meta m k) None) (i m) ∙ joined (same_meta m k) (held_at held m) ∙ ap (option_map number_of) (sym (is m))
  where
    joined : (v : Bool) (o : Option KeptBlob) → cond v None (option_map number_of o) ≡ option_map number_of (cond v None o)
    joined true o = refl
    joined false o = refl

pub index_counted : (k : MetaKey) (uses : ℕ) (old : Areas) (held later : List KeptBlob) → IsIndexed old held → ((m : MetaKey) → held_at later m ≡ option_map (recounted k uses) (held_at held m)) → IsIndexed old later
index_counted k uses old held later i is = λ m. i m ∙ same (held_at held m) ∙ ap (option_map number_of) (sym (is m))
  where
    kept_number : (b : KeptBlob) (v : Bool) → b.kept.number ≡ (cond v (record { number = b.kept.number; meta = b.kept.meta; place = b.kept.place; length = b.kept.length; moment = b.kept.moment; uses = uses }) b.kept).number
    kept_number b true = refl
    kept_number b false = refl

    same : (o : Option KeptBlob) → option_map number_of o ≡ option_map number_of (option_map (recounted k uses) o)
    same None = refl
    same (Some b) = ap Some (kept_number b (is_of k b.kept))

-- WHAT IS FOUND

pub order_indexed : (at : Areas) (blobs held : List KeptBlob) → IsStored blobs held at → IsIndexed at blobs
order_indexed at blobs held s = λ m. s.indexed m ∙ ap (option_map number_of) (sym (s.order.same m))

-- what has a number among the areas is kept
pub found_there : (at : Areas) (blobs held : List KeptBlob) (m : MetaKey) → IsStored blobs held at → IsSome (number_at at m) → find (is_of m) (map (λ b. b.kept) blobs) ≡ None → ⊥
found_there at blobs held m s some none =
    chosen (held_at blobs m) (sym (find_map (λ (b : KeptBlob). b.kept) (is_of m) blobs) ∙ none) (subst IsSome (order_indexed at blobs held s m) some)
  where
    chosen : (o : Option KeptBlob) → option_map (λ b. b.kept) o ≡ None → IsSome (option_map number_of o) → ⊥
    chosen None e h = absurd (cc)
    chosen (Some b) e h = absurd (cc)

-- and what is kept has one
pub number_there : (at : Areas) (blobs held : List KeptBlob) (m : MetaKey) → IsStored blobs held at → IsSome (held_at blobs m) → IsSome (number_at at m)
number_there at blobs held m s some = subst IsSome (sym (order_indexed at blobs held s m)) (mapped (held_at blobs m) some)
  where
    mapped : (o : Option KeptBlob) → IsSome o → IsSome (option_map number_of o)
    mapped None e = absurd (cc)
    mapped (Some b) e = refl

pub not_there : (at : Areas) (held : List KeptBlob) (m : MetaKey) → IsIndexed at held → is_some (held_at held m) ≡ false → number_at at m ≡ None
not_there at held m i off = i m ∙ chosen (held_at held m) off
  where
    chosen : (o : Option KeptBlob) → is_some o ≡ false → option_map number_of o ≡ None
    chosen None e = refl
    chosen (Some b) e = absurd (cc)

found_key : (m : MetaKey) (ts : List Kept) (t : Kept) → find (is_of m) ts ≡ Some t → t.meta ≡ m
found_key m ts t e = same_meta_is t.meta m (found (is_of m) (λ x. Unit {0}) ts t (all_of (λ x. Unit {0}) ts (λ x has. tt)) e).0

-- what is found of a metatile is of it
pub at_own_key : (m : MetaKey) (ts : List Kept) (t : Kept) → find (is_of m) ts ≡ Some t → (t.meta ≡ m) × (find (is_of t.meta) ts ≡ Some t)
at_own_key m ts t e = let key = found_key m ts t e in (key, subst (λ (k : MetaKey). find (is_of k) ts ≡ Some t) (sym key) e)

-- where no metatile of which something is kept is hit, nothing that is kept is
pub none_hit : (is_hit : MetaKey → Bool) (blobs : List KeptBlob) → ((m : MetaKey) → IsSome (held_at blobs m) → is_hit m ≡ false) → AllByRecursion (λ b. is_hit b.kept.meta ≡ false) blobs
none_hit is_hit [] h = tt
none_hit is_hit (b ∷ bs) h = (
  h b.kept.meta (ap (λ v. is_some (cond v (Some b) (held_at bs b.kept.meta))) (same_meta_self b.kept.meta)),
  none_hit is_hit bs (λ m some. h m (later m (is_of m b.kept) some)),
)
  where
    later : (m : MetaKey) (v : Bool) → IsSome (held_at bs m) → IsSome (cond v (Some b) (held_at bs m))
    later m true some = refl
    later m false some = some

-- one that is kept and goes leaves fewer
pub goes_fewer : (m : MetaKey) (blobs : List KeptBlob) → IsSome (held_at blobs m) → length (others m blobs) + 1 ≤ length blobs
goes_fewer m blobs some = chosen (held_at blobs m) refl some
  where
    chosen : (o : Option KeptBlob) → held_at blobs m ≡ o → IsSome o → length (others m blobs) + 1 ≤ length blobs
    chosen None e some = absurd (cc)
    chosen (Some b) e some = fewer (λ (x : KeptBlob). is_of m x.kept) (λ x. not (is_of m x.kept)) (λ x on. ap not on) blobs b e
