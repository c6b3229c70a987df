-- The regions of what is kept are disjoint and lie within the blobs' bytes.
use Rattle.std.proofs.Common.{ℕ, ◌≡◌, ◌+◌, ◌<◌, ◌≤◌, Bool, true, false, cond, not, List, [], ◌∷◌, ◌++◌, filter, Some, refl, sym, subst, inl, inr, arith}
use Rattle.std.specs.Prelude.{nat_lt}
use Rattle.std.specs.List.{AllByRecursion}
use Rattle.std.proofs.lemmas.Bool.Decides.{nat_tests}
use Rattle.catalog.specs.declared.catalogue.Catalogue.{Catalogue}
use Rattle.catalog.specs.Valid.{IsValid}
use Rattle.extent_map.specs.declared.part.Extent.{Extent}
use Rattle.extent_map.specs.Parts.{end_of, AreApart, LieInOrder, inserted}
use Rattle.extent_map.specs.Spaces.{IsFree}
use Rattle.metatile_locks.proofs.Lists.{all_filter, all_weaker}
use Rattle.metatile_locks.specs.declared.render.Render.{Render}
use Rattle.metatile_locks.specs.Running.{is_render_of, unmarked}
use Rattle.metatile_plan.proofs.Places.{span_within}
use Rattle.metatile_plan.specs.declared.metatile.Factors.{Factors}
use Rattle.metatile_plan.specs.declared.metatile.MetaKey.{MetaKey}
use Rattle.metatile_plan.specs.Plan.{IsMetaIn, IsPlan, tiles_of}
use Rattle.metatile_plan.specs.Texts.{blob_len, tile_len}
use Rattle.matrix_geometry.specs.declared.matrix.Matrix.{Matrix}
use Rattle.raster_field.proofs.Metas.{its_plan, parts, size_is}
use Rattle.raster_field.specs.Blocks.{IsMeta, blob_size, factors_at}
use Rattle.cabinet.specs.declared.entry.HistoryEntry.{HistoryEntry}
use Rattle.cabinet.specs.declared.entry.HistoryEntry.TheVariants as entry
use Rattle.cabinet.specs.declared.kept.Kept.{Kept}
use Rattle.cabinet.specs.Fresh.{Follows, May, Possible}
use Rattle.cabinet.specs.Gaps.{AreDisjoint, HaveRegions, gap_for, region, regions}
use Rattle.cabinet.specs.History.{CabinetOpening, CabinetStanding, History, after, but, first, is_of, standing}
use Rattle.cabinet.specs.Hits.{hits_of}
use Rattle.cabinet.proofs.Lists.{all_found, all_push}
use Rattle.cabinet.proofs.Regions.{all_regions, gap_some}
use Rattle.cabinet.proofs.Rooted.{Rooted, is_meta, rooted_after}
use Rattle.cabinet.proofs.WithUses.{have_set}

-- A BLOB HAS A BYTE

blob_some_on : (f : Factors) (x : Matrix) (m : MetaKey) → IsPlan f x → IsMetaIn f x m → 1 ≤ blob_len f x m
blob_some_on f x m plan place =
    let some : 1 ≤ tile_len x = omega arith in
    let a = plan.x in let b = plan.y in let c = place.row in let d = place.col in
    let whole = span_within f x m (tiles_of f x m).row_min (tiles_of f x m).col_min (record { row_min = omega arith; row_max = omega arith; col_min = omega arith; col_max = omega arith }) in
    omega (arith, whole)

pub blob_some : (c : Catalogue) (m : MetaKey) → IsValid c → IsMeta c m → 1 ≤ blob_size c m
blob_some c m valid is = let p = parts c m is in subst (λ (n : ℕ). 1 ≤ n) (sym (size_is c m p)) (blob_some_on (factors_at c m.theme) p.its_matrix m (its_plan c m valid p) p.place)

-- FEWER AND ONE MORE

pub disjoint_filter : (p : Kept → Bool) (ts : List Kept) → AreDisjoint ts → AreDisjoint (filter p ts)
disjoint_filter p [] a = tt
disjoint_filter p (t ∷ ts) a = chosen (p t) (disjoint_filter p ts a.1)
  where
    chosen : (v : Bool) → AreDisjoint (filter p ts) → AreDisjoint (cond v (t ∷ filter p ts) (filter p ts))
    chosen true rest = (all_filter (λ u. AreApart (region t) (region u)) p ts a.0, rest)
    chosen false rest = rest

pub disjoint_push : (ts : List Kept) (u : Kept) → AreDisjoint ts → AllByRecursion (λ t. AreApart (region t) (region u)) ts → AreDisjoint (ts ++ u ∷ [])
disjoint_push [] u a b = (tt, tt)
disjoint_push (t ∷ ts) u a b = (all_push (λ x. AreApart (region t) (region x)) ts u a.0 b.0, disjoint_push ts u a.1 b.1)

fewer : (bytes : ℕ) (p : Kept → Bool) (ts : List Kept) → HaveRegions bytes ts → HaveRegions bytes (filter p ts)
fewer bytes p ts h = record {
  some = all_filter (λ (t : Kept). 1 ≤ t.length) p ts h.some;
  within = all_filter (λ (t : Kept). t.place + t.length ≤ bytes) p ts h.within;
  disjoint = disjoint_filter p ts h.disjoint;
}

-- IN ORDER OF PLACE

in_inserted : (P : Extent → Type 0) (p : Extent) (xs : List Extent) → P p → AllByRecursion P xs → AllByRecursion P (inserted p xs)
in_inserted P p [] h a = (h, tt)
in_inserted P p (x ∷ xs) h a = chosen (nat_lt p.place x.place) (in_inserted P p xs h a.1)
  where
    chosen : (v : Bool) → AllByRecursion P (inserted p xs) → AllByRecursion P (cond v (p ∷ x ∷ xs) (x ∷ inserted p xs))
    chosen true rest = (h, (a.0, a.1))
    chosen false rest = (a.0, rest)

pub of_regions : (P : Extent → Type 0) (ts : List Kept) → AllByRecursion (λ t. P (region t)) ts → AllByRecursion P (regions ts)
of_regions P [] a = tt
of_regions P (t ∷ ts) a = in_inserted P (region t) (regions ts) a.0 (of_regions P ts a.1)

pub other_side : (p q : Extent) → AreApart p q → AreApart q p
other_side p q (inl a) = inr a
other_side p q (inr b) = inl b

-- a free part goes in between those in order
pub inserted_order : (low : ℕ) (p : Extent) (xs : List Extent) (high : ℕ) → LieInOrder low xs high → low ≤ p.place → 1 ≤ p.length → IsFree xs high p → LieInOrder low (inserted p xs) high
inserted_order low p [] high o l some free = (l, some, free.0)
inserted_order low p (x ∷ xs) high o l some free = chosen (nat_lt p.place x.place) refl (λ over. inserted_order (end_of x) p xs high o.2 over some (free.0, free.1.1))
  where
    chosen : (v : Bool) → nat_lt p.place x.place ≡ v → (end_of x ≤ p.place → LieInOrder (end_of x) (inserted p xs) high) → LieInOrder low (cond v (p ∷ x ∷ xs) (x ∷ inserted p xs)) high
    chosen true is rest =
        let under : p.place < x.place = grind (arith, nat_tests) in
        elim free.1.0 [
          | inl a ↦ absurd (let n = o.1 in omega arith)
          | inr b ↦ (l, some, (b, o.1, o.2))
        ]
    chosen false is rest =
        let over : x.place ≤ p.place = grind (arith, nat_tests) in
        elim free.1.0 [
          | inl a ↦ (o.0, o.1, rest a)
          | inr b ↦ absurd (omega arith)
        ]

pub in_order : (bytes : ℕ) (ts : List Kept) → HaveRegions bytes ts → LieInOrder 0 (regions ts) bytes
in_order bytes [] h = omega arith
in_order bytes (t ∷ ts) h =
    let rest = in_order bytes ts (record { some = h.some.1; within = h.within.1; disjoint = h.disjoint.1 }) in
    let apart = all_weaker (λ (u : Kept). AreApart (region t) (region u)) (λ u. AreApart (region u) (region t)) (λ u a. other_side (region t) (region u) a) ts h.disjoint.0 in
    inserted_order 0 (region t) (regions ts) bytes rest (omega arith) h.some.0 (h.within.0, of_regions (λ q. AreApart q (region t)) ts apart)

-- HISTORIES

stored : (c : Catalogue) (kept : List Kept) (t : Kept) → HaveRegions c.blob_bytes kept → 1 ≤ t.length → gap_for c kept t.length ≡ Some t.place → HaveRegions c.blob_bytes (but t.meta kept ++ t ∷ [])
stored c kept t h some gap =
    let free = (gap_some 0 (regions kept) c.blob_bytes t.length t.place (in_order c.blob_bytes kept h) gap).free in
    let less = fewer c.blob_bytes (λ x. not (is_of t.meta x)) kept h in
    record {
      some = all_push (λ (x : Kept). 1 ≤ x.length) (but t.meta kept) t less.some some;
      within = all_push (λ (x : Kept). x.place + x.length ≤ c.blob_bytes) (but t.meta kept) t less.within free.0;
      disjoint = disjoint_push (but t.meta kept) t less.disjoint
          (all_filter (λ (x : Kept). AreApart (region x) (region t)) (λ x. not (is_of t.meta x)) kept (all_regions (λ q. AreApart q (region t)) kept free.1));
    }

regions_after : (c : Catalogue) (s : CabinetStanding) (e : HistoryEntry) → IsValid c → Rooted (λ k m. IsMeta c m) s → May c s e → HaveRegions c.blob_bytes s.kept → HaveRegions c.blob_bytes (after c s e).kept
regions_after c s (entry.At n) valid r may h = h
regions_after c s (entry.Started k m) valid r may h = h
regions_after c s (entry.Cut t cover) valid r may h = fewer c.blob_bytes (λ x. not (hits_of c cover x.meta)) s.kept h
regions_after c s (entry.Missed t) valid r may h = h
regions_after c s (entry.Stored k m place length n uses) valid r may h =
    let meta = all_found (λ (x : Render). IsMeta c x.meta) (is_render_of (record { number = k; meta = m })) s.out (unmarked k m n) r.out may.0 in
    stored c s.kept (record { number = k; meta = m; place = place; length = length; moment = n; uses = uses }) h (subst (λ (n : ℕ). 1 ≤ n) (sym may.1) (blob_some c m valid meta)) may.2
regions_after c s (entry.Counted m u) valid r may h = have_set m u c.blob_bytes s.kept h
regions_after c s (entry.Ended k) valid r may h = h
regions_after c s (entry.Used m) valid r may h = h
regions_after c s (entry.Dropped m) valid r may h = fewer c.blob_bytes (λ x. not (is_of m x)) s.kept h

regions_run : (c : Catalogue) (s : CabinetStanding) (h : History) → IsValid c → Rooted (λ k m. IsMeta c m) s → Follows c s h → HaveRegions c.blob_bytes s.kept → HaveRegions c.blob_bytes (standing c s h).kept
regions_run c s [] valid r may a = a
regions_run c s (e ∷ es) valid r may a =
    regions_run c (after c s e) es valid (rooted_after (λ k m. IsMeta c m) c s e (is_meta c s e may.0) r may.0) may.1 (regions_after c s e valid r may.0 a)

pub regions_are : (c : Catalogue) (o : CabinetOpening) (h : History) → IsValid c → Possible c o h → HaveRegions c.blob_bytes (standing c (first o) h).kept
regions_are c o h valid may = regions_run c (first o) h valid (record { kept = may.opens.metas; out = tt }) may.follows may.opens.regions
