-- The bytes of what is kept: their sum lies within the blobs' bytes, and one metatile is counted out.
use Rattle.std.proofs.Common.{ℕ, ◌≡◌, ◌+◌, ◌<◌, ◌≤◌, Bool, true, false, cond, List, [], ◌∷◌, ◌++◌, length, map, filter, find, Option, Some, None, refl, sym, ap, subst, ◌∙◌, arith}
use Rattle.std.specs.Prelude.{IfSome, nat_lt}
use Rattle.std.specs.List.{AllByRecursion, sum_by}
use Rattle.std.proofs.lemmas.List.{map-append}
use Rattle.std.proofs.lemmas.List.Sums.{sum_by-cons}
use Rattle.std.proofs.lemmas.Option.{slice_get_within}
use Rattle.catalog.specs.declared.catalogue.Catalogue.{Catalogue}
use Rattle.extent_map.specs.declared.part as extent
use Rattle.extent_map.specs.Parts.{LieInOrder, end_of, inserted}
use Rattle.metatile_plan.specs.declared.metatile.MetaKey.{MetaKey}
use Rattle.quota_ledger.specs.Accounts.{Accounts, Part, accounts, removed, used_all, used_at}
use Rattle.quota_ledger.proofs.Counting.{counted_part, removed_part, same_layers}
use Rattle.raster_field.specs.Blocks.{IsMeta}
use Rattle.raster_field.proofs.Metas.{parts}
use Rattle.metatile_locks.proofs.Lists.{found, none_passes}
use Rattle.cabinet.specs.declared.kept.Kept.{Kept}
use Rattle.cabinet.specs.Counted.{part_of}
use Rattle.cabinet.specs.Gaps.{regions, region}
use Rattle.cabinet.specs.History.{but, is_of}
use Rattle.cabinet.specs.Shelved.{IsCountedIn, without}
use Rattle.cabinet.proofs.Once.{AreOnce, but_none, one_kept}

-- WITHIN THE BLOBS' BYTES

sum_inserted : (p : extent.Extent.Extent) (xs : List extent.Extent.Extent) → sum_by (λ q. q.length) (inserted p xs) ≡ p.length + sum_by (λ q. q.length) xs
sum_inserted p [] = sum_by-cons (λ q. q.length) p []
sum_inserted p (x ∷ xs) = chosen (nat_lt p.place x.place) (sum_inserted p xs)
  where
    chosen : (v : Bool) → sum_by (λ q. q.length) (inserted p xs) ≡ p.length + sum_by (λ q. q.length) xs → sum_by (λ q. q.length) (cond v (p ∷ x ∷ xs) (x ∷ inserted p xs)) ≡ p.length + sum_by (λ q. q.length) (x ∷ xs)
    chosen true e = sum_by-cons (λ q. q.length) p (x ∷ xs)
    chosen false e =
        let a = sum_by-cons (λ (q : extent.Extent.Extent). q.length) x (inserted p xs) in
        let b = sum_by-cons (λ (q : extent.Extent.Extent). q.length) x xs in
        omega (arith, a, b, e)

sum_regions : (kept : List Kept) → sum_by (λ q. q.length) (regions kept) ≡ used_all (map part_of kept)
sum_regions [] = refl
sum_regions (t ∷ ts) =
    let a = sum_inserted (region t) (regions ts) in
    let b = sum_by-cons (λ (p : Part). p.length) (part_of t) (map part_of ts) in
    omega (arith, a, b, sum_regions ts)

sum_between : (low : ℕ) (xs : List extent.Extent.Extent) (high : ℕ) → LieInOrder low xs high → low + sum_by (λ q. q.length) xs ≤ high
sum_between low [] high o = omega (arith, o)
sum_between low (x ∷ xs) high o =
    let a = sum_by-cons (λ (q : extent.Extent.Extent). q.length) x xs in
    let b = sum_between (end_of x) xs high o.2 in
    omega (arith, a, b, o.0)

-- the bytes of what has its regions in a space are no more than the space's
pub bytes_within : (kept : List Kept) (size : ℕ) → LieInOrder 0 (regions kept) size → used_all (map part_of kept) ≤ size
bytes_within kept size o = omega (arith, sum_regions kept, sum_between 0 (regions kept) size o)

-- what passes has no more bytes
pub bytes_filter : (q : Kept → Bool) (ts : List Kept) → used_all (map part_of (filter q ts)) ≤ used_all (map part_of ts)
bytes_filter q [] = omega arith
bytes_filter q (t ∷ ts) = chosen (q t) (bytes_filter q ts)
  where
    chosen : (v : Bool) → used_all (map part_of (filter q ts)) ≤ used_all (map part_of ts) → used_all (map part_of (cond v (t ∷ filter q ts) (filter q ts))) ≤ used_all (map part_of (t ∷ ts))
    chosen true h =
        let a = sum_by-cons (λ (p : Part). p.length) (part_of t) (map part_of ts) in
        let b = sum_by-cons (λ (p : Part). p.length) (part_of t) (map part_of (filter q ts)) in
        omega (arith, a, b, h)
    chosen false h = let a = sum_by-cons (λ (p : Part). p.length) (part_of t) (map part_of ts) in omega (arith, a, h)

-- LAYERS

pub layer_within : (c : Catalogue) (m : MetaKey) → IsMeta c m → m.theme.layer < length c.layers
layer_within c m is = let p = parts c m is in slice_get_within c.layers m.theme.layer p.its_layer p.layer

-- ONE COUNTED OUT

module _ (c : Catalogue) (front : List Kept) (t : Kept) (back : List Kept) (ledger : Accounts) (layer : t.meta.theme.layer < length c.layers) (bytes : ledger ≡ accounts c (map part_of (front ++ t ∷ back))) where
  around : ledger ≡ accounts c (map part_of front ++ part_of t ∷ map part_of back)
  around = bytes ∙ ap (accounts c) (map-append part_of front (t ∷ back))

  pub one_counted : IsCountedIn ledger t
  one_counted =
      let l = ap (λ (a : Accounts). length a.layers) bytes ∙ same_layers c (map part_of (front ++ t ∷ back)) in
      (omega (arith, l, layer), subst (λ (a : Accounts). t.length ≤ used_at a t.meta.theme.layer) (sym around) (counted_part c (map part_of front) (map part_of back) (part_of t) layer))

  pub one_out : removed t.meta.theme.layer t.length ledger ≡ accounts c (map part_of (front ++ back))
  one_out =
      ap (removed t.meta.theme.layer t.length) around ∙ removed_part c (map part_of front) (map part_of back) (part_of t) layer ∙ ap (accounts c) (sym (map-append part_of front back))

-- what is kept of a metatile is counted, and the accounts without it are those of the others
module _ (c : Catalogue) (kept : List Kept) (once : AreOnce kept) (layers : AllByRecursion (λ t. t.meta.theme.layer < length c.layers) kept) (ledger : Accounts) (bytes : ledger ≡ accounts c (map part_of kept)) (m : MetaKey) where
  pub older_counted : (older : Option Kept) → older ≡ find (is_of m) kept → IfSome older (IsCountedIn ledger)
  older_counted None e = tt
  older_counted (Some t) e =
      let one = one_kept m t kept once (sym e) in
      one_counted c one.before t one.behind ledger (found (is_of m) (λ (x : Kept). x.meta.theme.layer < length c.layers) kept t layers (sym e)).1 (bytes ∙ ap (λ (ts : List Kept). accounts c (map part_of ts)) one.there)

  pub older_out : (older : Option Kept) → older ≡ find (is_of m) kept → without older ledger ≡ accounts c (map part_of (but m kept))
  older_out None e = bytes ∙ ap (λ (ts : List Kept). accounts c (map part_of ts)) (sym (but_none m kept (none_passes (is_of m) kept (sym e))))
  older_out (Some t) e =
      let one = one_kept m t kept once (sym e) in
      one_out c one.before t one.behind ledger (found (is_of m) (λ (x : Kept). x.meta.theme.layer < length c.layers) kept t layers (sym e)).1 (bytes ∙ ap (λ (ts : List Kept). accounts c (map part_of ts)) one.there)
      ∙ ap (λ (ts : List Kept). accounts c (map part_of ts)) (sym one.others)
