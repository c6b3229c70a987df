-- What is kept for a tile is newer than the truncations, and fresh where it is within its age limit; so is what was just begun for it;
-- and what is fresh stays so.
use Rattle.std.proofs.Common.{ℕ, zero, suc, ◌≡◌, ◌+◌, ◌<◌, ◌≤◌, true, List, [], ◌∷◌, ◌++◌, length, take, Option, Some, None, IsTrue, inl, refl, subst, arith}
use Rattle.std.specs.Prelude.{IfSome, nat_le, slice_get}
use Rattle.std.specs.List.{AllByRecursion}
use Rattle.std.proofs.lemmas.Bool.Decides.{nat_tests}
use Rattle.catalog.specs.declared.catalogue.Catalogue.{Catalogue}
use Rattle.catalog.specs.LookUp.{IsTile}
use Rattle.catalog.specs.Valid.{IsValid}
use Rattle.matrix_geometry.specs.declared.address.Address.{Address}
use Rattle.raster_field.specs.Blocks.{block_of}
use Rattle.truncation_list.specs.declared.book.Cut.{Cut}
use Rattle.metatile_locks.proofs.Lists.{all_weaker}
use Rattle.cabinet.specs.declared.entry.HistoryEntry.TheVariants as entry
use Rattle.cabinet.specs.declared.kept.Kept.{Kept}
use Rattle.cabinet.specs.Commands.{is_within}
use Rattle.cabinet.specs.Hits.{hits_of}
use Rattle.cabinet.specs.History.{CabinetOpening, History, first, kept_of, standing, whole}
use Rattle.cabinet.specs.Fresh.{Possible, IsCurrent, IsFresh, IsNoOlder, IsNewer, HoldsOfKept, cuts_of, limit_for, moment}
use Rattle.cabinet.proofs.Holding.{holds_of, kept_has, all_no_older}
use Rattle.cabinet.proofs.Lists.{all_push, all_take}
use Rattle.cabinet.proofs.Modelled.{if_some_so}
use Rattle.cabinet.proofs.Moments.{moment_given, moment_longer, moments_are}
use Rattle.cabinet.proofs.Rooted.{begins_left, begins_right, kept_begins}

-- CURRENT

pub kept_current : (c : Catalogue) (o : CabinetOpening) (h : History) (p : ℕ) (a : Address) (t : Kept) → IsValid c → IsTile c a → Possible c o h → kept_of (block_of c a) (standing c (first o) h) ≡ Some t → IsCurrent c (whole o h) p a t.number
kept_current c o h p a t valid tile may e =
    let s = standing c (first o) h in
    let k = kept_has (HoldsOfKept c (cuts_of (whole o h)) s.front s.book.floor) (block_of c a) (standing c (first o) h) t (holds_of c o h may).kept e in
    let newer : IsNewer c (cuts_of (whole o h)) t.number (block_of c a) = subst (IsNewer c (cuts_of (whole o h)) t.number) k.1 k.0.newer in
    record { begins = kept_begins c o h (block_of c a) t may e; above = all_take (IsNoOlder c t.number a) p (whole o h) (all_no_older c (whole o h) a t.number valid tile newer) }

-- the number after the front is newer than each cut before
begun_current : (c : Catalogue) (o : CabinetOpening) (h : History) (p : ℕ) (a : Address) (k : ℕ) → IsValid c → IsTile c a → Possible c o h → k ≡ (standing c (first o) h).front + 1
    → IsCurrent c (whole o h ++ entry.Started k (block_of c a) ∷ []) p a k
begun_current c o h p a k valid tile may is =
    let s = standing c (first o) h in
    let newer : IsNewer c (cuts_of (whole o h)) k (block_of c a) = all_weaker (λ (x : Cut). x.number ≤ s.front) (λ x. IsTrue (hits_of c x.cover (block_of c a)) → x.number < k) (λ x l _. omega arith) (cuts_of (whole o h)) (holds_of c o h may).given in
    let each = all_push (IsNoOlder c k a) (whole o h) (entry.Started k (block_of c a)) (all_no_older c (whole o h) a k valid tile newer) tt in
    record {
      begins = begins_right k (block_of c a) (whole o h) (entry.Started k (block_of c a) ∷ []) (inl (refl, refl));
      above = all_take (IsNoOlder c k a) p (whole o h ++ entry.Started k (block_of c a) ∷ []) each;
    }

-- YOUNG

-- the render k is within the limit at place p
abbrev IsYoungFor : History → ℕ → ℕ → ℕ → Type 0
IsYoungFor h p k limit = (n b : ℕ) × (slice_get h p ≡ Some (entry.At n)) × (moment h k ≡ Some b) × (n ≤ b + limit)

most : (x y : ℕ) → nat_le x y ≡ true → x ≤ y
most x y is = grind (arith, nat_tests)

young_within : (h : History) (p k n b : ℕ) (limit : Option ℕ) → slice_get h p ≡ Some (entry.At n) → moment h k ≡ Some b → is_within limit b n ≡ true → IfSome limit (IsYoungFor h p k)
young_within h p k n b None here begun within = tt
young_within h p k n b (Some limit) here begun within = (n, b, here, begun, most n (b + limit) within)

-- nothing is older than itself
within_now : (limit : Option ℕ) (n : ℕ) → is_within limit n n ≡ true
within_now None n = refl
within_now (Some limit) n = grind (arith, nat_tests)

-- FRESH

-- what is kept and within its age limit at the moment that stands at place p is fresh there
pub kept_fresh : (c : Catalogue) (o : CabinetOpening) (h : History) (p n : ℕ) (a : Address) (t : Kept) → IsValid c → IsTile c a → Possible c o h → kept_of (block_of c a) (standing c (first o) h) ≡ Some t
    → slice_get (whole o h) p ≡ Some (entry.At n) → is_within (limit_for c a) t.moment n ≡ true → IsFresh c (whole o h) p a t.number
kept_fresh c o h p n a t valid tile may e here within =
    let k = kept_has (λ (x : Kept). moment (whole o h) x.number ≡ Some x.moment) (block_of c a) (standing c (first o) h) t (moments_are c o h may) e in
    record { current = kept_current c o h p a t valid tile may e; young = young_within (whole o h) p t.number n t.moment (limit_for c a) here k.0 within }

got_longer : {X : Type 0} (xs ys : List X) (i : ℕ) (x : X) → slice_get xs i ≡ Some x → slice_get (xs ++ ys) i ≡ Some x
got_longer [] ys i x e = absurd (cc)
got_longer (y ∷ xs) ys zero x e = e
got_longer (y ∷ xs) ys (suc i) x e = got_longer xs ys i x e

-- what was just begun is fresh at the ask or force at whose moment it was begun
pub begun_fresh : (c : Catalogue) (o : CabinetOpening) (h : History) (p n : ℕ) (a : Address) (k : ℕ) → IsValid c → IsTile c a → Possible c o h → k ≡ (standing c (first o) h).front + 1
    → (standing c (first o) h).moment ≡ n → slice_get (whole o h) p ≡ Some (entry.At n) → IsFresh c (whole o h ++ entry.Started k (block_of c a) ∷ []) p a k
begun_fresh c o h p n a k valid tile may is moment_is here =
    let begun : moment (whole o h ++ entry.Started k (block_of c a) ∷ []) k ≡ Some n = subst (λ (b : ℕ). moment (whole o h ++ entry.Started k (block_of c a) ∷ []) k ≡ Some b) moment_is (moment_given c o h may k (block_of c a) is) in
    record {
      current = begun_current c o h p a k valid tile may is;
      young = young_within (whole o h ++ entry.Started k (block_of c a) ∷ []) p k n n (limit_for c a) (got_longer (whole o h) (entry.Started k (block_of c a) ∷ []) p (entry.At n) here) begun (within_now (limit_for c a) n);
    }

-- LATER

take_longer : {X : Type 0} (P : X → Type 0) (p : ℕ) (xs ys : List X) → p ≤ length xs → AllByRecursion P (take p xs) → AllByRecursion P (take p (xs ++ ys))
take_longer P zero xs ys l a = tt
take_longer P (suc p) [] ys l a = absurd (omega arith)
take_longer P (suc p) (x ∷ xs) ys l a = (a.0, take_longer P p xs ys (omega arith) a.1)

young_longer : (h more : History) (p k limit : ℕ) → IsYoungFor h p k limit → IsYoungFor (h ++ more) p k limit
young_longer h more p k limit y = (y.0, y.1, got_longer h more p (entry.At y.0) y.2, moment_longer h more k y.1 y.3, y.4)

pub still_fresh : (c : Catalogue) (h more : History) (p : ℕ) (a : Address) (k : ℕ) → p ≤ length h → IsFresh c h p a k → IsFresh c (h ++ more) p a k
still_fresh c h more p a k l f = record {
  current = record { begins = begins_left k (block_of c a) h more f.current.begins; above = take_longer (IsNoOlder c k a) p h more l f.current.above };
  young = if_some_so {P = IsYoungFor h p k} {Q = IsYoungFor (h ++ more) p k} (λ limit y. young_longer h more p k limit y) (limit_for c a) f.young;
}
