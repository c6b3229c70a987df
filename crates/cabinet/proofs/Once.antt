-- Each metatile is kept once.
use Rattle.std.proofs.Common.{◌≡◌, ◌≢◌, Bool, true, false, cond, not, List, [], ◌∷◌, ◌++◌, map, find, Some, refl, sym, ap, subst, ◌∙◌}
use Rattle.std.specs.List.{AllByRecursion}
use Rattle.catalog.specs.declared.catalogue.Catalogue.{Catalogue}
use Rattle.metatile_plan.specs.declared.metatile.MetaKey.{MetaKey}
use Rattle.metatile_plan.specs.Keys.{same_meta}
use Rattle.metatile_plan.proofs.Same.{same_meta_is, same_meta_self}
use Rattle.metatile_locks.proofs.Lists.{all_map, all_passed, all_weaker}
use Rattle.cabinet.specs.declared.entry.HistoryEntry.{HistoryEntry}
use Rattle.cabinet.specs.declared.entry.HistoryEntry.TheVariants as entry
use Rattle.cabinet.specs.declared.kept.Kept.{Kept}
use Rattle.cabinet.specs.Fresh.{ApartBy, MayBeginWith}
use Rattle.cabinet.specs.Hits.{hits_of}
use Rattle.cabinet.specs.History.{CabinetOpening, CabinetStanding, History, after, but, first, is_of, standing}
use Rattle.cabinet.proofs.Lists.{all_of, all_of_map, all_right}
use Rattle.cabinet.proofs.Numbers.{apart_filter, apart_push}
use Rattle.cabinet.proofs.WithUses.{apart_set}

-- WHAT DIFFERS

pub apart_map : {X Y Z : Type 0} (f : X → Y) (h : Y → Z) (xs : List X) → ApartBy (λ x. h (f x)) xs → ApartBy h (map f xs)
apart_map f h [] a = tt
apart_map f h (x ∷ xs) a = (all_map f (λ y. h (f x) ≢ h y) xs a.0, apart_map f h xs a.1)

pub apart_of_map : {X Y Z : Type 0} (f : X → Y) (h : Y → Z) (xs : List X) → ApartBy h (map f xs) → ApartBy (λ x. h (f x)) xs
apart_of_map f h [] a = tt
apart_of_map f h (x ∷ xs) a = (all_of_map f (λ y. h (f x) ≢ h y) xs a.0, apart_of_map f h xs a.1)

-- one of them differs from those before and after it
pub apart_around : {X Y : Type 0} (f : X → Y) (xs : List X) (x : X) (ys : List X) → ApartBy f (xs ++ x ∷ ys) → AllByRecursion (λ y. f x ≢ f y) xs × AllByRecursion (λ y. f x ≢ f y) ys
apart_around f [] x ys a = (tt, a.0)
apart_around f (z ∷ zs) x ys a =
    let r = apart_around f zs x ys a.1 in
    let off = (all_right (λ y. f z ≢ f y) zs (x ∷ ys) a.0).0 in
    (((λ e. off (sym e)), r.0), r.1)

-- EACH METATILE ONCE

not_of : (m n : MetaKey) → not (same_meta m n) ≡ true → m ≢ n
not_of m n off e = absurd (let same = subst (λ (x : MetaKey). same_meta m x ≡ true) e (same_meta_self m) in let f : not (same_meta m n) ≡ not true = ap not same in cc)

pub but_apart : (m : MetaKey) (kept : List Kept) → AllByRecursion (λ t. t.meta ≢ m) (but m kept)
but_apart m kept = all_passed (λ (t : Kept). Unit {0}) (λ t. t.meta ≢ m) (λ t. not (is_of m t)) (λ t off u. not_of t.meta m off) kept (all_of (λ (t : Kept). Unit {0}) kept (λ t has. tt))

abbrev pub AreOnce : List Kept → Type 0
AreOnce kept = ApartBy (λ t. t.meta) kept

once_after : (c : Catalogue) (s : CabinetStanding) (e : HistoryEntry) → AreOnce s.kept → AreOnce (after c s e).kept
once_after c s (entry.At n) a = a
once_after c s (entry.Started k m) a = a
once_after c s (entry.Cut t cover) a = apart_filter (λ (x : Kept). x.meta) (λ x. not (hits_of c cover x.meta)) s.kept a
once_after c s (entry.Missed t) a = a
once_after c s (entry.Stored k m place length n uses) a =
    apart_push (λ (x : Kept). x.meta) (but m s.kept) (record { number = k; meta = m; place = place; length = length; moment = n; uses = uses }) (apart_filter (λ (x : Kept). x.meta) (λ x. not (is_of m x)) s.kept a) (but_apart m s.kept)
once_after c s (entry.Counted m u) a = apart_set m u (λ (x : Kept). x.meta) (λ t. refl) s.kept a
once_after c s (entry.Ended k) a = a
once_after c s (entry.Used m) a = a
once_after c s (entry.Dropped m) a = apart_filter (λ (x : Kept). x.meta) (λ x. not (is_of m x)) s.kept a

once_run : (c : Catalogue) (s : CabinetStanding) (h : History) → AreOnce s.kept → AreOnce (standing c s h).kept
once_run c s [] a = a
once_run c s (e ∷ es) a = once_run c (after c s e) es (once_after c s e a)

pub once : (c : Catalogue) (o : CabinetOpening) (h : History) → MayBeginWith c o → AreOnce (standing c (first o) h).kept
once c o h opens = once_run c (first o) h opens.once

-- THE OTHERS OF ONE

-- what is kept of a metatile stands once among what is kept, and the others are those before and after it
pub record IsOneOf (m : MetaKey) (t : Kept) (kept : List Kept) : Type 0 where
  pub before : List Kept
  pub behind : List Kept
  pub there : kept ≡ before ++ t ∷ behind
  pub others : but m kept ≡ before ++ behind

pub but_none : (m : MetaKey) (kept : List Kept) → AllByRecursion (λ t. is_of m t ≡ false) kept → but m kept ≡ kept
but_none m [] a = refl
but_none m (t ∷ ts) a = rw a.0 (ap (λ xs. t ∷ xs) (but_none m ts a.1))

-- another metatile is not of this one
pub off_of : (m n : MetaKey) → m ≢ n → same_meta n m ≡ false
off_of m n apart = chosen (same_meta n m) refl
  where
    chosen : (v : Bool) → same_meta n m ≡ v → v ≡ false
    chosen true e = absurd (apart (sym (same_meta_is n m e)))
    chosen false e = refl

pub one_kept : (m : MetaKey) (t : Kept) (kept : List Kept) → AreOnce kept → find (is_of m) kept ≡ Some t → IsOneOf m t kept
one_kept m t [] a e = absurd (cc)
one_kept m t (x ∷ xs) a e = chosen (same_meta x.meta m) refl e (one_kept m t xs a.1)
  where
    found : (y : Kept) → x ≡ y → x.meta ≡ m → IsOneOf m y (x ∷ xs)
    found y same is =
        let none : but m xs ≡ xs = but_none m xs (all_weaker (λ (z : Kept). m ≢ z.meta) (λ z. is_of m z ≡ false) (λ z apart. off_of m z.meta apart) xs (subst (λ (n : MetaKey). AllByRecursion (λ z. n ≢ z.meta) xs) is a.0)) in
        let of : same_meta x.meta m ≡ true = subst (λ (n : MetaKey). same_meta x.meta n ≡ true) is (same_meta_self x.meta) in
        record { before = []; behind = xs; there = ap (λ z. z ∷ xs) same; others = ap (λ (v : Bool). cond (not v) (x ∷ but m xs) (but m xs)) of ∙ none }

    chosen : (v : Bool) → same_meta x.meta m ≡ v → cond v (Some x) (find (is_of m) xs) ≡ Some t → (find (is_of m) xs ≡ Some t → IsOneOf m t xs) → IsOneOf m t (x ∷ xs)
    chosen true of e ih = let same : x ≡ t = cc in found t same (same_meta_is x.meta m of)
    chosen false of e ih =
        let r = ih e in
        record { before = x ∷ r.before; behind = r.behind; there = ap (λ ys. x ∷ ys) r.there; others = ap (λ (v : Bool). cond (not v) (x ∷ but m xs) (but m xs)) of ∙ ap (λ ys. x ∷ ys) r.others }
