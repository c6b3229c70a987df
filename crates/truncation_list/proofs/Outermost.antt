-- a purge in two steps: the cuts within later ones, and then those that go by the cover or by their numbers
use Rattle.std.proofs.Common.{ℕ, ◌≡◌, ◌+◌, ◌<◌, ◌≤◌, ◌||◌, ◌∙◌, refl, subst, sym, ap, arith, zero, suc, Bool, true, false, not, cond, List, [], ◌∷◌, ◌++◌, fold, length, IsTrue, Option, Some, None, drop, take, get_or}
use Rattle.std.specs.Prelude.{filter}
use Rattle.std.specs.List.{All, list_any, remove}
use Rattle.std.proofs.lemmas.Bool.Decides.{nat_tests}
use Rattle.std.proofs.lemmas.List.Elements.{All-cons, All-head, All-tail, All-weaker}
use Rattle.truncation_list.specs.declared.book.Cut.{Cut}
use Rattle.truncation_list.specs.declared.cover.Cover.{Cover}
use Rattle.truncation_list.specs.Contains.{contains}
use Rattle.truncation_list.specs.Listed.{IsSettled, outermost}
use Rattle.truncation_list.specs.Purge.{IsByNumber, is_old, is_outdone, is_outdone_among, is_within, raised, remaining}
use Rattle.truncation_list.specs.Slots.{stays}
use Rattle.truncation_list.proofs.Containment.{contains_through}
use Rattle.truncation_list.proofs.Filters.{filter_where, filter_whole}
use Rattle.truncation_list.proofs.Rule.{remaining_is_by_rule}

two_steps : (own later : Bool) (x : Cut) (rest out : List Cut) (test : Cut → Bool) → test x ≡ not own → rest ≡ filter test out → cond (own || later) rest (x ∷ rest) ≡ filter test (cond later out (x ∷ out))
two_steps true true x rest out test t e = e
two_steps true false x rest out test t e = rw t e
two_steps false true x rest out test t e = e
two_steps false false x rest out test t e = rw (t, e) refl

pub remaining_filters : (cover : Option Cover) (least : Option ℕ) (cuts : List Cut) → remaining cover least cuts ≡ filter (λ cut. not (is_within cover cut || is_old least cut)) (outermost cuts)
remaining_filters cover least [] = refl
remaining_filters cover least (x ∷ xs) =
    two_steps (is_within cover x || is_old least x) (is_outdone xs x) x (remaining cover least xs) (outermost xs) (λ cut. not (is_within cover cut || is_old least cut)) refl (remaining_filters cover least xs)

pub outermost_same : (cuts : List Cut) → IsSettled cuts → outermost cuts ≡ cuts
outermost_same [] h = refl
outermost_same (x ∷ xs) h = rw (h.0, outermost_same xs h.1) refl

-- NUMBERS

pub none_raise : (least : Option ℕ) (cuts : List Cut) (floor : ℕ) → All (λ cut. is_old least cut ≡ false) cuts → fold (raised least) floor cuts ≡ floor
none_raise least [] floor h = refl
none_raise least (x ∷ xs) floor h =
    rw (All-head (λ cut. is_old least cut ≡ false) x xs h) (none_raise least xs floor (All-tail (λ cut. is_old least cut ≡ false) x xs h))

not_older : (least : Option ℕ) (x y : Cut) → is_old least x ≡ false → x.number < y.number → is_old least y ≡ false
not_older None x y h l = absurd (cc)
not_older (Some n) x y h l = grind (arith, nat_tests)

pub none_old_after : (least : Option ℕ) (x : Cut) (xs : List Cut) → IsByNumber (x ∷ xs) → is_old least x ≡ false → All (λ cut. is_old least cut ≡ false) (x ∷ xs)
none_old_after least x xs o h =
    All-cons (λ cut. is_old least cut ≡ false) x xs h (All-weaker (λ other. x.number < other.number) (λ cut. is_old least cut ≡ false) (λ cut l. not_older least x cut h l) xs o.0)

-- where a cut doesn't meet the test on numbers, no later one does
pub none_raise_from : (least : Option ℕ) (cuts : List Cut) (i : ℕ) (d : Cut) (floor : ℕ) → i < length cuts → IsByNumber cuts → is_old least (get_or cuts i d) ≡ false → fold (raised least) floor (drop i cuts) ≡ floor
none_raise_from least [] i d floor l o h = absurd (omega arith)
none_raise_from least (x ∷ xs) zero d floor l o h = none_raise least (x ∷ xs) floor (none_old_after least x xs o h)
none_raise_from least (x ∷ xs) (suc i) d floor l o h = none_raise_from least xs i d floor (omega arith) o.1 h

-- the numbers rise
pub number_le : (cuts : List Cut) (i j : ℕ) (d : Cut) → IsByNumber cuts → i ≤ j → j < length cuts → (get_or cuts i d).number ≤ (get_or cuts j d).number
number_le [] i j d o l b = absurd (omega arith)
number_le (x ∷ xs) zero zero d o l b = omega arith
number_le (x ∷ xs) (suc i) zero d o l b = absurd (omega arith)
number_le (x ∷ xs) zero (suc j) d o l b = let h : x.number < (get_or xs j d).number = o.0 j d (omega arith) in omega arith
number_le (x ∷ xs) (suc i) (suc j) d o l b = number_le xs i j d o.1 (omega arith) (omega arith)

pub number_lt : (cuts : List Cut) (i j : ℕ) (d : Cut) → IsByNumber cuts → i < j → j < length cuts → (get_or cuts i d).number < (get_or cuts j d).number
number_lt [] i j d o l b = absurd (omega arith)
number_lt (x ∷ xs) i zero d o l b = absurd (omega arith)
number_lt (x ∷ xs) zero (suc j) d o l b = o.0 j d (omega arith)
number_lt (x ∷ xs) (suc i) (suc j) d o l b = number_lt xs i j d o.1 (omega arith) (omega arith)

-- the next cut of those that are settled so far goes, or it stays
pub next_goes : (cuts : List Cut) (kept : ℕ) (d : Cut) → kept < length cuts → IsTrue (is_outdone (drop (kept + 1) cuts) (get_or cuts kept d)) → take kept (remove cuts kept) ++ outermost (drop kept (remove cuts kept)) ≡ take kept cuts ++ outermost (drop kept cuts)
next_goes [] kept d l t = absurd (omega arith)
next_goes (x ∷ xs) zero d l t = rw t refl
next_goes (x ∷ xs) (suc kept) d l t =
    let next : suc kept + 1 ≡ suc (kept + 1) = omega arith in
    ap (λ (ys : List Cut). x ∷ ys) (next_goes xs kept d (omega arith) (subst (λ (j : ℕ). IsTrue (is_outdone (drop j (x ∷ xs)) (get_or xs kept d))) next t))

pub next_stays : (cuts : List Cut) (kept : ℕ) (d : Cut) → kept < length cuts → is_outdone (drop (kept + 1) cuts) (get_or cuts kept d) ≡ false → take (kept + 1) cuts ++ outermost (drop (kept + 1) cuts) ≡ take kept cuts ++ outermost (drop kept cuts)
next_stays [] kept d l e = absurd (omega arith)
next_stays (x ∷ xs) zero d l e = rw e refl
next_stays (x ∷ xs) (suc kept) d l e =
    let next : suc kept + 1 ≡ suc (kept + 1) = omega arith in
    subst (λ (j : ℕ). take j (x ∷ xs) ++ outermost (drop j (x ∷ xs)) ≡ x ∷ take kept xs ++ outermost (drop kept xs)) (sym next)
    (ap (λ (ys : List Cut). x ∷ ys) (next_stays xs kept d (omega arith) (subst (λ (j : ℕ). is_outdone (drop j (x ∷ xs)) (get_or xs kept d) ≡ false) next e)))

-- a settled list keeps the cuts that stay by themselves
pub settled_remaining : (cover : Option Cover) (least : Option ℕ) (cuts : List Cut) → IsSettled cuts → remaining cover least cuts ≡ filter (stays cover least) cuts
settled_remaining cover least cuts h =
    remaining_filters cover least cuts ∙ ap (λ (ks : List Cut). filter (stays cover least) ks) (outermost_same cuts h)

-- THE STEPS IN THE OTHER ORDER

any_kept : (p q : Cut → Bool) (xs : List Cut) → All (λ y. IsTrue (p y) → IsTrue (q y)) xs → list_any p (filter q xs) ≡ list_any p xs
any_kept p q [] h = refl
any_kept p q (x ∷ xs) h =
    at (p x) (q x) refl refl (All-head (λ y. IsTrue (p y) → IsTrue (q y)) x xs h) (any_kept p q xs (All-tail (λ y. IsTrue (p y) → IsTrue (q y)) x xs h))
  where
    at : (u v : Bool) → p x ≡ u → q x ≡ v → (IsTrue u → IsTrue v) → list_any p (filter q xs) ≡ list_any p xs → list_any p (cond v (x ∷ filter q xs) (filter q xs)) ≡ (u || list_any p xs)
    at true true e f k ih = rw e refl
    at true false e f k ih = absurd (let no = k refl in cc)
    at false true e f k ih = rw e ih
    at false false e f k ih = ih

module _ (test : Cut → Bool) (around : (x y : Cut) → x.number < y.number → IsTrue (contains y.cover x.cover) → IsTrue (test x) → IsTrue (test y)) where
  outermost_at : (x : Cut) (xs : List Cut) (u v : Bool) → test x ≡ u → is_outdone xs x ≡ v → (IsTrue u → is_outdone (filter test xs) x ≡ v) → outermost (filter test xs) ≡ filter test (outermost xs)
      → outermost (cond u (x ∷ filter test xs) (filter test xs)) ≡ filter test (cond v (outermost xs) (x ∷ outermost xs))
  outermost_at x xs true true e f k ih = rw (k refl) ih
  outermost_at x xs true false e f k ih = rw (k refl, e) (ap (λ (ys : List Cut). x ∷ ys) ih)
  outermost_at x xs false true e f k ih = ih
  outermost_at x xs false false e f k ih = rw e ih

  -- where each cut stays that contains one that does, those that don't stay may go first
  pub outermost_filter : (cuts : List Cut) → IsByNumber cuts → outermost (filter test cuts) ≡ filter test (outermost cuts)
  outermost_filter [] o = refl
  outermost_filter (x ∷ xs) o =
      outermost_at x xs (test x) (is_outdone xs x) refl refl (λ t. any_kept (λ other. contains other.cover x.cover) test xs (All-weaker (λ other. x.number < other.number) (λ y. IsTrue (contains y.cover x.cover) → IsTrue (test y)) (λ y l c. around x y l c t) xs o.0)) (outermost_filter xs o.1)

not_within : (cover : Option Cover) (x y : Cut) → IsTrue (contains y.cover x.cover) → is_within cover x ≡ false → is_within cover y ≡ false
not_within None x y c h = refl
not_within (Some outer) x y c h = at (contains outer y.cover) refl
  where
    at : (v : Bool) → contains outer y.cover ≡ v → v ≡ false
    at true e = let t : IsTrue (contains outer x.cover) = contains_through outer y.cover x.cover e c in absurd (let no : true ≡ false = sym t ∙ h in cc)
    at false e = refl

neither_true : (s t : Bool) → not (s || t) ≡ true → (s ≡ false) × (t ≡ false)
neither_true true t h = absurd (cc)
neither_true false true h = absurd (cc)
neither_true false false h = (refl, refl)

stays_around : (cover : Option Cover) (least : Option ℕ) (x y : Cut) → x.number < y.number → IsTrue (contains y.cover x.cover) → IsTrue (stays cover least x) → IsTrue (stays cover least y)
stays_around cover least x y l c t =
    let n = neither_true (is_within cover x) (is_old least x) t in
    rw (not_within cover x y c n.0, not_older least x y n.1 l) refl

pub settled_after : (cover : Option Cover) (least : Option ℕ) (cuts : List Cut) → IsByNumber cuts → outermost (filter (stays cover least) cuts) ≡ remaining cover least cuts
settled_after cover least cuts o = outermost_filter (stays cover least) (stays_around cover least) cuts o ∙ sym (remaining_filters cover least cuts)

-- BY THE RULE

young : (cut : Cut) → is_old (Some 0) cut ≡ false
young cut = grind (arith, nat_tests)

pub outermost_by_rule : (cuts : List Cut) → IsByNumber cuts → outermost cuts ≡ filter (λ cut. not (is_outdone_among cuts cut)) cuts
outermost_by_rule cuts o =
    sym (filter_whole (λ cut. not (is_within None cut || is_old (Some 0) cut)) (outermost cuts) (λ k d l. ap not (young (get_or (outermost cuts) k d))))
    ∙ sym (remaining_filters None (Some 0) cuts)
    ∙ remaining_is_by_rule None (Some 0) cuts o
    ∙ filter_where (λ cut. not (is_within None cut || is_old (Some 0) cut || is_outdone_among cuts cut)) (λ cut. not (is_outdone_among cuts cut)) cuts
    (λ k d l. ap (λ (v : Bool). not (v || is_outdone_among cuts (get_or cuts k d))) (young (get_or cuts k d)))
