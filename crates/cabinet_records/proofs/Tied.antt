-- What a replay keeps, its regions and the places of its numbers, where one is dropped, kept or counted.
use Rattle.std.proofs.Common.{ℕ, ◌≡◌, ◌≢◌, ◌+◌, ◌<◌, ◌==◌, Bool, true, false, cond, not, List, [], ◌∷◌, ◌++◌, map, filter, find, Option, Some, None, refl, sym, ap, subst, ◌∙◌, arith}
use Rattle.std.specs.Prelude.{IsSome, IsSomeAnd, unwrap_or}
use Rattle.std.specs.List.{AllByRecursion, Contains}
use Rattle.std.specs.Option.{option_or}
use Rattle.std.proofs.lemmas.Bool.Decides.{nat_tests}
use Rattle.std.proofs.lemmas.List.Folds.{find-append}
use Rattle.extent_map.specs.declared.part.Extent.{Extent}
use Rattle.extent_map.specs.Parts.{LieInOrder, inserted}
use Rattle.extent_map.specs.Spaces.{IsSound, IsTaken, Space}
use Rattle.metatile_locks.proofs.Lists.{all_filter, all_joined, all_map, all_weaker}
use Rattle.metatile_plan.specs.declared.metatile.MetaKey.{MetaKey}
use Rattle.cabinet.specs.declared.kept.Kept.{Kept}
use Rattle.cabinet.specs.Fresh.{ApartBy}
use Rattle.cabinet.specs.Gaps.{region, regions}
use Rattle.cabinet.specs.History.{but, is_of, with_uses}
use Rattle.cabinet_records.specs.Placed.{ArePlaced, AreTied, RisesBy, has_number, place_at}
use Rattle.cabinet.proofs.Lists.{all_both, all_push}
use Rattle.cabinet.proofs.Numbers.{apart_filter, apart_push}
use Rattle.cabinet.proofs.Once.{apart_around, one_kept}
use Rattle.cabinet.proofs.Regions.{alone, has_inserted, last_of, one_of, taken_out}

-- WHAT RISES

pub rises_filter : {X : Type 0} (f : X → ℕ) (p : X → Bool) (xs : List X) → RisesBy f xs → RisesBy f (filter p xs)
rises_filter f p [] a = tt
rises_filter f p (x ∷ xs) a = chosen (p x) (rises_filter f p xs a.1)
  where
    chosen : (v : Bool) → RisesBy f (filter p xs) → RisesBy f (cond v (x ∷ filter p xs) (filter p xs))
    chosen true rest = (all_filter (λ y. f x < f y) p xs a.0, rest)
    chosen false rest = rest

pub rises_push : {X : Type 0} (f : X → ℕ) (xs : List X) (y : X) → RisesBy f xs → AllByRecursion (λ x. f x < f y) xs → RisesBy f (xs ++ y ∷ [])
rises_push f [] y a b = (tt, tt)
rises_push f (x ∷ xs) y a b = (all_push (λ z. f x < f z) xs y a.0 b.0, rises_push f xs y a.1 b.1)

-- by what is the same of each
pub rises_same : {X : Type 0} (f g : X → ℕ) (xs : List X) → AllByRecursion (λ x. f x ≡ g x) xs → RisesBy f xs → RisesBy g xs
rises_same f g [] e a = tt
rises_same f g (x ∷ xs) e a = (
  all_weaker (λ y. (f x < f y) × (f y ≡ g y)) (λ y. g x < g y) (λ y h. let u = e.0 in let l = h.0 in let v = h.1 in omega arith) xs (all_both (λ y. f x < f y) (λ y. f y ≡ g y) xs a.0 e.1),
  rises_same f g xs e.1 a.1,
)

pub rises_map : {X : Type 0} (f : X → ℕ) (h : X → X) → ((x : X) → f (h x) ≡ f x) → (xs : List X) → RisesBy f xs → RisesBy f (map h xs)
rises_map f h same [] a = tt
rises_map f h same (x ∷ xs) a = (
  all_map h (λ y. f (h x) < f y) xs (all_weaker (λ y. f x < f y) (λ y. f (h x) < f (h y)) (λ y l. let u = same x in let v = same y in omega arith) xs a.0),
  rises_map f h same xs a.1,
)

-- what rises by a number of a number has numbers of its own
pub rises_apart : {X : Type 0} (g : ℕ → ℕ) (n : X → ℕ) (xs : List X) → RisesBy (λ x. g (n x)) xs → ApartBy n xs
rises_apart g n [] a = tt
rises_apart g n (x ∷ xs) a = (
  all_weaker (λ y. g (n x) < g (n y)) (λ y. n x ≢ n y) (λ y l e. let same : g (n x) ≡ g (n y) = ap g e in omega arith) xs a.0,
  rises_apart g n xs a.1,
)

-- NUMBERS

pub numbers_apart : (places : ℕ → Option ℕ) (next : ℕ) (kept : List Kept) → ArePlaced places next kept → ApartBy (λ t. t.number) kept
numbers_apart places next kept p = rises_apart (λ n. unwrap_or (places n) 0) (λ t. t.number) kept p.rising

same_number : (n : ℕ) → (n == n) ≡ true
same_number n = grind (arith, nat_tests)

-- another number is not this one
pub not_number : (k n : ℕ) → k ≢ n → (k == n) ≡ false
not_number k n off = chosen (k == n) refl
  where
    chosen : (v : Bool) → (k == n) ≡ v → v ≡ false
    chosen true e = absurd (off (grind (arith, nat_tests)))
    chosen false e = refl

-- where one number has another place or none, the others have their own
pub place_off : (places later : ℕ → Option ℕ) (k : ℕ) (w : Option ℕ) (n : ℕ) → ((n : ℕ) → later n ≡ cond (k == n) w (places n)) → k ≢ n → later n ≡ places n
place_off places later k w n is off = is n ∙ ap (λ (v : Bool). cond v w (places n)) (not_number k n off)

-- the others of one that is kept differ in number
pub others_differ : (places : ℕ → Option ℕ) (next : ℕ) (kept : List Kept) (m : MetaKey) (t : Kept) → ApartBy (λ t. t.meta) kept → ArePlaced places next kept → find (is_of m) kept ≡ Some t → AllByRecursion (λ u. t.number ≢ u.number) (but m kept)
others_differ places next kept m t once p e =
    let one = one_kept m t kept once e in
    let around = apart_around (λ (x : Kept). x.number) one.before t one.behind (subst (ApartBy (λ t. t.number)) one.there (numbers_apart places next kept p)) in
    subst (AllByRecursion (λ u. t.number ≢ u.number)) (sym one.others) (all_joined (λ (u : Kept). t.number ≢ u.number) one.before one.behind around.0 around.1)

-- what is found of another number
pub found_off : (kept : List Kept) (m : MetaKey) (t : Kept) (n : ℕ) → ApartBy (λ t. t.meta) kept → find (is_of m) kept ≡ Some t → (t.number == n) ≡ false → find (has_number n) kept ≡ find (has_number n) (but m kept)
found_off kept m t n once e off =
    let one = one_kept m t kept once e in
    ap (find (has_number n)) one.there
    ∙ find-append (has_number n) one.before (t ∷ one.behind)
    ∙ ap (λ (v : Bool). option_or (find (has_number n) one.before) (cond v (Some t) (find (has_number n) one.behind))) off
    ∙ sym (find-append (has_number n) one.before one.behind)
    ∙ ap (find (has_number n)) (sym one.others)

-- ONE IS DROPPED

dropped_placed : (places later : ℕ → Option ℕ) (next : ℕ) (kept : List Kept) (m : MetaKey) (t : Kept) → ApartBy (λ t. t.meta) kept → ArePlaced places next kept → find (is_of m) kept ≡ Some t
    → ((n : ℕ) → later n ≡ cond (t.number == n) None (places n)) → ArePlaced later next (but m kept)
dropped_placed places later next kept m t once p e is =
    let differ = others_differ places next kept m t once p e in
    let rest = but m kept in
    record {
      each = all_weaker (λ (u : Kept). IsSomeAnd (places u.number) (λ place. place < next) × (t.number ≢ u.number)) (λ u. IsSomeAnd (later u.number) (λ place. place < next))
          (λ u h. subst (λ (o : Option ℕ). IsSomeAnd o (λ place. place < next)) (sym (place_off places later t.number None u.number is h.1)) h.0) rest
          (all_both (λ (u : Kept). IsSomeAnd (places u.number) (λ place. place < next)) (λ u. t.number ≢ u.number) rest (all_filter (λ (u : Kept). IsSomeAnd (places u.number) (λ place. place < next)) (λ u. not (is_of m u)) kept p.each) differ);
      rising = rises_same (place_at places) (place_at later) rest
          (all_weaker (λ (u : Kept). t.number ≢ u.number) (λ u. place_at places u ≡ place_at later u) (λ u off. ap (λ (o : Option ℕ). unwrap_or o 0) (sym (place_off places later t.number None u.number is off))) rest differ)
          (rises_filter (place_at places) (λ u. not (is_of m u)) kept p.rising);
      only = λ n some. chosen n (t.number == n) refl (subst IsSome (is n) some);
    }
  where
    chosen : (n : ℕ) (v : Bool) → (t.number == n) ≡ v → IsSome (cond v None (places n)) → IsSome (find (has_number n) (but m kept))
    chosen n true of some = absurd (cc)
    chosen n false off some = subst IsSome (found_off kept m t n once e off) (p.only n some)

-- its region is taken
pub region_there : (kept : List Kept) (space : Space) (m : MetaKey) (t : Kept) → ApartBy (λ t. t.meta) kept → space.parts ≡ regions kept → IsSound space → find (is_of m) kept ≡ Some t → space.parts ≡ inserted (region t) (regions (but m kept))
region_there kept space m t once parts order e =
    let one = one_kept m t kept once e in
    let whole = parts ∙ ap regions one.there in
    whole ∙ one_of 0 one.before t one.behind space.size (subst (λ (ps : List Extent). LieInOrder 0 ps space.size) whole order) ∙ ap (λ (ts : List Kept). inserted (region t) (regions ts)) (sym one.others)

pub region_taken : (next : ℕ) (kept : List Kept) (space : Space) (places : ℕ → Option ℕ) (m : MetaKey) (t : Kept) → AreTied next kept space places → find (is_of m) kept ≡ Some t → Contains space.parts (region t)
region_taken next kept space places m t a e =
    subst (λ (ps : List Extent). Contains ps (region t)) (sym (region_there kept space m t a.once a.parts a.order e)) (has_inserted (region t) (regions (but m kept)))

pub dropped_tied : (next : ℕ) (kept : List Kept) (space given : Space) (places later : ℕ → Option ℕ) (m : MetaKey) (t : Kept) → AreTied next kept space places → find (is_of m) kept ≡ Some t → IsSound given → IsTaken given (region t) space
    → ((n : ℕ) → later n ≡ cond (t.number == n) None (places n)) → AreTied next (but m kept) given later
dropped_tied next kept space given places later m t a e sound taken is = record {
  once = apart_filter (λ (t : Kept). t.meta) (λ t. not (is_of m t)) kept a.once;
  parts = taken_out 0 (region t) given.parts (regions (but m kept)) space.size (subst (λ (ps : List Extent). LieInOrder 0 ps space.size) taken.entered a.order) (sym taken.entered ∙ region_there kept space m t a.once a.parts a.order e);
  order = sound;
  placed = dropped_placed places later next kept m t a.once a.placed e is;
}

-- ONE MORE IS KEPT

pub later_placed : (places : ℕ → Option ℕ) (next : ℕ) (kept : List Kept) → ArePlaced places next kept → ArePlaced places (next + 1) kept
later_placed places next kept p = record {
  each = all_weaker (λ (u : Kept). IsSomeAnd (places u.number) (λ place. place < next)) (λ u. IsSomeAnd (places u.number) (λ place. place < next + 1)) (λ u h. more (places u.number) h) kept p.each;
  rising = p.rising;
  only = p.only;
}
  where
    more : (o : Option ℕ) → IsSomeAnd o (λ place. place < next) → IsSomeAnd o (λ place. place < next + 1)
    more None h = h
    more (Some place) h = omega arith

pub later_tied : (next : ℕ) (kept : List Kept) (space : Space) (places : ℕ → Option ℕ) → AreTied next kept space places → AreTied (next + 1) kept space places
later_tied next kept space places a = record { once = a.once; parts = a.parts; order = a.order; placed = later_placed places next kept a.placed }

pushed_placed : (places later : ℕ → Option ℕ) (next : ℕ) (kept : List Kept) (t : Kept) → ArePlaced places next kept → AllByRecursion (λ u. t.number ≢ u.number) kept
    → ((n : ℕ) → later n ≡ cond (t.number == n) (Some next) (places n)) → ArePlaced later (next + 1) (kept ++ t ∷ [])
pushed_placed places later next kept t p differ is =
    let last : later t.number ≡ Some next = is t.number ∙ ap (λ (v : Bool). cond v (Some next) (places t.number)) (same_number t.number) in
    let same = all_weaker (λ (u : Kept). t.number ≢ u.number) (λ u. places u.number ≡ later u.number) (λ u off. sym (place_off places later t.number (Some next) u.number is off)) kept differ in
    record {
      each = all_push (λ (u : Kept). IsSomeAnd (later u.number) (λ place. place < next + 1)) kept t
          (all_weaker (λ (u : Kept). IsSomeAnd (places u.number) (λ place. place < next + 1) × (places u.number ≡ later u.number)) (λ u. IsSomeAnd (later u.number) (λ place. place < next + 1))
          (λ u h. subst (λ (o : Option ℕ). IsSomeAnd o (λ place. place < next + 1)) h.1 h.0) kept
          (all_both (λ (u : Kept). IsSomeAnd (places u.number) (λ place. place < next + 1)) (λ u. places u.number ≡ later u.number) kept (later_placed places next kept p).each same))
          (subst (λ (o : Option ℕ). IsSomeAnd o (λ place. place < next + 1)) (sym last) (omega arith));
      rising = rises_push (place_at later) kept t
          (rises_same (place_at places) (place_at later) kept (all_weaker (λ (u : Kept). places u.number ≡ later u.number) (λ u. place_at places u ≡ place_at later u) (λ u e. ap (λ (o : Option ℕ). unwrap_or o 0) e) kept same) p.rising)
          (all_weaker (λ (u : Kept). IsSomeAnd (places u.number) (λ place. place < next) × (places u.number ≡ later u.number)) (λ u. place_at later u < place_at later t)
          (λ u h. subst (λ (o : Option ℕ). place_at later u < unwrap_or o 0) (sym last) (below (places u.number) (later u.number) h.0 h.1)) kept
          (all_both (λ (u : Kept). IsSomeAnd (places u.number) (λ place. place < next)) (λ u. places u.number ≡ later u.number) kept p.each same));
      only = λ n some. chosen n (t.number == n) refl (subst IsSome (is n) some);
    }
  where
    below : (o later : Option ℕ) → IsSomeAnd o (λ place. place < next) → o ≡ later → unwrap_or later 0 < next
    below None later h e = absurd h
    below (Some place) later h e = subst (λ (x : Option ℕ). unwrap_or x 0 < next) e h

    one_more : (n : ℕ) (o : Option Kept) (v : Bool) → IsSome o → IsSome (option_or o (cond v (Some t) None))
    one_more n None v some = absurd (cc)
    one_more n (Some x) v some = refl

    last_one : (o : Option Kept) → IsSome (option_or o (Some t))
    last_one None = refl
    last_one (Some x) = refl

    chosen : (n : ℕ) (v : Bool) → (t.number == n) ≡ v → IsSome (cond v (Some next) (places n)) → IsSome (find (has_number n) (kept ++ t ∷ []))
    chosen n true of some = subst IsSome (sym (find-append (has_number n) kept (t ∷ []) ∙ ap (λ (v : Bool). option_or (find (has_number n) kept) (cond v (Some t) None)) of)) (last_one (find (has_number n) kept))
    chosen n false off some = subst IsSome (sym (find-append (has_number n) kept (t ∷ []))) (one_more n (find (has_number n) kept) (has_number n t) (p.only n some))

pub pushed_tied : (next : ℕ) (kept : List Kept) (space taken : Space) (places later : ℕ → Option ℕ) (t : Kept) → AreTied next kept space places → AllByRecursion (λ u. t.number ≢ u.number) kept → AllByRecursion (λ u. u.meta ≢ t.meta) kept
    → IsSound taken → IsTaken space (region t) taken → ((n : ℕ) → later n ≡ cond (t.number == n) (Some next) (places n)) → AreTied (next + 1) (kept ++ t ∷ []) taken later
pushed_tied next kept space taken places later t a differ off sound took is = record {
  once = apart_push (λ (t : Kept). t.meta) kept t a.once off;
  parts = took.entered ∙ ap (inserted (region t)) a.parts ∙ sym (last_of t kept (subst (λ (ps : List Extent). AllByRecursion (λ x. x.place ≢ t.place) ps) a.parts
      (alone 0 (region t) space.parts taken.size (subst (λ (ps : List Extent). LieInOrder 0 ps taken.size) took.entered sound)).places));
  order = sound;
  placed = pushed_placed places later next kept t a.placed differ is;
}

-- USES ARE SET

abbrev counted : ℕ → Kept → Kept
counted n t = record { number = t.number; meta = t.meta; place = t.place; length = t.length; moment = t.moment; uses = n }

counted_same : {Y : Type 0} (h : Kept → Y) (m : MetaKey) (n : ℕ) → ((t : Kept) → h (counted n t) ≡ h t) → (t : Kept) → h (with_uses m n t) ≡ h t
counted_same h m n f t = chosen (is_of m t)
  where
    chosen : (v : Bool) → h (cond v (counted n t) t) ≡ h t
    chosen true = f t
    chosen false = refl

counted_regions : (m : MetaKey) (n : ℕ) (kept : List Kept) → regions (map (with_uses m n) kept) ≡ regions kept
counted_regions m n [] = refl
counted_regions m n (t ∷ ts) = λ i. inserted (counted_same region m n (λ t. refl) t i) (counted_regions m n ts i)

counted_found : (m : MetaKey) (n k : ℕ) (kept : List Kept) → IsSome (find (has_number k) kept) → IsSome (find (has_number k) (map (with_uses m n) kept))
counted_found m n k [] h = absurd (cc)
counted_found m n k (t ∷ ts) h =
    subst (λ (x : ℕ). IsSome (cond (x == k) (Some (with_uses m n t)) (find (has_number k) (map (with_uses m n) ts)))) (sym (counted_same (λ (x : Kept). x.number) m n (λ t. refl) t)) (chosen (t.number == k) h (counted_found m n k ts))
  where
    chosen : (v : Bool) → IsSome (cond v (Some t) (find (has_number k) ts)) → (IsSome (find (has_number k) ts) → IsSome (find (has_number k) (map (with_uses m n) ts))) → IsSome (cond v (Some (with_uses m n t)) (find (has_number k) (map (with_uses m n) ts)))
    chosen true h ih = refl
    chosen false h ih = ih h

counted_apart : (m : MetaKey) (n : ℕ) (kept : List Kept) → ApartBy (λ t. t.meta) kept → ApartBy (λ t. t.meta) (map (with_uses m n) kept)
counted_apart m n [] a = tt
counted_apart m n (t ∷ ts) a =
    let same = counted_same (λ (x : Kept). x.meta) m n (λ t. refl) in (
      all_map (with_uses m n) (λ (y : Kept). (with_uses m n t).meta ≢ y.meta) ts (all_weaker (λ (y : Kept). t.meta ≢ y.meta) (λ y. (with_uses m n t).meta ≢ (with_uses m n y).meta) (λ y off e. off (sym (same t) ∙ e ∙ same y)) ts a.0),
      counted_apart m n ts a.1,
    )

pub counted_tied : (next : ℕ) (kept : List Kept) (space : Space) (places : ℕ → Option ℕ) (m : MetaKey) (n : ℕ) → AreTied next kept space places → AreTied next (map (with_uses m n) kept) space places
counted_tied next kept space places m n a =
    let number = counted_same (λ (x : Kept). x.number) m n (λ t. refl) in
    record {
      once = counted_apart m n kept a.once;
      parts = a.parts ∙ sym (counted_regions m n kept);
      order = a.order;
      placed = record {
        each = all_map (with_uses m n) (λ (u : Kept). IsSomeAnd (places u.number) (λ place. place < next)) kept
            (all_weaker (λ (u : Kept). IsSomeAnd (places u.number) (λ place. place < next)) (λ u. IsSomeAnd (places (with_uses m n u).number) (λ place. place < next))
            (λ u h. subst (λ (x : ℕ). IsSomeAnd (places x) (λ place. place < next)) (sym (number u)) h) kept a.placed.each);
        rising = rises_map (place_at places) (with_uses m n) (λ u. ap (λ (x : ℕ). unwrap_or (places x) 0) (number u)) kept a.placed.rising;
        only = λ k some. counted_found m n k kept (a.placed.only k some);
      };
    }
