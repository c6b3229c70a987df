-- Lists with the same of each metatile are one another in another order, and what is in the order of puts.
use Rattle.std.proofs.Common.{◌≡◌, ◌≢◌, Bool, true, false, cond, not, List, [], ◌∷◌, ◌++◌, filter, Option, Some, None, refl, sym, ap, subst, ◌∙◌}
use Rattle.std.specs.List.{AllByRecursion, cons_option}
use Rattle.std.specs.List.Sorted.{IsPermutation}
use Rattle.std.specs.Option.{option_or}
use Rattle.std.proofs.lemmas.Grind.{fold-append}
use Rattle.std.proofs.lemmas.List.Folds.{find-append}
use Rattle.std.proofs.lemmas.List.Sorted.{IsPermutation-cons, IsPermutation-filter_both, IsPermutation-refl, IsPermutation-sym, IsPermutation-trans}
use Rattle.metatile_plan.specs.declared.metatile.MetaKey.{MetaKey}
use Rattle.metatile_plan.specs.Keys.{same_meta}
use Rattle.metatile_plan.proofs.Same.{same_meta_is, same_meta_self}
use Rattle.metatile_locks.proofs.Lists.{all_passed, find_filter, found}
use Rattle.cabinet.specs.declared.kept.KeptBlob.{KeptBlob}
use Rattle.cabinet.specs.Fresh.{ApartBy}
use Rattle.cabinet.specs.History.{is_of}
use Rattle.cabinet.specs.Ordered.{IsOrderOf, held_at, in_order, order_of}
use Rattle.cabinet.proofs.Lists.{all_of}
use Rattle.cabinet.proofs.Numbers.{apart_filter, apart_push}
use Rattle.cabinet.proofs.Once.{off_of}
use Rattle.cabinet.proofs.UsesAfter.{same_swap}

-- ONE METATILE

-- the others of a list
abbrev pub others : MetaKey → List KeptBlob → List KeptBlob
others m blobs = filter (λ b. not (is_of m b.kept)) blobs

-- what is found is of the metatile
pub held_key : (m : MetaKey) (blobs : List KeptBlob) (b : KeptBlob) → held_at blobs m ≡ Some b → b.kept.meta ≡ m
held_key m blobs b e = same_meta_is b.kept.meta m (found (λ (x : KeptBlob). is_of m x.kept) (λ x. Unit {0}) blobs b (all_of (λ x. Unit {0}) blobs (λ x has. tt)) e).0

none_of : (m : MetaKey) (blobs : List KeptBlob) → AllByRecursion (λ b. m ≢ b.kept.meta) blobs → filter (λ b. is_of m b.kept) blobs ≡ []
none_of m [] a = refl
none_of m (b ∷ bs) a = rw (off_of m b.kept.meta a.0) (none_of m bs a.1)

none_at : (m : MetaKey) (blobs : List KeptBlob) → AllByRecursion (λ b. m ≢ b.kept.meta) blobs → held_at blobs m ≡ None
none_at m [] a = refl
none_at m (b ∷ bs) a = rw (off_of m b.kept.meta a.0) (none_at m bs a.1)

-- it stands alone
pub one_of : (m : MetaKey) (x : KeptBlob) (blobs : List KeptBlob) → ApartBy (λ b. b.kept.meta) blobs → held_at blobs m ≡ Some x → filter (λ b. is_of m b.kept) blobs ≡ x ∷ []
one_of m x [] a e = absurd (cc)
one_of m x (b ∷ bs) a e = chosen (is_of m b.kept) refl e (one_of m x bs a.1)
  where
    chosen : (v : Bool) → is_of m b.kept ≡ v → cond v (Some b) (held_at bs m) ≡ Some x → (held_at bs m ≡ Some x → filter (λ b. is_of m b.kept) bs ≡ x ∷ [])
        → cond v (b ∷ filter (λ b. is_of m b.kept) bs) (filter (λ b. is_of m b.kept) bs) ≡ x ∷ []
    chosen true is e ih =
        let same : b ≡ x = cc in
        let none = none_of m bs (subst (λ (n : MetaKey). AllByRecursion (λ y. n ≢ y.kept.meta) bs) (same_meta_is b.kept.meta m is) a.0) in
        λ i. same i ∷ none i
    chosen false is e ih = ih e

-- what is found of each metatile among the others of one
pub others_at : (m k : MetaKey) (blobs : List KeptBlob) → held_at (others m blobs) k ≡ cond (same_meta k m) None (held_at blobs k)
others_at m k blobs =
    find_filter (λ (b : KeptBlob). is_of k b.kept) (λ b. not (is_of m b.kept)) (not (same_meta k m)) (λ b is. ap (λ (n : MetaKey). not (same_meta n m)) (same_meta_is b.kept.meta k is)) blobs
    ∙ turned (same_meta k m) (held_at blobs k)
  where
    turned : (v : Bool) (o : Option KeptBlob) → cond (not v) o None ≡ cond v None o
    turned true o = refl
    turned false o = refl

others_apart : (m : MetaKey) (blobs : List KeptBlob) → ApartBy (λ b. b.kept.meta) blobs → ApartBy (λ b. b.kept.meta) (others m blobs)
others_apart m blobs a = apart_filter (λ (b : KeptBlob). b.kept.meta) (λ b. not (is_of m b.kept)) blobs a

others_off : (m : MetaKey) (blobs : List KeptBlob) → AllByRecursion (λ b. b.kept.meta ≢ m) (others m blobs)
others_off m blobs = all_passed (λ (b : KeptBlob). Unit {0}) (λ b. b.kept.meta ≢ m) (λ b. not (is_of m b.kept)) (λ b off u. differs b.kept.meta off) blobs (all_of (λ (b : KeptBlob). Unit {0}) blobs (λ b has. tt))
  where
    differs : (n : MetaKey) → not (same_meta n m) ≡ true → n ≢ m
    differs n off e = absurd (let same = subst (λ (x : MetaKey). same_meta n x ≡ true) e (same_meta_self n) in let f : not (same_meta n m) ≡ not true = ap not same in cc)

-- ANOTHER ORDER

pub reordered : (xs ys : List KeptBlob) → ApartBy (λ b. b.kept.meta) xs → ApartBy (λ b. b.kept.meta) ys → ((m : MetaKey) → held_at xs m ≡ held_at ys m) → IsPermutation xs ys
reordered [] [] a b same = IsPermutation-refl []
reordered [] (y ∷ ys) a b same = absurd (
    let on = same_meta_self y.kept.meta in
    let e : None ≡ cond (same_meta y.kept.meta y.kept.meta) (Some y) (held_at ys y.kept.meta) = same y.kept.meta in
    let f : ◌≡◌ {A = Option KeptBlob} None (Some y) = e ∙ ap (λ (v : Bool). cond v (Some y) (held_at ys y.kept.meta)) on in
    cc
    )
reordered (x ∷ xs) ys a b same =
    let m = x.kept.meta in
    let here : held_at (x ∷ xs) m ≡ Some x = ap (λ (v : Bool). cond v (Some x) (held_at xs m)) (same_meta_self m) in
    let one = one_of m x ys b (sym (same m) ∙ here) in
    let rest = reordered xs (others m ys) a.1 (others_apart m ys b) (λ k. left k (same_meta k m) refl) in
    IsPermutation-trans (x ∷ xs) (x ∷ others m ys) ys (IsPermutation-cons x xs (others m ys) rest)
    (IsPermutation-sym ys (x ∷ others m ys) (subst (λ (f : List KeptBlob). IsPermutation ys (f ++ others m ys)) one (IsPermutation-filter_both (λ (b : KeptBlob). is_of m b.kept) (λ b. not (is_of m b.kept)) (λ b. refl) ys)))
  where
    left : (k : MetaKey) (v : Bool) → same_meta k x.kept.meta ≡ v → held_at xs k ≡ held_at (others x.kept.meta ys) k
    left k true is =
        let at : k ≡ x.kept.meta = same_meta_is k x.kept.meta is in
        subst (λ (n : MetaKey). held_at xs n ≡ None) (sym at) (none_at x.kept.meta xs a.0) ∙ sym (others_at x.kept.meta k ys ∙ ap (λ (v : Bool). cond v None (held_at ys k)) is)
    left k false is =
        let off : same_meta x.kept.meta k ≡ false = same_swap x.kept.meta k ∙ is in
        sym (ap (λ (v : Bool). cond v (Some x) (held_at xs k)) off) ∙ same k ∙ sym (others_at x.kept.meta k ys ∙ ap (λ (v : Bool). cond v None (held_at ys k)) is)

pub permuted : (blobs held : List KeptBlob) → IsOrderOf blobs held → IsPermutation blobs held
permuted blobs held o = reordered blobs held o.once o.held_once o.same

-- THE ORDER OF PUTS

module _ (m : MetaKey) (w : Option KeptBlob) (held later : List KeptBlob) (is : (k : MetaKey) → held_at later k ≡ cond (same_meta k m) w (held_at held k)) where
  -- the other metatiles, in the order of these
  others_put : (ms : List MetaKey) → in_order (filter (λ n. not (same_meta n m)) ms) later ≡ others m (in_order ms held)
  others_put [] = refl
  others_put (n ∷ ms) = chosen (same_meta n m) refl (held_at held n) refl (others_put ms)
    where
      chosen : (v : Bool) → same_meta n m ≡ v → (o : Option KeptBlob) → held_at held n ≡ o → in_order (filter (λ n. not (same_meta n m)) ms) later ≡ others m (in_order ms held)
          → in_order (cond (not v) (n ∷ filter (λ n. not (same_meta n m)) ms) (filter (λ n. not (same_meta n m)) ms)) later ≡ others m (cons_option o (in_order ms held))
      chosen true of None at ih = ih
      chosen true of (Some b) at ih = let on : is_of m b.kept ≡ true = ap (λ (k : MetaKey). same_meta k m) (held_key n held b at) ∙ of in rw on ih
      chosen false of None at ih = let e : held_at later n ≡ None = is n ∙ (λ i. cond (of i) w (at i)) in rw e ih
      chosen false of (Some b) at ih =
          let off : is_of m b.kept ≡ false = ap (λ (k : MetaKey). same_meta k m) (held_key n held b at) ∙ of in
          let e : held_at later n ≡ Some b = is n ∙ (λ i. cond (of i) w (at i)) in
          rw (e, off) (ap (λ (bs : List KeptBlob). b ∷ bs) ih)

in_order_both : (ms ns : List MetaKey) (held : List KeptBlob) → in_order (ms ++ ns) held ≡ in_order ms held ++ in_order ns held
in_order_both [] ns held = refl
in_order_both (m ∷ ms) ns held = chosen (held_at held m) (in_order_both ms ns held)
  where
    chosen : (o : Option KeptBlob) → in_order (ms ++ ns) held ≡ in_order ms held ++ in_order ns held → cons_option o (in_order (ms ++ ns) held) ≡ cons_option o (in_order ms held) ++ in_order ns held
    chosen None ih = ih
    chosen (Some b) ih = ap (λ (bs : List KeptBlob). b ∷ bs) ih

-- one that is put comes last
pub put_last : (b : KeptBlob) (puts : List MetaKey) (held later : List KeptBlob) → ((k : MetaKey) → held_at later k ≡ cond (same_meta k b.kept.meta) (Some b) (held_at held k))
    → in_order (order_of (puts ++ b.kept.meta ∷ [])) later ≡ others b.kept.meta (in_order (order_of puts) held) ++ b ∷ []
put_last b puts held later is =
    let m = b.kept.meta in
    let order : order_of (puts ++ m ∷ []) ≡ filter (λ n. not (same_meta n m)) (order_of puts) ++ m ∷ [] = rw fold-append refl in
    let here : held_at later m ≡ Some b = is m ∙ ap (λ (v : Bool). cond v (Some b) (held_at held m)) (same_meta_self m) in
    ap (λ (ms : List MetaKey). in_order ms later) order
    ∙ in_order_both (filter (λ n. not (same_meta n m)) (order_of puts)) (m ∷ []) later
    ∙ (λ i. others_put m (Some b) held later is (order_of puts) i ++ cons_option (here i) [])

-- one that is dropped is left out
pub dropped_out : (m : MetaKey) (held later : List KeptBlob) → ((k : MetaKey) → held_at later k ≡ cond (same_meta k m) None (held_at held k)) → (ms : List MetaKey) → in_order ms later ≡ others m (in_order ms held)
dropped_out m held later is ms = passed_over ms ∙ others_put m None held later is ms
  where
    passed_over : (ms : List MetaKey) → in_order ms later ≡ in_order (filter (λ n. not (same_meta n m)) ms) later
    passed_over [] = refl
    passed_over (n ∷ ms) = chosen (same_meta n m) refl (passed_over ms)
      where
        chosen : (v : Bool) → same_meta n m ≡ v → in_order ms later ≡ in_order (filter (λ n. not (same_meta n m)) ms) later
            → in_order (n ∷ ms) later ≡ in_order (cond (not v) (n ∷ filter (λ n. not (same_meta n m)) ms) (filter (λ n. not (same_meta n m)) ms)) later
        chosen true of ih = let e : held_at later n ≡ None = is n ∙ ap (λ (v : Bool). cond v None (held_at held n)) of in rw e ih
        chosen false of ih = ap (cons_option (held_at later n)) ih

-- and both stay the same of each metatile
pub put_order : (b : KeptBlob) (blobs held later : List KeptBlob) → IsOrderOf blobs held → ApartBy (λ b. b.kept.meta) later → ((k : MetaKey) → held_at later k ≡ cond (same_meta k b.kept.meta) (Some b) (held_at held k)) → IsOrderOf (others b.kept.meta blobs ++ b ∷ []) later
put_order b blobs held later o apart is = record {
  once = apart_push (λ (x : KeptBlob). x.kept.meta) (others b.kept.meta blobs) b (others_apart b.kept.meta blobs o.once) (others_off b.kept.meta blobs);
  held_once = apart;
  same = λ k.
      find-append (λ (x : KeptBlob). is_of k x.kept) (others b.kept.meta blobs) (b ∷ [])
      ∙ (λ i. option_or (others_at b.kept.meta k blobs i) (cond (same_swap b.kept.meta k i) (Some b) None))
      ∙ joined (same_meta k b.kept.meta) (held_at blobs k) ∙ ap (cond (same_meta k b.kept.meta) (Some b)) (o.same k) ∙ sym (is k);
}
  where
    joined : (v : Bool) (f : Option KeptBlob) → option_or (cond v None f) (cond v (Some b) None) ≡ cond v (Some b) f
    joined true f = refl
    joined false None = refl
    joined false (Some x) = refl

pub drop_order : (m : MetaKey) (blobs held later : List KeptBlob) → IsOrderOf blobs held → ApartBy (λ b. b.kept.meta) later → ((k : MetaKey) → held_at later k ≡ cond (same_meta k m) None (held_at held k)) → IsOrderOf (others m blobs) later
drop_order m blobs held later o apart is = record {
  once = others_apart m blobs o.once;
  held_once = apart;
  same = λ k. others_at m k blobs ∙ ap (cond (same_meta k m) None) (o.same k) ∙ sym (is k);
}
