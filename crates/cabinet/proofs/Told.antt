-- What is told of a list from another order of it.
use Rattle.std.proofs.Common.{ℕ, ◌≡◌, ◌+◌, ◌≤◌, false, not, List, [], ◌∷◌, length, map, fold, Option, Some, None, find, refl, sym, ap, subst, ◌∙◌, arith}
use Rattle.std.specs.Prelude.{IsSome}
use Rattle.std.specs.List.{AllByRecursion}
use Rattle.std.specs.List.Sorted.{IsPermutation}
use Rattle.std.specs.Option.{option_map}
use Rattle.std.proofs.lemmas.List.{length-map, nil_from_length}
use Rattle.std.proofs.lemmas.List.Elements.{All-from_recursion, recursion_from_All}
use Rattle.std.proofs.lemmas.List.Filters.{length-filter_both}
use Rattle.std.proofs.lemmas.List.Sorted.{All-permutation, IsPermutation-sym, length_permutation}
use Rattle.metatile_plan.specs.declared.metatile.MetaKey.{MetaKey}
use Rattle.metatile_locks.proofs.Lists.{none_passes}
use Rattle.cabinet.specs.declared.kept.Blob.{Blob}
use Rattle.cabinet.specs.declared.kept.Kept.{Kept}
use Rattle.cabinet.specs.declared.kept.KeptBlob.{KeptBlob}
use Rattle.cabinet.specs.Fresh.{ApartBy}
use Rattle.cabinet.specs.History.{is_of, lesser}
use Rattle.cabinet.specs.Ordered.{IsOrderOf, as_kept, held_at, held_of}
use Rattle.cabinet.proofs.Holding.{least_has, least_most}
use Rattle.cabinet.proofs.Lists.{find_map}
use Rattle.cabinet.proofs.Orders.{one_of, others, permuted}

-- COUNTS

pub told_count : (es : List (MetaKey × Blob)) (blobs : List KeptBlob) → IsOrderOf blobs (held_of es) → length es ≡ length blobs
told_count es blobs o = sym (length-map es as_kept) ∙ length_permutation blobs (held_of es) (permuted blobs (held_of es) o)

no_others : (m : MetaKey) (blobs : List KeptBlob) → AllByRecursion (λ b. is_of m b.kept ≡ false) blobs → length (others m blobs) ≡ length blobs
no_others m [] a = refl
no_others m (b ∷ bs) a = rw a.0 (let ih = no_others m bs a.1 in omega arith)

pub others_of_none : (m : MetaKey) (blobs : List KeptBlob) → held_at blobs m ≡ None → length (others m blobs) ≡ length blobs
others_of_none m blobs e = no_others m blobs (none_passes (λ (b : KeptBlob). is_of m b.kept) blobs e)

others_of_one : (m : MetaKey) (x : KeptBlob) (blobs : List KeptBlob) → ApartBy (λ b. b.kept.meta) blobs → held_at blobs m ≡ Some x → length (others m blobs) + 1 ≡ length blobs
others_of_one m x blobs a e =
    let both = length-filter_both (λ (b : KeptBlob). is_of m b.kept) (λ b. not (is_of m b.kept)) (λ b. refl) blobs in
    let one = ap length (one_of m x blobs a e) in
    omega arith

pub others_of_some : (m : MetaKey) (blobs : List KeptBlob) → ApartBy (λ b. b.kept.meta) blobs → IsSome (held_at blobs m) → length (others m blobs) + 1 ≡ length blobs
others_of_some m blobs a some = chosen (held_at blobs m) refl some
  where
    chosen : (o : Option KeptBlob) → held_at blobs m ≡ o → IsSome o → length (others m blobs) + 1 ≡ length blobs
    chosen None e h = absurd (cc)
    chosen (Some x) e h = others_of_one m x blobs a e

-- ONE METATILE

pub told_kept : (blobs held : List KeptBlob) (t : Kept) (b : KeptBlob) → IsOrderOf blobs held → t ≡ b.kept → held_at held b.kept.meta ≡ Some b → find (is_of t.meta) (map (λ b. b.kept) blobs) ≡ Some t
told_kept blobs held t b o is at =
    subst (λ (x : Kept). find (is_of x.meta) (map (λ b. b.kept) blobs) ≡ Some x) (sym is)
    (find_map (λ (x : KeptBlob). x.kept) (is_of b.kept.meta) blobs ∙ ap (option_map (λ (x : KeptBlob). x.kept)) (o.same b.kept.meta ∙ at))

-- THE LEAST NUMBER

-- what is the least is no greater than any
low : (ns : List ℕ) (o : Option ℕ) (l : ℕ) → fold lesser o ns ≡ Some l → AllByRecursion (λ n. l ≤ n) ns × ((w : ℕ) → o ≡ Some w → l ≤ w)
low [] None l e = absurd (cc)
low [] (Some w) l e = (tt, λ v same. let a : w ≡ l = cc in let b : w ≡ v = cc in omega arith)
low (n ∷ ns) None l e =
    let m = least_most ns (Some n) n refl in
    let same : m.0 ≡ l = let f : ◌≡◌ {A = Option ℕ} (Some m.0) (Some l) = sym m.1 ∙ e in cc in
    subst (λ (x : ℕ). AllByRecursion (λ n. x ≤ n) (n ∷ ns) × ((w : ℕ) → ◌≡◌ {A = Option ℕ} None (Some w) → x ≤ w)) same ((m.2, m.3), λ w none. absurd (cc))
low (n ∷ ns) (Some v) l e =
    let m = least_most (n ∷ ns) (Some v) v refl in
    let same : m.0 ≡ l = let f : ◌≡◌ {A = Option ℕ} (Some m.0) (Some l) = sym m.1 ∙ e in cc in
    subst (λ (x : ℕ). AllByRecursion (λ n. x ≤ n) (n ∷ ns) × ((w : ℕ) → ◌≡◌ {A = Option ℕ} (Some v) (Some w) → x ≤ w)) same (m.3, λ w is. let d : v ≡ w = cc in let a = m.2 in omega arith)

no_more : (was : Option ℕ) (xs ys : List ℕ) (a b : ℕ) → IsPermutation xs ys → fold lesser was xs ≡ Some a → fold lesser was ys ≡ Some b → a ≤ b
no_more was xs ys a b p ea eb =
    let l = low xs was a ea in
    let there = recursion_from_All (λ n. a ≤ n) ys (All-permutation (λ n. a ≤ n) xs ys p (All-from_recursion (λ n. a ≤ n) xs l.0)) in
    least_has (λ n. a ≤ n) ys was there l.1 b eb

-- the least of two is some
some_least : (was : Option ℕ) (n : ℕ) (ns : List ℕ) → fold lesser was (n ∷ ns) ≡ None → ⊥
some_least None n ns e = let m = least_most ns (Some n) n refl in let f : ◌≡◌ {A = Option ℕ} None (Some m.0) = sym e ∙ m.1 in cc
some_least (Some w) n ns e = let m = least_most (n ∷ ns) (Some w) w refl in let f : ◌≡◌ {A = Option ℕ} None (Some m.0) = sym e ∙ m.1 in cc

pub least_same : (was : Option ℕ) (xs ys : List ℕ) → IsPermutation xs ys → fold lesser was xs ≡ fold lesser was ys
least_same was [] ys p = sym (ap (fold lesser was) (nil_from_length ys (length_permutation [] ys p)))
least_same was (x ∷ xs) [] p = absurd (let e = length_permutation (x ∷ xs) [] p in omega arith)
least_same was (x ∷ xs) (y ∷ ys) p = chosen (fold lesser was (x ∷ xs)) refl (fold lesser was (y ∷ ys)) refl
  where
    chosen : (a : Option ℕ) → fold lesser was (x ∷ xs) ≡ a → (b : Option ℕ) → fold lesser was (y ∷ ys) ≡ b → fold lesser was (x ∷ xs) ≡ fold lesser was (y ∷ ys)
    chosen None ea b eb = absurd (some_least was x xs ea)
    chosen (Some a) ea None eb = absurd (some_least was y ys eb)
    chosen (Some a) ea (Some b) eb =
        let le = no_more was (x ∷ xs) (y ∷ ys) a b p ea eb in
        let ge = no_more was (y ∷ ys) (x ∷ xs) b a (IsPermutation-sym (x ∷ xs) (y ∷ ys) p) eb ea in
        let same : a ≡ b = omega arith in
        ea ∙ ap Some same ∙ sym eb
