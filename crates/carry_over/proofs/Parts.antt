-- What holds of a part of a list.
use Rattle.std.proofs.Common.{ℕ, ◌<◌, ◌≤◌, ◌≢◌, List, [], ◌∷◌, length, drop, zero, suc, inl, inr, refl, sym, ap, subst, arith}
use Rattle.std.specs.List.{AllByRecursion}
use Rattle.std.proofs.lemmas.List.Elements.{All-from_recursion, recursion_from_All}
use Rattle.cabinet.specs.declared.kept.Kept.{Kept}
use Rattle.cabinet.specs.Fresh.{ApartBy}
use Rattle.cabinet.specs.Gaps.{AreDisjoint, region}
use Rattle.extent_map.specs.Parts.{AreApart}
use Rattle.truncation_list.specs.declared.book.Cut.{Cut}
use Rattle.truncation_list.specs.Purge.{IsByNumber}
use Rattle.carry_over.specs.Chosen.{IsPartOf}

pub part_all : {A : Type 0} (P : A → Type 0) (us ts : List A) → IsPartOf us ts → AllByRecursion P ts → AllByRecursion P us
part_all P us [] p all = subst (AllByRecursion P) (sym p) tt
part_all P us (t ∷ ts) (inl p) all = part_all P us ts p all.1
part_all P us (t ∷ ts) (inr p) all = subst (AllByRecursion P) (sym p.1) (all.0, part_all P p.0 ts p.2 all.1)

pub part_apart : {A B : Type 0} (f : A → B) (us ts : List A) → IsPartOf us ts → ApartBy f ts → ApartBy f us
part_apart f us [] p h = subst (ApartBy f) (sym p) tt
part_apart f us (t ∷ ts) (inl p) h = part_apart f us ts p h.1
part_apart f us (t ∷ ts) (inr p) h = subst (ApartBy f) (sym p.1) (part_all (λ u. f t ≢ f u) p.0 ts p.2 h.0, part_apart f p.0 ts p.2 h.1)

pub part_disjoint : (us ts : List Kept) → IsPartOf us ts → AreDisjoint ts → AreDisjoint us
part_disjoint us [] p h = subst AreDisjoint (sym p) tt
part_disjoint us (t ∷ ts) (inl p) h = part_disjoint us ts p h.1
part_disjoint us (t ∷ ts) (inr p) h = subst AreDisjoint (sym p.1) (part_all (λ (u : Kept). AreApart (region t) (region u)) p.0 ts p.2 h.0, part_disjoint p.0 ts p.2 h.1)

pub part_by_number : (us ts : List Cut) → IsPartOf us ts → IsByNumber ts → IsByNumber us
part_by_number us [] p h = subst IsByNumber (sym p) tt
part_by_number us (t ∷ ts) (inl p) h = part_by_number us ts p h.1
part_by_number us (t ∷ ts) (inr p) h =
    let later : AllByRecursion (λ (u : Cut). t.number < u.number) p.0 = part_all (λ (u : Cut). t.number < u.number) p.0 ts p.2 (recursion_from_All (λ (u : Cut). t.number < u.number) ts h.0) in
    subst IsByNumber (sym p.1) (All-from_recursion (λ (u : Cut). t.number < u.number) p.0 later, part_by_number p.0 ts p.2 h.1)

pub part_long : {A : Type 0} (us ts : List A) → IsPartOf us ts → length us ≤ length ts
part_long us [] p = let none = ap length p in omega (arith, none)
part_long us (t ∷ ts) (inl p) = let less = part_long us ts p in omega (arith, less)
part_long us (t ∷ ts) (inr p) = let less = part_long p.0 ts p.2 in let is = ap length p.1 in omega (arith, less, is)

pub part_itself : {A : Type 0} (ts : List A) → IsPartOf ts ts
part_itself [] = refl
part_itself (t ∷ ts) = inr (ts, refl, part_itself ts)

pub part_none : {A : Type 0} (ts : List A) → IsPartOf [] ts
part_none [] = refl
part_none (t ∷ ts) = inl (part_none ts)

pub part_drop : {A : Type 0} (n : ℕ) (ts : List A) → IsPartOf (drop n ts) ts
part_drop zero ts = part_itself ts
part_drop (suc n) [] = refl
part_drop (suc n) (t ∷ ts) = inl (part_drop n ts)

part_next : {A : Type 0} (t : A) (ws ts : List A) → ((v : List A) → IsPartOf v ws → IsPartOf v ts) → (vs : List A) → IsPartOf vs (t ∷ ws) → IsPartOf vs (t ∷ ts)
part_next t ws ts next vs (inl r) = inl (next vs r)
part_next t ws ts next vs (inr r) = inr (r.0, r.1, next r.0 r.2)

pub part_then : {A : Type 0} (vs us ts : List A) → IsPartOf vs us → IsPartOf us ts → IsPartOf vs ts
part_then vs us [] p q = subst (IsPartOf vs) q p
part_then vs us (t ∷ ts) p (inl q) = inl (part_then vs us ts p q)
part_then vs us (t ∷ ts) p (inr q) = part_next t q.0 ts (λ v r. part_then v q.0 ts r q.2) vs (subst (IsPartOf vs) q.1 p)
