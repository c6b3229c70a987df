-- What begins, marks and ends leave of a table of renders.
use Rattle.std.proofs.Common.{ℕ, zero, suc, ◌≡◌, ◌==◌, ◌&&◌, ◌<◌, ◌≤◌, ◌+◌, Bool, true, false, cond, List, [], ◌∷◌, ◌++◌, length, map, take, drop, set, get_or, Option, Some, None, find, filter, refl, sym, ap, subst, ◌∙◌, arith}
use Rattle.std.specs.List.{AllByRecursion}
use Rattle.std.specs.Option.{option_map, option_map_or}
use Rattle.std.proofs.lemmas.Bool.Decides.{nat_tests}
use Rattle.std.proofs.lemmas.List.Edits.{map_over_more}
use Rattle.metatile_plan.specs.declared.metatile.MetaKey.{MetaKey}
use Rattle.metatile_plan.specs.Keys.{same_meta}
use Rattle.metatile_plan.proofs.Same.{same_meta_is}
use Rattle.metatile_locks.specs.declared.render.Render.{Render}
use Rattle.metatile_locks.specs.declared.replies.End.TheVariants as ends
use Rattle.metatile_locks.specs.Calls.{Ends}
use Rattle.metatile_locks.specs.Running.{NumbersRise, OneRuns, IsAboveAll, IsLeast, begun, unmarked, without, marked, overtaken, runs_for, running_for, is_render_of, render_of}
use Rattle.metatile_locks.specs.Tickets.{Ticketed}
use Rattle.metatile_locks.proofs.Lists.{all_joined, all_weaker, all_map, all_filter, found, none_passes}

pub both : (s t : Bool) → (s && t) ≡ true → (s ≡ true) × (t ≡ true)
both true t h = (refl, h)
both false t h = (h, absurd (cc))

pub one : (x y : ℕ) → (x == y) ≡ true → x ≡ y
one x y h = grind (arith, nat_tests)

-- NUMBERS

pub rise_begun : (k : ℕ) (m : MetaKey) (b : ℕ) (rs : List Render) → IsAboveAll k rs → NumbersRise rs → NumbersRise (begun k m b rs)
rise_begun k m b [] a n = (tt, tt)
rise_begun k m b (r ∷ rs) a n = (all_joined (λ (x : Render). r.number < x.number) rs (unmarked k m b ∷ []) n.0 (a.0, tt), rise_begun k m b rs a.1 n.1)

pub rise_filter : (p : Render → Bool) (rs : List Render) → NumbersRise rs → NumbersRise (filter p rs)
rise_filter p [] n = tt
rise_filter p (r ∷ rs) n = chosen (p r) (rise_filter p rs n.1)
  where
    chosen : (b : Bool) → NumbersRise (filter p rs) → NumbersRise (cond b (r ∷ filter p rs) (filter p rs))
    chosen true rest = (all_filter (λ (x : Render). r.number < x.number) p rs n.0, rest)
    chosen false rest = rest

-- a mark changes neither the number nor the metatile nor the moment, and is never taken away
pub record IsMark (r s : Render) : Type 0 where
  pub number : s.number ≡ r.number
  pub meta : s.meta ≡ r.meta
  pub moment : s.moment ≡ r.moment
  pub mark : s.mark ≡ None → r.mark ≡ None

pub marked_is : (is_hit : MetaKey → Bool) (t : ℕ) (r : Render) → IsMark r (marked is_hit t r)
marked_is is_hit t r = chosen (is_hit r.meta)
  where
    chosen : (b : Bool) → IsMark r (cond b (record { number = r.number; meta = r.meta; moment = r.moment; mark = Some t }) r)
    chosen true = record { number = refl; meta = refl; moment = refl; mark = λ e. absurd (cc) }
    chosen false = record { number = refl; meta = refl; moment = refl; mark = λ e. e }

pub rise_overtaken : (is_hit : MetaKey → Bool) (t : ℕ) (rs : List Render) → NumbersRise rs → NumbersRise (overtaken is_hit t rs)
rise_overtaken is_hit t [] n = tt
rise_overtaken is_hit t (r ∷ rs) n = (
  all_map (marked is_hit t) (λ (x : Render). (marked is_hit t r).number < x.number) rs (all_weaker (λ (x : Render). r.number < x.number) (λ (x : Render). (marked is_hit t r).number < (marked is_hit t x).number)
      (λ x l. let a = (marked_is is_hit t r).number in let b = (marked_is is_hit t x).number in omega arith) rs n.0),
  rise_overtaken is_hit t rs n.1,
)

-- ONE RUNS

-- not both of them are renders of one metatile that are not overtaken
abbrev pub Differs : Render → Render → Type 0
Differs r x = same_meta x.meta r.meta ≡ true → r.mark ≡ None → x.mark ≡ None → ⊥

runs : (m : MetaKey) (r : Render) → same_meta r.meta m ≡ true → r.mark ≡ None → runs_for m r ≡ true
runs m r s e = rw (s, e) refl

pub one_begun : (k : ℕ) (m : MetaKey) (b : ℕ) (rs : List Render) → AllByRecursion (λ r. runs_for m r ≡ false) rs → OneRuns rs → OneRuns (begun k m b rs)
one_begun k m b [] a o = (tt, tt)
one_begun k m b (r ∷ rs) a o = (
  all_joined (Differs r) rs (unmarked k m b ∷ []) o.0 (λ s e f. let same = same_meta_is m r.meta s in let is = runs m r (subst (λ (x : MetaKey). same_meta r.meta x ≡ true) (sym same) (subst (λ (x : MetaKey). same_meta x r.meta ≡ true) same s)) e in let no = a.0 in absurd (cc), tt),
  one_begun k m b rs a.1 o.1,
)

pub one_filter : (p : Render → Bool) (rs : List Render) → OneRuns rs → OneRuns (filter p rs)
one_filter p [] o = tt
one_filter p (r ∷ rs) o = chosen (p r) (one_filter p rs o.1)
  where
    chosen : (b : Bool) → OneRuns (filter p rs) → OneRuns (cond b (r ∷ filter p rs) (filter p rs))
    chosen true rest = (all_filter (Differs r) p rs o.0, rest)
    chosen false rest = rest

differ_still : (r x s y : Render) → IsMark r s → IsMark x y → Differs r x → Differs s y
differ_still r x s y a b d = λ same e f. d (subst (λ (m : MetaKey). same_meta m r.meta ≡ true) b.meta (subst (λ (m : MetaKey). same_meta y.meta m ≡ true) a.meta same)) (a.mark e) (b.mark f)

pub one_overtaken : (is_hit : MetaKey → Bool) (t : ℕ) (rs : List Render) → OneRuns rs → OneRuns (overtaken is_hit t rs)
one_overtaken is_hit t [] o = tt
one_overtaken is_hit t (r ∷ rs) o = (
  all_map (marked is_hit t) (Differs (marked is_hit t r)) rs (all_weaker (Differs r) (λ x. Differs (marked is_hit t r) (marked is_hit t x)) (λ x d. differ_still r x (marked is_hit t r) (marked is_hit t x) (marked_is is_hit t r) (marked_is is_hit t x) d) rs o.0),
  one_overtaken is_hit t rs o.1,
)

-- WHAT IS FOUND

-- where none is found to run for the metatile, none runs
pub none_runs : (m : MetaKey) (rs : List Render) → running_for m rs ≡ None → AllByRecursion (λ r. runs_for m r ≡ false) rs
none_runs m rs e = none_passes (runs_for m) rs (unfound (find (runs_for m) rs) e)
  where
    unfound : (f : Option Render) → option_map (λ r. r.number) f ≡ None → f ≡ None
    unfound None e = refl
    unfound (Some r) e = absurd (cc)

each : (rs : List Render) → AllByRecursion (λ (r : Render). Unit {0}) rs
each [] = tt
each (r ∷ rs) = (tt, each rs)

-- the render that is found is the ticket's
pub found_is : (t : Ticketed) (rs : List Render) (r : Render) → render_of t rs ≡ Some r → render_of t rs ≡ Some record { number = t.number; meta = t.meta; moment = r.moment; mark = r.mark }
found_is t rs r e =
    let p = both (r.number == t.number) (same_meta r.meta t.meta) (found (is_render_of t) (λ (x : Render). Unit {0}) rs r (each rs) e).0 in
    let n : r.number ≡ t.number = one r.number t.number p.0 in
    let k : r.meta ≡ t.meta = same_meta_is r.meta t.meta p.1 in
    e ∙ (λ i. Some record { number = n i; meta = k i; moment = r.moment; mark = r.mark })

-- what is left of a render that is found and taken off
pub ends_at : (rs new : List Render) (t : Ticketed) (r : Render) → render_of t rs ≡ Some r → new ≡ without t.number rs → (mark : Option ℕ) → r.mark ≡ mark → Ends rs t (option_map_or (λ cut. ends.Overtaken cut) mark (ends.Whole r.moment)) new
ends_at rs new t r e out (Some cut) is = (r.moment, found_is t rs r e ∙ (λ i. Some record { number = t.number; meta = t.meta; moment = r.moment; mark = is i }), out)
ends_at rs new t r e out None is = (found_is t rs r e ∙ (λ i. Some record { number = t.number; meta = t.meta; moment = r.moment; mark = is i }), out)

itself : (k : ℕ) → (k == k) ≡ true
itself k = grind (arith, nat_tests)

-- the first of numbers that rise is the least
pub first_is_least : (rs : List Render) (d : Render) → (length rs == 0) ≡ false → NumbersRise rs → IsLeast (Some (get_or rs 0 d).number) rs
first_is_least [] d l n = absurd (cc)
first_is_least (r ∷ rs) d l n = (rw (itself r.number) refl, (omega arith, all_weaker (λ (x : Render). r.number < x.number) (λ (x : Render). r.number ≤ x.number) (λ x l. omega arith) rs n.0))

-- MARKS, one by one

get_or_same : {X : Type 0} (xs : List X) (i : ℕ) (d e : X) → i < length xs → get_or xs i d ≡ get_or xs i e
get_or_same [] i d e h = absurd (omega arith)
get_or_same (x ∷ xs) zero d e h = refl
get_or_same (x ∷ xs) (suc i) d e h = get_or_same xs i d e (omega arith)

pub mark_more : (is_hit : MetaKey → Bool) (t : ℕ) (xs ys : List Render) (i : ℕ) (d y : Render) → i < length xs → i < length ys → ys ≡ map (marked is_hit t) (take i xs) ++ drop i xs → y ≡ marked is_hit t (get_or ys i d)
    → set ys i y ≡ map (marked is_hit t) (take (i + 1) xs) ++ drop (i + 1) xs
mark_more is_hit t xs ys i d y h k is at = ap (set ys i) at ∙ map_over_more (marked is_hit t) xs ys i (get_or ys i d) h is (get_or_same ys i d (get_or ys i d) k)
