-- The values of a list, read one after the other.
use Rattle.std.proofs.Common.{◌≡◌, ℕ, ◌+◌, ◌<◌, ◌≤◌, List, [], ◌∷◌, ◌++◌, length, map, drop, get_or, Result, Ok, refl, sym, ap, subst, ◌∙◌, add-one, drop-cons, append_assoc}
use Rattle.std.proofs.lemmas.List.{append-nil, drop_all}
use Rattle.catalog.specs.declared.fault.CatalogueFault.{CatalogueFault}
use Rattle.catalog.specs.declared.fault.CatalogueFault.TheVariants.{OutOfMemory, NotJson, Missing, Bad, Duplicate, Limit}
use Rattle.catalog.specs.FirstFault.{Test, next, each}
use Rattle.catalog.proofs.Passing.{next_met}
use Rattle.config_text.specs.Reading.{◌>>=◌, Fails, entries}

-- the values from i on begin with v
pub rest_is : {V D : Type 0} (seen : V → D) (vs : List V) (i : ℕ) (v : V) → i < length vs → v ≡ get_or vs i v → map seen (drop i vs) ≡ seen v ∷ map seen (drop (i + 1) vs)
rest_is seen vs i v h e = rw (add-one, drop-cons vs i v h, ← e)

-- a fault ends the reading
pub Fails-then : {A B : Type 0} (e : CatalogueFault) (r : Result A CatalogueFault) (f : A → Result B CatalogueFault) → Fails e r → Fails e (r >>= f)
Fails-then OutOfMemory r f h = tt
Fails-then NotJson r f h = rw h
Fails-then (Missing a b) r f h = rw h
Fails-then (Bad a b) r f h = rw h
Fails-then (Duplicate a b) r f h = rw h
Fails-then (Limit a b) r f h = rw h

pub goes_on : {V D A : Type 0} (seen : V → D) (form : List A → D → Result A CatalogueFault) (vs : List V) (i : ℕ) (v : V) (before : List A) (x : A) (whole : Result (List A) CatalogueFault) → i < length vs → v ≡ get_or vs i v → form before (seen v) ≡ Ok x → entries form before (map seen (drop i vs)) ≡ whole → entries form (before ++ x ∷ []) (map seen (drop (i + 1) vs)) ≡ whole
unfolding entries
goes_on seen form vs i v before x whole h e r w =
    let here : entries form before (seen v ∷ map seen (drop (i + 1) vs)) ≡ entries form (before ++ x ∷ []) (map seen (drop (i + 1) vs)) = rw r refl in
    sym here ∙ ap (entries form before) (sym (rest_is seen vs i v h e)) ∙ w

pub stops : {V D A : Type 0} (seen : V → D) (form : List A → D → Result A CatalogueFault) (vs : List V) (i : ℕ) (v : V) (before : List A) (f : CatalogueFault) (whole : Result (List A) CatalogueFault) → i < length vs → v ≡ get_or vs i v → Fails f (form before (seen v)) → entries form before (map seen (drop i vs)) ≡ whole → Fails f whole
unfolding entries
stops seen form vs i v before f whole h e r w =
    let here : Fails f (entries form before (seen v ∷ map seen (drop (i + 1) vs))) = Fails-then f (form before (seen v)) (λ x. entries form (before ++ x ∷ []) (map seen (drop (i + 1) vs))) r in
    subst (λ (y : Result (List _) CatalogueFault). Fails f y) (ap (entries form before) (sym (rest_is seen vs i v h e)) ∙ w) here

pub ends : {V D A : Type 0} (seen : V → D) (form : List A → D → Result A CatalogueFault) (vs : List V) (i : ℕ) (before : List A) (whole : Result (List A) CatalogueFault) → length vs ≤ i → entries form before (map seen (drop i vs)) ≡ whole → whole ≡ Ok before
unfolding entries
ends seen form vs i before whole h w = sym w ∙ rw (drop_all i vs h) refl

pub next_is : (a b : Test) → a ≡ Ok tt → b ≡ Ok tt → next a b ≡ Ok tt
next_is a b e h = rw e h

more_after : {A : Type 0} (test : List A → A → Test) (before xs : List A) (x : A) → each test before xs ≡ Ok tt → test (before ++ xs) x ≡ Ok tt → each test before (xs ++ x ∷ []) ≡ Ok tt
more_after test before [] x e t = next_is (test before x) (Ok tt) (subst (λ (ys : List _). test ys x ≡ Ok tt) (append-nil before) t) refl
more_after test before (y ∷ ys) x e t =
    let parts : (test before y ≡ Ok tt) × (each test (before ++ y ∷ []) ys ≡ Ok tt) = next_met _ _ e in
    next_is (test before y) (each test (before ++ y ∷ []) (ys ++ x ∷ [])) parts.0 (more_after test (before ++ y ∷ []) ys x parts.1 (subst (λ (zs : List _). test zs x ≡ Ok tt) (sym (append_assoc before (y ∷ []) ys)) t))

-- one more entry that meets its test
pub each_more : {A : Type 0} (test : List A → A → Test) (xs : List A) (x : A) → each test [] xs ≡ Ok tt → test xs x ≡ Ok tt → each test [] (xs ++ x ∷ []) ≡ Ok tt
each_more test xs x e t = more_after test [] xs x e t
