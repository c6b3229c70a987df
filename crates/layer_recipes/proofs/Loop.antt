-- The values of a list, read one after the other.
use Rattle.std.proofs.Common.{◌≡◌, ℕ, ◌+◌, ◌<◌, ◌≤◌, List, [], ◌∷◌, ◌++◌, length, map, drop, get_or, Ok, Err, refl, sym, ap, subst, ◌∙◌, add-one, drop-cons}
use Rattle.std.specs.List.{AllByRecursion}
use Rattle.std.proofs.lemmas.List.{drop_all}
use Rattle.layer_recipes.specs.declared.fault.RecipeFault.{RecipeFault}
use Rattle.layer_recipes.specs.declared.fault.RecipeFault.TheVariants.{NotJson, Missing, Bad, Limit, OutOfMemory}
use Rattle.layer_recipes.specs.Outcome.{Outcome, Fails, entries, ◌>>=◌}

-- the values from i on begin with v
rest_is : {V D : Type 0} (seen : V → D) (vs : List V) (i : ℕ) (v : V) → i < length vs → v ≡ get_or vs i v → map seen (drop i vs) ≡ seen v ∷ map seen (drop (i + 1) vs)
rest_is seen vs i v h e = rw (add-one, drop-cons vs i v h, ← e)

-- a fault ends the reading
Fails-then : {A B : Type 0} (e : RecipeFault) (r : Outcome A) (f : A → Outcome B) → Fails e r → Fails e (r >>= f)
Fails-then OutOfMemory r f h = tt
Fails-then NotJson r f h = rw h
Fails-then (Missing a b) r f h = rw h
Fails-then (Bad a b) r f h = rw h
Fails-then (Limit a b) r f h = rw h

-- a reading that is this fault ends in it
pub fails_of : {A : Type 0} (f : RecipeFault) (r : Outcome A) → Err f ≡ r → Fails f r
fails_of NotJson r e = sym e
fails_of (Missing a b) r e = sym e
fails_of (Bad a b) r e = sym e
fails_of (Limit a b) r e = sym e
fails_of OutOfMemory r e = tt

pub goes_on : {V D A : Type 0} (seen : V → D) (form : List A → D → Outcome A) (vs : List V) (i : ℕ) (v : V) (before : List A) (x : A) (whole : Outcome (List A)) → i < length vs → v ≡ get_or vs i v → form before (seen v) ≡ Ok x → entries form before (map seen (drop i vs)) ≡ whole → entries form (before ++ x ∷ []) (map seen (drop (i + 1) vs)) ≡ whole
unfolding entries
goes_on seen form vs i v before x whole h e r w =
    let here : entries form before (seen v ∷ map seen (drop (i + 1) vs)) ≡ entries form (before ++ x ∷ []) (map seen (drop (i + 1) vs)) = rw r refl in
    sym here ∙ ap (entries form before) (sym (rest_is seen vs i v h e)) ∙ w

pub stops : {V D A : Type 0} (seen : V → D) (form : List A → D → Outcome A) (vs : List V) (i : ℕ) (v : V) (before : List A) (f : RecipeFault) (whole : Outcome (List A)) → i < length vs → v ≡ get_or vs i v → Fails f (form before (seen v)) → entries form before (map seen (drop i vs)) ≡ whole → Fails f whole
unfolding entries
stops seen form vs i v before f whole h e r w =
    let here : Fails f (entries form before (seen v ∷ map seen (drop (i + 1) vs))) = Fails-then f (form before (seen v)) (λ x. entries form (before ++ x ∷ []) (map seen (drop (i + 1) vs))) r in
    subst (λ (y : Outcome (List _)). Fails f y) (ap (entries form before) (sym (rest_is seen vs i v h e)) ∙ w) here

pub ends : {V D A : Type 0} (seen : V → D) (form : List A → D → Outcome A) (vs : List V) (i : ℕ) (before : List A) (whole : Outcome (List A)) → length vs ≤ i → entries form before (map seen (drop i vs)) ≡ whole → whole ≡ Ok before
unfolding entries
ends seen form vs i before whole h w = sym w ∙ rw (drop_all i vs h) refl

-- one more of which something holds
pub all_more : {A : Type 0} (P : A → Type 0) (xs : List A) (x : A) → AllByRecursion P xs → P x → AllByRecursion P (xs ++ x ∷ [])
all_more P [] x all is = (is, tt)
all_more P (y ∷ ys) x all is = (all.0, all_more P ys x all.1 is)
