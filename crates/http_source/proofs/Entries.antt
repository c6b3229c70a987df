-- The values of a list, read one after the other.
use Rattle.std.proofs.Common.{◌≡◌, ℕ, ◌+◌, ◌<◌, ◌≤◌, List, [], ◌∷◌, ◌++◌, length, map, drop, get_or, Ok, sym, ap, subst, ◌∙◌, refl, add-one, drop-cons}
use Rattle.std.proofs.lemmas.List.{drop_all}
use Rattle.http_source.specs.declared.fault.RendererFault.{RendererFault}
use Rattle.http_source.specs.declared.fault.RendererFault.TheVariants.{NotJson, Missing, Bad, Duplicate, Limit, Template, OutOfMemory}
use Rattle.http_source.specs.Outcome.{Outcome, Fails, entries, ◌>>=◌}

-- the values from a place on begin with the one that stands there
begins : {V D : Type 0} (seen : V → D) (vs : List V) (i : ℕ) (v : V) → i < length vs → v ≡ get_or vs i v → map seen (drop i vs) ≡ seen v ∷ map seen (drop (i + 1) vs)
begins seen vs i v h e = rw (add-one, drop-cons vs i v h, ← e)

-- a fault ends the reading
fails_first : {A B : Type 0} (fault : RendererFault) (r : Outcome A) (f : A → Outcome B) → Fails fault r → Fails fault (r >>= f)
fails_first NotJson r f h = rw h
fails_first (Missing a b) r f h = rw h
fails_first (Bad a b) r f h = rw h
fails_first (Duplicate a b) r f h = rw h
fails_first (Limit a b) r f h = rw h
fails_first (Template a b how) r f h = absurd h
fails_first OutOfMemory r f h = tt

pub goes_on : {V D A : Type 0} (seen : V → D) (form : List A → D → Outcome A) (vs : List V) (i : ℕ) (v : V) (before : List A) (x : A) (whole : Outcome (List A)) → i < length vs → v ≡ get_or vs i v → form before (seen v) ≡ Ok x → entries form before (map seen (drop i vs)) ≡ whole → entries form (before ++ x ∷ []) (map seen (drop (i + 1) vs)) ≡ whole
unfolding entries
goes_on seen form vs i v before x whole h e r w =
    let here : entries form before (seen v ∷ map seen (drop (i + 1) vs)) ≡ entries form (before ++ x ∷ []) (map seen (drop (i + 1) vs)) = rw r refl in
    sym here ∙ ap (entries form before) (sym (begins seen vs i v h e)) ∙ w

pub stops : {V D A : Type 0} (seen : V → D) (form : List A → D → Outcome A) (vs : List V) (i : ℕ) (v : V) (before : List A) (fault : RendererFault) (whole : Outcome (List A)) → i < length vs → v ≡ get_or vs i v → Fails fault (form before (seen v)) → entries form before (map seen (drop i vs)) ≡ whole → Fails fault whole
unfolding entries
stops seen form vs i v before fault whole h e r w =
    let here : Fails fault (entries form before (seen v ∷ map seen (drop (i + 1) vs))) = fails_first fault (form before (seen v)) (λ x. entries form (before ++ x ∷ []) (map seen (drop (i + 1) vs))) r in
    subst (λ (y : Outcome (List _)). Fails fault y) (ap (entries form before) (sym (begins seen vs i v h e)) ∙ w) here

pub ends : {V D A : Type 0} (seen : V → D) (form : List A → D → Outcome A) (vs : List V) (i : ℕ) (before : List A) (whole : Outcome (List A)) → length vs ≤ i → entries form before (map seen (drop i vs)) ≡ whole → whole ≡ Ok before
unfolding entries
ends seen form vs i before whole h w = sym w ∙ rw (drop_all i vs h) refl
