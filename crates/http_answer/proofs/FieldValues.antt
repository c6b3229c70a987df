-- What one more field says.
use Rattle.std.proofs.Common.{◌≡◌, ℕ, ◌+◌, ◌<◌, Bool, true, false, cond, List, [], ◌∷◌, ◌++◌, length, map, take, drop, get_or, Option, Some, None, refl, sym, ◌∙◌, ap, append-nil, Bor}
use Rattle.std.proofs.lemmas.List.{map_more, take-append-drop, map-append}
use Rattle.std.proofs.lemmas.Bool.{false≢true}
use Rattle.std.specs.Option.{is_some}
use Rattle.http_answer.specs.Fields.{is_named, values}

values_cons : (b : Bool) (v : List ℕ) (all front back : List (List ℕ)) → all ≡ front ++ back → cond b (v ∷ all) all ≡ cond b (v ∷ front) front ++ back
values_cons true v all front back e = ap (λ (l : List (List ℕ)). v ∷ l) e
values_cons false v all front back e = e

values-append : (name : List ℕ) (xs ys : List (List ℕ × List ℕ)) → values name (xs ++ ys) ≡ values name xs ++ values name ys
values-append name [] ys = refl
values-append name (x ∷ xs) ys = values_cons (is_named name x) x.1 (values name (xs ++ ys)) (values name xs) (values name ys) (values-append name xs ys)

values_of_one : (name : List ℕ) (x : List ℕ × List ℕ) (b : Bool) → is_named name x ≡ b → values name (x ∷ []) ≡ cond b (x.1 ∷ []) []
values_of_one name x b e = ap (λ (t : Bool). cond t (x.1 ∷ []) []) e

-- the values up to one more field
pub values_more : {X : Type 0} (name : List ℕ) (f : X → List ℕ × List ℕ) (xs : List X) (i : ℕ) (d : X) (b : Bool) → i < length xs → is_named name (f (get_or xs i d)) ≡ b
    → values name (map f (take (i + 1) xs)) ≡ values name (map f (take i xs)) ++ cond b ((f (get_or xs i d)).1 ∷ []) []
values_more name f xs i d b l e =
    ap (values name) (map_more f xs i d l) ∙ values-append name (map f (take i xs)) (f (get_or xs i d) ∷ []) ∙ ap (λ (l : List (List ℕ)). values name (map f (take i xs)) ++ l) (values_of_one name (f (get_or xs i d)) b e)

-- all the values, from those up to a field
pub values_rest : {X : Type 0} (name : List ℕ) (f : X → List ℕ × List ℕ) (xs : List X) (i : ℕ) → (more : List (List ℕ)) × (values name (map f xs) ≡ values name (map f (take i xs)) ++ more)
values_rest {X = X} name f xs i = (
  values name (map f (drop i xs)),
  ap (λ (l : List X). values name (map f l)) (sym (take-append-drop i xs)) ∙ ap (values name) (map-append f (take i xs) (drop i xs)) ∙ values-append name (map f (take i xs)) (map f (drop i xs)),
)

-- what was found, as a list
abbrev pub listed : Option (Bor (List ℕ)) → List (List ℕ)
listed None = []
listed (Some value) = value.now ∷ []

no_shorter : (found : Option (Bor (List ℕ))) (v : List ℕ) (rest all : List (List ℕ)) → true ≡ is_some found → all ≡ (listed found ++ v ∷ []) ++ rest → (first : List ℕ) × (second : List ℕ) × (more : List (List ℕ)) × (all ≡ first ∷ second ∷ more)
no_shorter None v rest all some e = absurd (false≢true (sym some))
no_shorter (Some a) v rest all some e = (a.now, v, rest, e)

-- a value after one that was found
pub several : {X : Type 0} (name : List ℕ) (f : X → List ℕ × List ℕ) (xs : List X) (i : ℕ) (d : X) (found : Option (Bor (List ℕ))) → i < length xs → true ≡ is_named name (f (get_or xs i d)) → true ≡ is_some found
    → values name (map f (take i xs)) ≡ listed found → (first : List ℕ) × (second : List ℕ) × (more : List (List ℕ)) × (values name (map f xs) ≡ first ∷ second ∷ more)
several name f xs i d found l named some so_far =
    let rest = values_rest name f xs (i + 1) in
    no_shorter found (f (get_or xs i d)).1 rest.0 (values name (map f xs)) some
    (rest.1 ∙ ap (λ (front : List (List ℕ)). front ++ rest.0) (values_more name f xs i d true l (sym named) ∙ ap (λ (front : List (List ℕ)). front ++ (f (get_or xs i d)).1 ∷ []) so_far))

nothing_listed : (found : Option (Bor (List ℕ))) → false ≡ is_some found → listed found ≡ []
nothing_listed None e = refl
nothing_listed (Some a) e = absurd (false≢true e)

-- the first value
pub first_value : {X : Type 0} (name : List ℕ) (f : X → List ℕ × List ℕ) (xs : List X) (i : ℕ) (d : X) (found new : Option (Bor (List ℕ))) (value : Bor (List ℕ)) → i < length xs → true ≡ is_named name (f (get_or xs i d)) → false ≡ is_some found
    → value.now ≡ (f (get_or xs i d)).1 → new ≡ Some value → values name (map f (take i xs)) ≡ listed found → values name (map f (take (i + 1) xs)) ≡ listed new
first_value name f xs i d found new value l named none is e so_far =
    values_more name f xs i d true l (sym named) ∙ ap (λ (front : List (List ℕ)). front ++ (f (get_or xs i d)).1 ∷ []) (so_far ∙ nothing_listed found none)
    ∙ ap (λ (v : List ℕ). v ∷ []) (sym is) ∙ ap listed (sym e)

-- a field of another name
pub other_name : {X : Type 0} (name : List ℕ) (f : X → List ℕ × List ℕ) (xs : List X) (i : ℕ) (d : X) (found new : Option (Bor (List ℕ))) → i < length xs → false ≡ is_named name (f (get_or xs i d)) → new ≡ found
    → values name (map f (take i xs)) ≡ listed found → values name (map f (take (i + 1) xs)) ≡ listed new
other_name name f xs i d found new l named e so_far = values_more name f xs i d false l (sym named) ∙ append-nil _ ∙ so_far ∙ ap listed (sym e)
