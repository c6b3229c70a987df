-- The first pair of a name, sought from the front.
use Rattle.std.proofs.Common.{◌≡◌, ℕ, suc, ◌+◌, ◌<◌, ◌≤◌, true, false, List, ◌∷◌, length, get_or, drop, Option, Some, None, ap, ◌∙◌, sym, arith}
use Rattle.std.proofs.Math.Seq.{drop-cons}
use Rattle.std.proofs.Math.ListN.{drop_of_length-le}
use Rattle.catalog.specs.Names.{is_same}
use Rattle.wmts_kvp.specs.Pairs.{value_of}

here : (name : List ℕ) (pair : List ℕ × List ℕ) (pairs : List (List ℕ × List ℕ)) → is_same pair.0 name ≡ true → value_of (pair ∷ pairs) name ≡ Some pair.1
unfolding value_of
here name pair pairs is = rw is

behind : (name : List ℕ) (pair : List ℕ × List ℕ) (pairs : List (List ℕ × List ℕ)) → is_same pair.0 name ≡ false → value_of (pair ∷ pairs) name ≡ value_of pairs name
unfolding value_of
behind name pair pairs other = rw other

-- the pair at this place has the name
pub value_found : (name : List ℕ) (pairs : List (List ℕ × List ℕ)) (i : ℕ) (pair : List ℕ × List ℕ) (key value : List ℕ) (whole : Option (List ℕ)) → i < length pairs → pair ≡ get_or pairs i pair → key ≡ pair.0 → is_same key name ≡ true → value ≡ pair.1 → value_of (drop i pairs) name ≡ whole → Some value ≡ whole
value_found name pairs i pair key value whole l at key_is same value_is rest =
    let e : drop i pairs ≡ pair ∷ drop (suc i) pairs = drop-cons pairs i pair l ∙ ap (λ p. p ∷ drop (suc i) pairs) (sym at) in
    let has_name : is_same pair.0 name ≡ true = ap (λ k. is_same k name) (sym key_is) ∙ same in
    ap (λ v. Some v) value_is ∙ sym (ap (λ ps. value_of ps name) e ∙ here name pair (drop (suc i) pairs) has_name) ∙ rest

-- the pair at this place has another name
pub value_behind : (name : List ℕ) (pairs : List (List ℕ × List ℕ)) (i : ℕ) (pair : List ℕ × List ℕ) (key : List ℕ) (whole : Option (List ℕ)) → i < length pairs → pair ≡ get_or pairs i pair → key ≡ pair.0 → is_same key name ≡ false → value_of (drop i pairs) name ≡ whole → value_of (drop (i + 1) pairs) name ≡ whole
value_behind name pairs i pair key whole l at key_is other rest =
    let n : i + 1 ≡ suc i = omega arith in
    let e : drop i pairs ≡ pair ∷ drop (suc i) pairs = drop-cons pairs i pair l ∙ ap (λ p. p ∷ drop (suc i) pairs) (sym at) in
    let has_other : is_same pair.0 name ≡ false = ap (λ k. is_same k name) (sym key_is) ∙ other in
    ap (λ m. value_of (drop m pairs) name) n
    ∙ sym (ap (λ ps. value_of ps name) e ∙ behind name pair (drop (suc i) pairs) has_other) ∙ rest

-- no pair is left
pub value_nowhere : (name : List ℕ) (pairs : List (List ℕ × List ℕ)) (i : ℕ) (whole : Option (List ℕ)) → length pairs ≤ i → value_of (drop i pairs) name ≡ whole → None ≡ whole
unfolding value_of
value_nowhere name pairs i whole l rest = sym (ap (λ ps. value_of ps name) (drop_of_length-le pairs l)) ∙ rest
