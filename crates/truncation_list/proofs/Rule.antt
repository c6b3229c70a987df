-- the purge of cuts that stand by number is the rule on all listed cuts
use Rattle.std.proofs.Common.{ℕ, ◌≡◌, ◌<◌, ◌&&◌, ◌||◌, ◌∙◌, refl, subst, ap, arith, Bool, true, false, cond, not, List, [], ◌∷◌, ◌++◌, append_assoc, Option}
use Rattle.std.specs.Prelude.{nat_lt, filter}
use Rattle.std.specs.List.{All, list_any}
use Rattle.std.proofs.lemmas.Bool.Decides.{nat_tests}
use Rattle.std.proofs.lemmas.List.Elements.{All-append, All-cons, All-head, All-nil, All-tail, All-weaker}
use Rattle.std.proofs.lemmas.List.Folds.{list_any-append}
use Rattle.truncation_list.specs.declared.book.Cut.{Cut}
use Rattle.truncation_list.specs.declared.cover.Cover.{Cover}
use Rattle.truncation_list.specs.Contains.{contains}
use Rattle.truncation_list.specs.Purge.{IsByNumber, is_old, is_outdone, is_outdone_among, is_within, remaining, remaining_by_rule}

pub any_none : (p : Cut → Bool) (cuts : List Cut) → All (λ cut. p cut ≡ false) cuts → list_any p cuts ≡ false
any_none p [] h = refl
any_none p (x ∷ xs) h = rw (All-head (λ cut. p cut ≡ false) x xs h) (any_none p xs (All-tail (λ cut. p cut ≡ false) x xs h))

any_same : (p q : Cut → Bool) (cuts : List Cut) → All (λ cut. p cut ≡ q cut) cuts → list_any p cuts ≡ list_any q cuts
any_same p q [] h = refl
any_same p q (x ∷ xs) h =
    rw (All-head (λ cut. p cut ≡ q cut) x xs h, any_same p q xs (All-tail (λ cut. p cut ≡ q cut) x xs h)) refl

not_greater : (x other : Cut) → other.number < x.number → (nat_lt x.number other.number && contains other.cover x.cover) ≡ false
not_greater x other l = let test : nat_lt x.number other.number ≡ false = grind (arith, nat_tests) in rw test refl

not_itself : (x : Cut) → (nat_lt x.number x.number && contains x.cover x.cover) ≡ false
not_itself x = let test : nat_lt x.number x.number ≡ false = grind (arith, nat_tests) in rw test refl

greater : (x other : Cut) → x.number < other.number → (nat_lt x.number other.number && contains other.cover x.cover) ≡ contains other.cover x.cover
greater x other l = let test : nat_lt x.number other.number ≡ true = grind (arith, nat_tests) in rw test refl

-- among all cuts, those of greater numbers are the later ones
pub among_is_later : (before : List Cut) (x : Cut) (xs : List Cut) → All (λ cut. cut.number < x.number) before → All (λ cut. x.number < cut.number) xs → is_outdone_among (before ++ x ∷ xs) x ≡ is_outdone xs x
among_is_later before x xs b l =
    let test : Cut → Bool = λ other. nat_lt x.number other.number && contains other.cover x.cover in
    let none : list_any test before ≡ false = any_none test before (All-weaker (λ cut. cut.number < x.number) (λ cut. test cut ≡ false) (λ cut h. not_greater x cut h) before b) in
    let some : list_any test xs ≡ is_outdone xs x = any_same test (λ other. contains other.cover x.cover) xs (All-weaker (λ cut. x.number < cut.number) (λ cut. test cut ≡ contains cut.cover x.cover) (λ cut h. greater x cut h) xs l) in
    list_any-append test before (x ∷ xs) ∙ ap (λ (v : Bool). v || list_any test (x ∷ xs)) none ∙ ap (λ (v : Bool). v || list_any test xs) (not_itself x) ∙ some

turned : (v : Bool) (x : Cut) (rest : List Cut) → cond v rest (x ∷ rest) ≡ cond (not v) (x ∷ rest) rest
turned true x rest = refl
turned false x rest = refl

stays_by_rule : (own among later : Bool) (x : Cut) (rest same : List Cut) → among ≡ later → rest ≡ same → cond (own || later) rest (x ∷ rest) ≡ cond (not (own || among)) (x ∷ same) same
stays_by_rule own among later x rest same e f = rw (e, f) (turned (own || later) x same)

by_rule : (cover : Option Cover) (least : Option ℕ) (before cuts : List Cut) → IsByNumber cuts → All (λ cut. All (λ other. cut.number < other.number) cuts) before → remaining cover least cuts ≡ filter (λ cut. not (is_within cover cut || is_old least cut || is_outdone_among (before ++ cuts) cut)) cuts
by_rule cover least before [] o b = refl
by_rule cover least before (x ∷ xs) o b =
    let lesser = All-weaker (λ cut. All (λ other. cut.number < other.number) (x ∷ xs)) (λ cut. cut.number < x.number) (λ cut h. All-head (λ other. cut.number < other.number) x xs h) before b in
    let passed = All-weaker (λ cut. All (λ other. cut.number < other.number) (x ∷ xs)) (λ cut. All (λ other. cut.number < other.number) xs) (λ cut h. All-tail (λ other. cut.number < other.number) x xs h) before b in
    let behind = All-append (λ cut. All (λ other. cut.number < other.number) xs) before (x ∷ []) passed (All-cons (λ cut. All (λ other. cut.number < other.number) xs) x [] o.0 (All-nil (λ cut. All (λ other. cut.number < other.number) xs))) in
    let P : List Cut → Type 0 = λ all. remaining cover least xs ≡ filter (λ cut. not (is_within cover cut || is_old least cut || is_outdone_among all cut)) xs in
    let rest = subst P (append_assoc before (x ∷ []) xs) (by_rule cover least (before ++ x ∷ []) xs o.1 behind) in
    stays_by_rule (is_within cover x || is_old least x) (is_outdone_among (before ++ x ∷ xs) x) (is_outdone xs x) x (remaining cover least xs) (filter (λ cut. not (is_within cover cut || is_old least cut || is_outdone_among (before ++ x ∷ xs) cut)) xs) (among_is_later before x xs lesser o.0) rest

pub remaining_is_by_rule : (cover : Option Cover) (least : Option ℕ) (cuts : List Cut) → IsByNumber cuts → remaining cover least cuts ≡ remaining_by_rule cover least cuts
remaining_is_by_rule cover least cuts o = by_rule cover least [] cuts o (All-nil (λ cut. All (λ other. cut.number < other.number) cuts))
