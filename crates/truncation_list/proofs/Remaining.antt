-- what a purge leaves: the order of the cuts, the floor, and what the book answers for
use Rattle.std.proofs.Common.{ℕ, ◌≡◌, ◌<◌, ◌≤◌, max, ◌||◌, ◌⊎◌, inl, inr, refl, subst, arith, zero, suc, Bool, true, false, cond, List, ◌∷◌, ◌++◌, fold, length, Option, Some, None, IsTrue, get_or, drop, ap, ◌+◌, ◌-◌, []}
use Rattle.std.specs.List.{All, Contains, list_any}
use Rattle.std.proofs.lemmas.Bool.Decides.{nat_tests}
use Rattle.std.proofs.lemmas.List.{drop_more, length-drop}
use Rattle.std.proofs.lemmas.List.Elements.{All-append, All-cons, All-contains, All-head, All-nil, All-tail, Contains-append_cases, Contains-append_left, Contains-append_right, Contains-get_or, Contains-push}
use Rattle.truncation_list.specs.declared.book.Book.{Book}
use Rattle.truncation_list.specs.declared.book.Cut.{Cut}
use Rattle.truncation_list.specs.declared.cover.Cover.{Cover}
use Rattle.truncation_list.specs.Books.{AnswersFor, AnswersForBook, Outdoes}
use Rattle.truncation_list.specs.Contains.{contains}
use Rattle.truncation_list.specs.Covers.{IsWithinReach}
use Rattle.truncation_list.specs.Purge.{IsAbove, IsByNumber, IsInOrder, added, goes, is_old, is_outdone, is_within, purged, raised, remaining, with_cut, with_floor}
use Rattle.truncation_list.proofs.Answering.{answers_for_cut, answers_for_outdone, any_of}
use Rattle.truncation_list.proofs.Containment.{contains_through}

-- LISTS

here : (x : Cut) (xs : List Cut) → Contains (x ∷ xs) x
here x xs = (0, omega arith, refl)

later : (x : Cut) (xs : List Cut) (k : Cut) → Contains xs k → Contains (x ∷ xs) k
later x xs k c = Contains-append_right (x ∷ []) xs k c

only : (x k : Cut) → Contains (x ∷ []) k → x ≡ k
only x k (zero, l, e) = e
only x k (suc i, l, e) = absurd (omega arith)

first_or_later : (x : Cut) (xs : List Cut) (k : Cut) → Contains (x ∷ xs) k → (x ≡ k) ⊎ Contains xs k
first_or_later x xs k c = elim (Contains-append_cases (x ∷ []) xs k c) [ inl h ↦ inl (only x k h) | inr h ↦ inr h ]

pub all_of : (P : Cut → Type 0) (cuts : List Cut) → ((k : Cut) → Contains cuts k → P k) → All P cuts
all_of P cuts h i d l = h (get_or cuts i d) (Contains-get_or cuts i d l)

any_at : (p : Cut → Bool) (x : Cut) (xs : List Cut) (v : Bool) → p x ≡ v → (IsTrue (list_any p xs) → (k : Cut) × Contains xs k × IsTrue (p k)) → IsTrue (v || list_any p xs) → (k : Cut) × Contains (x ∷ xs) k × IsTrue (p k)
any_at p x xs true e ih h = (x, here x xs, e)
any_at p x xs false e ih h = let r = ih h in (r.0, later x xs r.0 r.1, r.2)

pub some_of : (p : Cut → Bool) (xs : List Cut) → IsTrue (list_any p xs) → (k : Cut) × Contains xs k × IsTrue (p k)
some_of p [] h = absurd (cc)
some_of p (x ∷ xs) h = any_at p x xs (p x) refl (some_of p xs) h

either : (s t : Bool) → IsTrue (s || t) → IsTrue s ⊎ IsTrue t
either true t h = inl refl
either false t h = inr h

-- WHAT STAYS

all_at : (P : Cut → Type 0) (x : Cut) (rest : List Cut) (v : Bool) → P x → All P rest → All P (cond v rest (x ∷ rest))
all_at P x rest true p h = h
all_at P x rest false p h = All-cons P x rest p h

pub all_remaining : (P : Cut → Type 0) (cover : Option Cover) (least : Option ℕ) (cuts : List Cut) → All P cuts → All P (remaining cover least cuts)
all_remaining P cover least [] h = h
all_remaining P cover least (x ∷ xs) h =
    all_at P x (remaining cover least xs) (goes cover least xs x) (All-head P x xs h) (all_remaining P cover least xs (All-tail P x xs h))

count_at : (x : Cut) (rest : List Cut) (n : ℕ) (v : Bool) → length rest ≤ n → length (cond v rest (x ∷ rest)) ≤ suc n
count_at x rest n true h = omega arith
count_at x rest n false h = omega arith

pub no_more_remain : (cover : Option Cover) (least : Option ℕ) (cuts : List Cut) → length (remaining cover least cuts) ≤ length cuts
no_more_remain cover least [] = omega arith
no_more_remain cover least (x ∷ xs) = count_at x (remaining cover least xs) (length xs) (goes cover least xs x) (no_more_remain cover least xs)

gone_first : (cover : Option Cover) (least : Option ℕ) (x : Cut) (xs : List Cut) → IsTrue (goes cover least xs x) → length (remaining cover least (x ∷ xs)) ≤ length xs
gone_first cover least x xs g = rw g (no_more_remain cover least xs)

-- where this cut goes, fewer stay than stand from its place on
pub fewer_remain : (cover : Option Cover) (least : Option ℕ) (cuts : List Cut) (i : ℕ) (d : Cut) → i < length cuts → IsTrue (goes cover least (drop (i + 1) cuts) (get_or cuts i d)) → length (remaining cover least (drop i cuts)) + i < length cuts
fewer_remain cover least cuts i d l g =
    let h = gone_first cover least (get_or cuts i d) (drop (i + 1) cuts) g in
    let n : length (drop (i + 1) cuts) ≡ length cuts - (i + 1) = length-drop (i + 1) cuts in
    let e = ap (λ (rest : List Cut). length (remaining cover least rest)) (drop_more cuts i d l) in
    omega (arith, h, n, e)

order_at : (x : Cut) (rest : List Cut) (v : Bool) → All (λ other. x.number < other.number) rest → IsByNumber rest → IsByNumber (cond v rest (x ∷ rest))
order_at x rest true a h = h
order_at x rest false a h = (a, h)

pub by_number_remaining : (cover : Option Cover) (least : Option ℕ) (cuts : List Cut) → IsByNumber cuts → IsByNumber (remaining cover least cuts)
by_number_remaining cover least [] h = tt
by_number_remaining cover least (x ∷ xs) h =
    order_at x (remaining cover least xs) (goes cover least xs x) (all_remaining (λ other. x.number < other.number) cover least xs h.0) (by_number_remaining cover least xs h.1)

pub by_number_with : (cuts : List Cut) (k : Cut) → IsByNumber cuts → IsAbove k.number cuts → IsByNumber (cuts ++ k ∷ [])
by_number_with [] k h a = (All-nil (λ other. k.number < other.number), tt)
by_number_with (x ∷ xs) k h a =
    let first : x.number < k.number = All-head (λ cut. cut.number < k.number) x xs a in (
      All-append (λ other. x.number < other.number) xs (k ∷ []) h.0 (All-cons (λ other. x.number < other.number) k [] first (All-nil (λ other. x.number < other.number))),
      by_number_with xs k h.1 (All-tail (λ cut. cut.number < k.number) x xs a),
    )

pub in_order_with : (cuts : List Cut) (k : Cut) → IsInOrder cuts → IsAbove k.number cuts → IsWithinReach k.cover → IsInOrder (cuts ++ k ∷ [])
in_order_with cuts k o a r = record {
  by_number = by_number_with cuts k o.by_number a;
  within_reach = All-append (λ cut. IsWithinReach cut.cover) cuts (k ∷ []) o.within_reach (All-cons (λ cut. IsWithinReach cut.cover) k [] r (All-nil (λ cut. IsWithinReach cut.cover)));
}

pub in_order_remaining : (cover : Option Cover) (least : Option ℕ) (cuts : List Cut) → IsInOrder cuts → IsInOrder (remaining cover least cuts)
in_order_remaining cover least cuts o = record {
  by_number = by_number_remaining cover least cuts o.by_number;
  within_reach = all_remaining (λ cut. IsWithinReach cut.cover) cover least cuts o.within_reach;
}

pub above_remaining : (number : ℕ) (cover : Option Cover) (least : Option ℕ) (cuts : List Cut) → IsAbove number cuts → IsAbove number (remaining cover least cuts)
above_remaining number cover least cuts a = all_remaining (λ cut. cut.number < number) cover least cuts a

pub in_order_added : (number : ℕ) (cover : Cover) (least : Option ℕ) (book : Book) → IsInOrder book.cuts → IsAbove number book.cuts → IsWithinReach cover → IsInOrder (added number cover least book).cuts
in_order_added number cover least book o a r =
    in_order_with (remaining (Some cover) least book.cuts) (record { number = number; cover = cover }) (in_order_remaining (Some cover) least book.cuts o) (above_remaining number (Some cover) least book.cuts a) r

-- THE FLOOR

raised_from : (v : Bool) (floor number : ℕ) → floor ≤ cond v (max floor number) floor
raised_from true floor number = omega arith
raised_from false floor number = omega arith

pub floor_rises : (least : Option ℕ) (cuts : List Cut) (floor : ℕ) → floor ≤ fold (raised least) floor cuts
floor_rises least [] floor = omega arith
floor_rises least (x ∷ xs) floor =
    let h = raised_from (is_old least x) floor x.number in
    let r = floor_rises least xs (raised least floor x) in
    omega (arith, h, r)

below_at : (least : ℕ) (floor : ℕ) (x : Cut) (v : Bool) → is_old (Some least) x ≡ v → floor < least → cond v (max floor x.number) floor < least
below_at least floor x true e h = let l : x.number < least = grind (arith, nat_tests, e) in omega arith
below_at least floor x false e h = h

pub floor_below_least : (least : ℕ) (cuts : List Cut) (floor : ℕ) → floor < least → fold (raised (Some least)) floor cuts < least
floor_below_least least [] floor h = h
floor_below_least least (x ∷ xs) floor h = floor_below_least least xs (raised (Some least) floor x) (below_at least floor x (is_old (Some least) x) refl h)

under_at : (number floor : ℕ) (x : Cut) (v : Bool) → floor < number → x.number < number → cond v (max floor x.number) floor < number
under_at number floor x true h l = omega arith
under_at number floor x false h l = h

pub floor_below_above : (least : Option ℕ) (number : ℕ) (cuts : List Cut) (floor : ℕ) → IsAbove number cuts → floor < number → fold (raised least) floor cuts < number
floor_below_above least number [] floor a h = h
floor_below_above least number (x ∷ xs) floor a h =
    let first : x.number < number = All-head (λ cut. cut.number < number) x xs a in
    floor_below_above least number xs (raised least floor x) (All-tail (λ cut. cut.number < number) x xs a) (under_at number floor x (is_old least x) h first)

old_below_floor : (least : Option ℕ) (floor : ℕ) (x : Cut) (xs : List Cut) → IsTrue (is_old least x) → x.number ≤ fold (raised least) (raised least floor x) xs
old_below_floor least floor x xs e =
    let r = floor_rises least xs (raised least floor x) in
    let m : x.number ≤ raised least floor x = rw e (omega arith) in
    omega (arith, r, m)

-- WHAT THE BOOK ANSWERS FOR

pub answers_of_more : (book other : Book) → other.floor ≤ book.floor → ((k : Cut) → Contains other.cuts k → Contains book.cuts k) → AnswersForBook book other
answers_of_more book other f h = record { floor = f; cuts = all_of (AnswersFor book) other.cuts (λ k c. inl (h k c)) }

-- the purged book answers for the cut, or the cover that comes contains it
abbrev Left : Option Cover → Option ℕ → ℕ → List Cut → Cut → Type 0
Left cover least floor cuts k =
    AnswersFor (record { cuts = remaining cover least cuts; floor = fold (raised least) floor cuts }) k ⊎ IsTrue (is_within cover k)

within_through : (cover : Option Cover) (j k : Cut) → IsTrue (is_within cover j) → IsTrue (contains j.cover k.cover) → IsTrue (is_within cover k)
within_through None j k h c = absurd (cc)
within_through (Some outer) j k h c = contains_through outer j.cover k.cover h c

left_by : (cover : Option Cover) (least : Option ℕ) (floor : ℕ) (cuts : List Cut) (j k : Cut) → k.number < j.number → IsTrue (contains j.cover k.cover) → Left cover least floor cuts j → Left cover least floor cuts k
left_by cover least floor cuts j k l c (inl a) =
    inl (answers_for_outdone (record { cuts = remaining cover least cuts; floor = fold (raised least) floor cuts }) j k a (record { number = omega arith; cover = c }))
left_by cover least floor cuts j k l c (inr w) = inr (within_through cover j k w c)

stays_at : (x : Cut) (rest : List Cut) (v : Bool) (k : Cut) → Contains rest k → Contains (cond v rest (x ∷ rest)) k
stays_at x rest true k c = c
stays_at x rest false k c = later x rest k c

left_more : (cover : Option Cover) (least : Option ℕ) (floor : ℕ) (x : Cut) (xs : List Cut) (k : Cut) → Left cover least (raised least floor x) xs k → Left cover least floor (x ∷ xs) k
left_more cover least floor x xs k (inr w) = inr w
left_more cover least floor x xs k (inl a) =
    let small : Book = record { cuts = remaining cover least xs; floor = fold (raised least) (raised least floor x) xs } in
    let large : Book = record { cuts = remaining cover least (x ∷ xs); floor = fold (raised least) floor (x ∷ xs) } in
    inl (answers_for_cut large small k (answers_of_more large small (omega arith) (stays_at x (remaining cover least xs) (goes cover least xs x))) a)

left_gone : (cover : Option Cover) (least : Option ℕ) (floor : ℕ) (x : Cut) (xs : List Cut) → All (λ other. x.number < other.number) xs → ((j : Cut) → Contains xs j → Left cover least (raised least floor x) xs j) → IsTrue (goes cover least xs x) → Left cover least floor (x ∷ xs) x
left_gone cover least floor x xs above ih g =
    elim (either (is_within cover x || is_old least x) (is_outdone xs x) g) [
      | inl own ↦ by_own (either (is_within cover x) (is_old least x) own)
      | inr o ↦ by_later (some_of (λ other. contains other.cover x.cover) xs o)
    ]
  where
    by_own : IsTrue (is_within cover x) ⊎ IsTrue (is_old least x) → Left cover least floor (x ∷ xs) x
    by_own (inl w) = inr w
    by_own (inr o) = inl (inr (inr (old_below_floor least floor x xs o)))

    by_later : (j : Cut) × Contains xs j × IsTrue (contains j.cover x.cover) → Left cover least floor (x ∷ xs) x
    by_later r =
        let l : x.number < r.0.number = All-contains (λ other. x.number < other.number) xs r.0 above r.1 in
        left_more cover least floor x xs x (left_by cover least (raised least floor x) xs r.0 x l r.2 (ih r.0 r.1))

left_first : (cover : Option Cover) (least : Option ℕ) (floor : ℕ) (x : Cut) (xs : List Cut) (v : Bool) → goes cover least xs x ≡ v → All (λ other. x.number < other.number) xs → ((j : Cut) → Contains xs j → Left cover least (raised least floor x) xs j) → Left cover least floor (x ∷ xs) x
left_first cover least floor x xs true g above ih = left_gone cover least floor x xs above ih g
left_first cover least floor x xs false g above ih = inl (inl (rw g (here x (remaining cover least xs))))

pub left : (cover : Option Cover) (least : Option ℕ) (floor : ℕ) (cuts : List Cut) (k : Cut) → IsByNumber cuts → Contains cuts k → Left cover least floor cuts k
left cover least floor [] k o c = let l = c.1 in absurd (omega arith)
left cover least floor (x ∷ xs) k o c =
    elim (first_or_later x xs k c) [
      | inl e ↦ subst (Left cover least floor (x ∷ xs)) e (left_first cover least floor x xs (goes cover least xs x) refl o.0 (λ j h. left cover least (raised least floor x) xs j o.1 h))
      | inr h ↦ left_more cover least floor x xs k (left cover least (raised least floor x) xs k o.1 h)
    ]

pub entered_answers : (number : ℕ) (cover : Cover) (book : Book) → AnswersForBook (with_cut number cover book) book
entered_answers number cover book =
    answers_of_more (with_cut number cover book) book (omega arith) (λ k c. Contains-append_left book.cuts (record { number = number; cover = cover } ∷ []) k c)

pub lists_new : (number : ℕ) (cover : Cover) (book : Book) → AnswersFor (with_cut number cover book) (record { number = number; cover = cover })
lists_new number cover book = inl (Contains-push book.cuts (record { number = number; cover = cover }))

pub added_answers : (number : ℕ) (cover : Cover) (least : Option ℕ) (book : Book) → IsByNumber book.cuts → IsAbove number book.cuts → AnswersForBook (added number cover least book) book
added_answers number cover least book o a = record { floor = floor_rises least book.cuts book.floor; cuts = all_of (AnswersFor (added number cover least book)) book.cuts each }
  where
    answer : (k : Cut) → k.number < number → Left (Some cover) least book.floor book.cuts k → AnswersFor (added number cover least book) k
    answer k l (inl h) =
        answers_for_cut (added number cover least book) (purged (Some cover) least book) k (entered_answers number cover (purged (Some cover) least book)) h
    answer k l (inr w) =
        let new : Cut = record { number = number; cover = cover } in
        inr (inl (any_of (λ cut. Outdoes cut k) (added number cover least book).cuts new (Contains-push (remaining (Some cover) least book.cuts) new) (record { number = omega arith; cover = w })))

    each : (k : Cut) → Contains book.cuts k → AnswersFor (added number cover least book) k
    each k c = answer k (All-contains (λ cut. cut.number < number) book.cuts k a c) (left (Some cover) least book.floor book.cuts k o c)

pub purged_answers : (least : Option ℕ) (book : Book) → IsByNumber book.cuts → AnswersForBook (purged None least book) book
purged_answers least book o = record { floor = floor_rises least book.cuts book.floor; cuts = all_of (AnswersFor (purged None least book)) book.cuts (λ k c. answer k (left None least book.floor book.cuts k o c)) }
  where
    answer : (k : Cut) → Left None least book.floor book.cuts k → AnswersFor (purged None least book) k
    answer k (inl h) = h
    answer k (inr w) = absurd (cc)

pub raised_answers : (floor : ℕ) (book : Book) → AnswersForBook (with_floor floor book) book
raised_answers floor book = answers_of_more (with_floor floor book) book (omega arith) (λ k c. c)
