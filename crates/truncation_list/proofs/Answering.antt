-- `answers for` between books is reflexive and transitive, and a book that answers for another has seen no fewer cuts
use Rattle.std.proofs.Common.{ℕ, ◌≡◌, ◌<◌, ◌≤◌, max, ◌⊎◌, inl, inr, ap, arith, zero, suc, List, [], ◌∷◌, length, get_or}
use Rattle.std.specs.List.{All, Any, Contains}
use Rattle.std.proofs.lemmas.List.Elements.{All-contains, All-contains_itself, All-head, All-tail, All-weaker}
use Rattle.truncation_list.specs.declared.book.Book.{Book}
use Rattle.truncation_list.specs.declared.book.Cut.{Cut}
use Rattle.truncation_list.specs.declared.book.FrontedBook.{FrontedBook}
use Rattle.truncation_list.specs.Books.{AnswersFor, AnswersForBook, AnswersForFronted, Outdoes, greatest_number, last_seen}
use Rattle.truncation_list.specs.Purge.{IsAbove}
use Rattle.truncation_list.proofs.Containment.{contains_through}

pub outdoes_through : (a b c : Cut) → Outdoes a b → Outdoes b c → Outdoes a c
outdoes_through a b c h k =
    let x = h.number in
    let y = k.number in
    record { number = omega arith; cover = contains_through a.cover b.cover c.cover h.cover k.cover }

-- an element that a fact holds of, and the other way
pub any_of : (P : Cut → Type 0) (cuts : List Cut) (cut : Cut) → Contains cuts cut → P cut → Any P cuts
any_of P cuts cut c p = (c.0, cut, c.1, c.2, p)

pub of_any : (P : Cut → Type 0) (cuts : List Cut) → Any P cuts → (cut : Cut) × Contains cuts cut × P cut
of_any P cuts a = (a.1, (a.0, a.2, a.3), a.4)

-- what outdoes a cut that a book answers for answers for what the cut outdoes
pub answers_for_outdone : (book : Book) (cut other : Cut) → AnswersFor book cut → Outdoes cut other → AnswersFor book other
answers_for_outdone book cut other (inl listed) o = inr (inl (any_of (λ k. Outdoes k other) book.cuts cut listed o))
answers_for_outdone book cut other (inr (inl more)) o =
    let m = of_any (λ k. Outdoes k cut) book.cuts more in
    inr (inl (any_of (λ k. Outdoes k other) book.cuts m.0 m.1 (outdoes_through m.0 cut other m.2 o)))
answers_for_outdone book cut other (inr (inr low)) o = let n = o.number in inr (inr (omega arith))

pub answers_for_cut : (a b : Book) (cut : Cut) → AnswersForBook a b → AnswersFor b cut → AnswersFor a cut
answers_for_cut a b cut h (inl listed) = All-contains (AnswersFor a) b.cuts cut h.cuts listed
answers_for_cut a b cut h (inr (inl more)) =
    let m = of_any (λ k. Outdoes k cut) b.cuts more in
    answers_for_outdone a m.0 cut (All-contains (AnswersFor a) b.cuts m.0 h.cuts m.1) m.2
answers_for_cut a b cut h (inr (inr low)) = let f = h.floor in inr (inr (omega arith))

pub answers_itself : (a : Book) → AnswersForBook a a
answers_itself a = record { floor = omega arith; cuts = All-weaker (Contains a.cuts) (AnswersFor a) (λ k h. inl h) a.cuts (All-contains_itself a.cuts) }

pub answers_through : (a b c : Book) → AnswersForBook a b → AnswersForBook b c → AnswersForBook a c
answers_through a b c h k =
    let f = h.floor in
    let g = k.floor in
    record { floor = omega arith; cuts = All-weaker (AnswersFor b) (AnswersFor a) (λ cut. answers_for_cut a b cut h) c.cuts k.cuts }

-- WHAT A BOOK HAS SEEN

at_most_greatest : (cuts : List Cut) (cut : Cut) (i : ℕ) → i < length cuts → get_or cuts i cut ≡ cut → cut.number ≤ greatest_number cuts
at_most_greatest [] cut i l e = absurd (omega arith)
at_most_greatest (x ∷ xs) cut zero l e = let n : x.number ≡ cut.number = ap (λ (k : Cut). k.number) e in omega arith
at_most_greatest (x ∷ xs) cut (suc i) l e = let h = at_most_greatest xs cut i (omega arith) e in omega arith

pub listed_at_most : (cuts : List Cut) (cut : Cut) → Contains cuts cut → cut.number ≤ greatest_number cuts
listed_at_most cuts cut c = at_most_greatest cuts cut c.0 c.1 c.2

pub greatest_at_most : (n : ℕ) (cuts : List Cut) → All (λ cut. cut.number ≤ n) cuts → greatest_number cuts ≤ n
greatest_at_most n [] h = omega arith
greatest_at_most n (x ∷ xs) h =
    let here : x.number ≤ n = All-head (λ cut. cut.number ≤ n) x xs h in
    let there = greatest_at_most n xs (All-tail (λ cut. cut.number ≤ n) x xs h) in
    omega arith

pub seen_answered : (book : Book) (cut : Cut) → AnswersFor book cut → cut.number ≤ last_seen book
seen_answered book cut (inl listed) = let h = listed_at_most book.cuts cut listed in omega arith
seen_answered book cut (inr (inl more)) =
    let m = of_any (λ k. Outdoes k cut) book.cuts more in
    let o = m.2.number in
    let h = listed_at_most book.cuts m.0 m.1 in
    omega arith
seen_answered book cut (inr (inr low)) = omega arith

pub seen_grows : (a b : Book) → AnswersForBook a b → last_seen b ≤ last_seen a
seen_grows a b h =
    let f = h.floor in
    let g = greatest_at_most (last_seen a) b.cuts (All-weaker (AnswersFor a) (λ cut. cut.number ≤ last_seen a) (seen_answered a) b.cuts h.cuts) in
    omega arith

pub seen_below : (number : ℕ) (book : Book) → last_seen book < number → IsAbove number book.cuts
seen_below number book h =
    All-weaker (Contains book.cuts) (λ cut. cut.number < number) (λ cut c. let l = listed_at_most book.cuts cut c in omega arith) book.cuts (All-contains_itself book.cuts)

pub seen_of_both : (a b c : Book) → AnswersForBook a b → AnswersForBook a c → (a ≡ b) ⊎ (a ≡ c) → last_seen a ≡ max (last_seen b) (last_seen c)
seen_of_both a b c h k (inl e) = let x = seen_grows a c k in let s : last_seen a ≡ last_seen b = ap last_seen e in omega arith
seen_of_both a b c h k (inr e) = let x = seen_grows a b h in let s : last_seen a ≡ last_seen c = ap last_seen e in omega arith

-- WITH FRONTS

pub fronted_itself : (a : FrontedBook) → AnswersForFronted a a
fronted_itself a = record { book = answers_itself a.book; front = omega arith }

pub fronted_through : (a b c : FrontedBook) → AnswersForFronted a b → AnswersForFronted b c → AnswersForFronted a c
fronted_through a b c h k =
    let x = h.front in
    let y = k.front in
    record { book = answers_through a.book b.book c.book h.book k.book; front = omega arith }
