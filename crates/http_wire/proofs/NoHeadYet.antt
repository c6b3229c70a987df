-- Bytes in which no line ends, or none but empty ones, end no head.
use Rattle.std.proofs.Common.{◌≡◌, ℕ, ◌+◌, ◌<◌, ◌≤◌, ◌⊎◌, true, false, max, List, [], ◌∷◌, ◌++◌, length, take, drop, get_or, refl, sym, ◌∙◌, ap, subst, arith, append_assoc, append-nil, length-append, inl, inr, IsTrue}
use Rattle.std.proofs.lemmas.Bool.Decides.{nat_tests}
use Rattle.std.proofs.lemmas.List.{take-append-drop, take-append-le, take_at}
use Rattle.std.proofs.lemmas.List.Elements.{All-get_or}
use Rattle.std.proofs.Math.ListN.{get_or-append}
use Rattle.std.proofs.Math.Seq.{get_or-append_seam}
use Rattle.std.specs.List.{flat_map}
use Rattle.httparse.specs.Grammar.{is_token_byte, LineEnd, crlf, lf, print_end, print_blank, print_version, print_field, print_section, RequestHead, print_request, ReadsRequest, HasNoRequest}
use Rattle.httparse.proofs.GrammarLemmas.{print_request-append}
use Rattle.httparse.proofs.OnLiterals.{httparse_on_literals}
use Rattle.http_wire.specs.Lines.{is_line_byte, IsBlankUpTo, HasNoLineEnd, Extends}
use Rattle.http_wire.proofs.TooManyFields.{started, printed_start}

-- ---- the bytes of a head

feed_last : (last : LineEnd) → (x : List ℕ) × (print_end last ≡ x ++ 10 ∷ [])
feed_last lf = ([], refl)
feed_last crlf = (13 ∷ [], refl)

-- a head ends with a line feed
pub head_ends : (h : RequestHead) → (x : List ℕ) × (print_request h ≡ x ++ 10 ∷ [])
head_ends h =
    let last = feed_last h.last in
    let front : List ℕ = started h (flat_map print_field h.fields) in
    (front ++ last.0, sym (append-nil (print_request h)) ∙ printed_start h ∙ ap (λ (l : List ℕ). front ++ l) last.1 ∙ sym (append_assoc front last.0 (10 ∷ [])))

no_line_token : (b : ℕ) → is_line_byte b ≡ true → IsTrue (is_token_byte b) → ⊥
unfolding httparse_on_literals
no_line_token b line token = elim_byte b (which b line) token
  where
    which : (n : ℕ) → is_line_byte n ≡ true → (n ≡ 13) ⊎ (n ≡ 10)
    which n l = grind (arith, nat_tests)

    elim_byte : (n : ℕ) → (n ≡ 13) ⊎ (n ≡ 10) → IsTrue (is_token_byte n) → ⊥
    elim_byte n (inl e) t = let f : false ≡ true = subst (λ (m : ℕ). IsTrue (is_token_byte m)) e t in cc
    elim_byte n (inr e) t = let f : false ≡ true = subst (λ (m : ℕ). IsTrue (is_token_byte m)) e t in cc

at_seam : (blank method tail : List ℕ) → 0 < length method → get_or (blank ++ (method ++ tail)) (length blank) 0 ≡ get_or method 0 0
at_seam blank [] tail some = absurd (omega arith)
at_seam blank (b ∷ method) tail some = get_or-append_seam blank b (method ++ tail) 0

-- a head isn't of line ends alone
head_has_token : (h : RequestHead) (rest bytes : List ℕ) (n : ℕ) → ReadsRequest bytes h rest → length (print_request h) ≤ n → IsBlankUpTo n bytes → ⊥
head_has_token h rest bytes n reads long blank =
    let tail = 32 ∷ (h.target ++ 32 ∷ (print_version h.minor ++ (print_end h.line_end ++ (print_section h.fields h.last ++ [])))) in
    let whole : bytes ≡ print_blank h.blank ++ (h.method ++ (32 ∷ (h.target ++ 32 ∷ (print_version h.minor ++ (print_end h.line_end ++ (print_section h.fields h.last ++ rest)))))) = reads.1 ∙ print_request-append h rest in
    let count : length (print_request h) ≡ length (print_blank h.blank ++ (h.method ++ tail)) = ap length (sym (append-nil (print_request h)) ∙ print_request-append h []) in
    let some = reads.0.method.0 in
    let before : length (print_blank h.blank) < n =
    omega (arith, count, some, length-append (print_blank h.blank) (h.method ++ tail), length-append h.method tail) in
    let byte : get_or bytes (length (print_blank h.blank)) 0 ≡ get_or h.method 0 0 = ap (λ (l : List ℕ). get_or l (length (print_blank h.blank)) 0) whole ∙ at_seam (print_blank h.blank) h.method _ some in
    no_line_token (get_or h.method 0 0) (subst (λ (b : ℕ). is_line_byte b ≡ true) byte (blank (length (print_blank h.blank)) before)) (All-get_or (λ b. IsTrue (is_token_byte b)) h.method 0 0 some reads.0.method.1)

-- ---- more bytes, and still no head

-- a head within the old bytes stands there already
pub head_within : (old more : List ℕ) (h : RequestHead) (rest : List ℕ) → ReadsRequest (old ++ more) h rest → length (print_request h) ≤ length old → (r : List ℕ) × ReadsRequest old h r
head_within old more h rest reads short =
    let n = length (print_request h) in
    let same : take n old ≡ print_request h = sym (take-append-le n old more short) ∙ ap (take n) reads.1 ∙ take_at (print_request h) rest n refl in
    (drop n old, (reads.0, sym (take-append-drop n old) ∙ ap (λ (l : List ℕ). l ++ drop n old) same))

pub still_none : (old new : List ℕ) (blank : ℕ) → HasNoRequest old → Extends old new → IsBlankUpTo blank new → HasNoLineEnd (max blank (length old)) (length new) new → HasNoRequest new
still_none old new blank none more is_blank quiet h rest reads = elim_place (places (length (print_request h)))
  where
    places : (n : ℕ) → (n ≤ length old) ⊎ ((n ≤ blank) ⊎ (max blank (length old) < n))
    places n = grind arith

    elim_place : (length (print_request h) ≤ length old) ⊎ ((length (print_request h) ≤ blank) ⊎ (max blank (length old) < length (print_request h))) → ⊥
    elim_place (inl short) = let there = head_within old more.0 h rest (subst (λ (l : List ℕ). ReadsRequest l h rest) more.1 reads) short in none h there.0 there.1
    elim_place (inr (inl short)) = head_has_token h rest new blank reads short is_blank
    elim_place (inr (inr long)) =
        let ends = head_ends h in
        let count : length (print_request h) ≡ length ends.0 + 1 = ap length ends.1 ∙ length-append ends.0 (10 ∷ []) in
        let all : length new ≡ length (print_request h) + length rest = ap length reads.1 ∙ length-append (print_request h) rest in
        let whole : new ≡ ends.0 ++ 10 ∷ rest = reads.1 ∙ ap (λ (l : List ℕ). l ++ rest) ends.1 ∙ append_assoc ends.0 (10 ∷ []) rest in
        quiet (length ends.0) (omega (arith, long, count)) (omega (arith, all, count)) (ap (λ (l : List ℕ). get_or l (length ends.0) 0) whole ∙ get_or-append_seam ends.0 10 rest 0)

-- ---- what a further piece keeps

pub extends_more : (a b c : List ℕ) → Extends a b → Extends b c → Extends a c
extends_more a b c x y = (x.0 ++ y.0, y.1 ∙ ap (λ (l : List ℕ). l ++ y.0) x.1 ∙ append_assoc a x.0 y.0)

pub blank_more : (n : ℕ) (old new : List ℕ) → Extends old new → n ≤ length old → IsBlankUpTo n old → IsBlankUpTo n new
blank_more n old new more fits blank k l =
    subst (λ (b : ℕ). is_line_byte b ≡ true) (sym (ap (λ (xs : List ℕ). get_or xs k 0) more.1 ∙ get_or-append old more.0 0 k (omega (arith, l, fits)))) (blank k l)

-- from the first place on, in two parts
pub quiet_all : (blank n seen to : ℕ) (bytes : List ℕ) → HasNoLineEnd (max blank n) seen bytes → HasNoLineEnd (max blank seen) to bytes → HasNoLineEnd (max blank n) to bytes
quiet_all blank n seen to bytes first second k from below e = elim_side (sides k)
  where
    sides : (i : ℕ) → (i < seen) ⊎ (seen ≤ i)
    sides i = grind arith

    elim_side : (k < seen) ⊎ (seen ≤ k) → ⊥
    elim_side (inl l) = first k from l e
    elim_side (inr l) = second k (omega (arith, l, from)) below e

pub quiet_more : (blank later n : ℕ) (old new : List ℕ) → Extends old new → blank ≤ later → HasNoLineEnd (max blank n) (length old) old → HasNoLineEnd (max later n) (length old) new
quiet_more blank later n old new more grows quiet k from below e =
    quiet k (omega (arith, from, grows)) below (sym (ap (λ (xs : List ℕ). get_or xs k 0) more.1 ∙ get_or-append old more.0 0 k below) ∙ e)

-- the bytes that are held, at a place where no head may end in the last piece
pub quiet_so_far : (blank n seen : ℕ) (held slice : List ℕ) → slice ≡ held → HasNoLineEnd (max blank n) seen held → HasNoLineEnd (max blank seen) (length slice) slice → HasNoLineEnd (max blank n) (length held) held
quiet_so_far blank n seen held slice e first second = quiet_all blank n seen (length held) held first (subst (λ (l : List ℕ). HasNoLineEnd (max blank seen) (length l) l) e second)
