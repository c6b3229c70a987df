-- Two readings of the same bytes are one, but for the two exceptions.
use Rattle.std.proofs.Common.{◌≡◌, ℕ, zero, suc, ◌<◌, ◌≤◌, ◌⊎◌, Bool, true, false, cond, List, [], ◌∷◌, ◌++◌, length, length-append, take, get_or, Option, Some, None, IsSome, refl, sym, ◌∙◌, ap, subst, arith, append-nil, inl, inr}
use Rattle.std.specs.Prelude.{codes, nat_lt, if◌then◌else◌}
use Rattle.std.proofs.lemmas.Bool.Decides.{nat_tests}
use Rattle.std.proofs.lemmas.List.{take_at, append_cancel_left}
use Rattle.std.proofs.lemmas.Str.{IsUtf8-from_ascii}
use Rattle.std.proofs.lemmas.List.Sums.{AllPass-from_list_all}
use Rattle.httparse.specs.Grammar.{is_token_byte, is_uri_byte, RequestHead, print_request, print_blank, print_version, print_end, print_section, ReadsRequest, NeverHasRequest, EndsInTarget, lf}
use Rattle.httparse.specs.Spans.{RequestExceeds}
use Rattle.httparse.proofs.GrammarLemmas.{request_unique, print_request-append}
use Rattle.httparse.proofs.OnLiterals.{httparse_on_literals}
use Rattle.http_wire.specs.Messages.{front, body_length, is_coded, is_last, method_of, BeginsWith, IsNext, IsUnfinished, IsBad, StopsAs}
use Rattle.http_wire.specs.Streams.{Messages}
use Rattle.http_wire.specs.Exceptions.{Agree, AgreeAfter}
use Rattle.http_wire.specs.declared.message.Message.{Message}
use Rattle.http_wire.specs.declared.message.Stop.{Stop}
use Rattle.http_wire.specs.declared.message.Stop.TheVariants.{End, Truncated, Bad}
use Rattle.http_wire.proofs.HeadAtFront.{front_reads, no_head_none}
use Rattle.http_wire.proofs.TooManyFields.{exceeds_overflows}

-- ---- what stands after a head

-- why no message stands after a head, by the length that it says, whether it is coded, and how many bytes follow
abbrev verdict_of : Option ℕ → Bool → ℕ → Option Stop
verdict_of None coded left = Some (Bad 400)
verdict_of (Some size) coded left =
    if coded then Some (Bad 501) else if nat_lt 65536 size then Some (Bad 413) else if nat_lt left size then Some Truncated else None

abbrev verdict : RequestHead → List ℕ → Option Stop
verdict head rest = verdict_of (body_length head) (is_coded head) (length rest)

-- ---- five kinds of stop

record ByHead (bytes : List ℕ) (s : Stop) : Type 0 where
  head : RequestHead
  rest : List ℕ
  begins : BeginsWith bytes head rest
  stops : verdict head rest ≡ Some s

record AtEnd (bytes : List ℕ) (s : Stop) : Type 0 where
  is : s ≡ End
  none : bytes ≡ []

record Hopeless (bytes : List ℕ) (s : Stop) : Type 0 where
  is : s ≡ Bad 400
  never : NeverHasRequest (front bytes)

record Many (bytes : List ℕ) (s : Stop) : Type 0 where
  is : s ≡ Bad 431
  exceeds : RequestExceeds 64 (front bytes)

record Open (bytes : List ℕ) (s : Stop) : Type 0 where
  unfinished : IsUnfinished bytes
  some : 0 < length bytes
  which : ((s ≡ Bad 431) × (16384 ≤ length bytes)) ⊎ ((s ≡ Truncated) × (length bytes < 16384))

data Kind (bytes : List ℕ) (s : Stop) : Type 0 where
  by_head : ByHead bytes s → Kind bytes s
  at_end : AtEnd bytes s → Kind bytes s
  hopeless : Hopeless bytes s → Kind bytes s
  many : Many bytes s → Kind bytes s
  open_head : Open bytes s → Kind bytes s

wrong_verdict : (o : Option ℕ) (b : Bool) (n : ℕ) → o ≡ None → verdict_of o b n ≡ Some (Bad 400)
wrong_verdict o b n e = ap (λ (x : Option ℕ). verdict_of x b n) e

coded_verdict : (o : Option ℕ) (b : Bool) (n : ℕ) → IsSome o → b ≡ true → verdict_of o b n ≡ Some (Bad 501)
coded_verdict None b n is e = absurd (cc)
coded_verdict (Some size) b n is e = ap (λ (x : Bool). verdict_of (Some size) x n) e

long_verdict : (o : Option ℕ) (b : Bool) (n size : ℕ) → o ≡ Some size → b ≡ false → 65536 < size → verdict_of o b n ≡ Some (Bad 413)
long_verdict o b n size e p l =
    let test : nat_lt 65536 size ≡ true = grind (arith, nat_tests) in
    ap (λ (x : Option ℕ). verdict_of x b n) e ∙ ap (λ (x : Bool). verdict_of (Some size) x n) p ∙ ap (λ (x : Bool). cond x (Some (Bad 413)) (cond (nat_lt n size) (Some Truncated) None)) test

short_verdict : (o : Option ℕ) (b : Bool) (n size : ℕ) → o ≡ Some size → b ≡ false → size ≤ 65536 → n < size → verdict_of o b n ≡ Some Truncated
short_verdict o b n size e p l m =
    let test : nat_lt 65536 size ≡ false = grind (arith, nat_tests) in
    let less : nat_lt n size ≡ true = grind (arith, nat_tests) in
    ap (λ (x : Option ℕ). verdict_of x b n) e ∙ ap (λ (x : Bool). verdict_of (Some size) x n) p ∙ ap (λ (x : Bool). cond x (Some (Bad 413)) (cond (nat_lt n size) (Some Truncated) None)) test
    ∙ ap (λ (x : Bool). cond x (Some Truncated) None) less

whole_verdict : (o : Option ℕ) (b : Bool) (n size : ℕ) → o ≡ Some size → b ≡ false → size ≤ 65536 → size ≤ n → verdict_of o b n ≡ None
whole_verdict o b n size e p l m =
    let test : nat_lt 65536 size ≡ false = grind (arith, nat_tests) in
    let less : nat_lt n size ≡ false = grind (arith, nat_tests) in
    ap (λ (x : Option ℕ). verdict_of x b n) e ∙ ap (λ (x : Bool). verdict_of (Some size) x n) p ∙ ap (λ (x : Bool). cond x (Some (Bad 413)) (cond (nat_lt n size) (Some Truncated) None)) test
    ∙ ap (λ (x : Bool). cond x (Some Truncated) None) less

status_of : (bytes : List ℕ) (n m : ℕ) → n ≡ m → Kind bytes (Bad m) → Kind bytes (Bad n)
status_of bytes n m e k = subst (λ (i : ℕ). Kind bytes (Bad i)) (sym e) k

bad_kind : (bytes : List ℕ) (n : ℕ) → IsBad bytes n → Kind bytes (Bad n)
bad_kind bytes n (inl (e, inl never)) = status_of bytes n 400 e (hopeless (record { is = refl; never = never }))
bad_kind bytes n (inl (e, inr x)) = status_of bytes n 400 e (by_head (record { head = x.0; rest = x.1; begins = x.2; stops = wrong_verdict (body_length x.0) (is_coded x.0) (length x.1) x.3 }))
bad_kind bytes n (inr (inl (e, inl x))) = status_of bytes n 431 e (open_head (record { unfinished = x.1; some = omega (arith, x.0); which = inl (refl, x.0) }))
bad_kind bytes n (inr (inl (e, inr x))) = status_of bytes n 431 e (many (record { is = refl; exceeds = x }))
bad_kind bytes n (inr (inr (inl (e, x)))) = status_of bytes n 501 e (by_head (record { head = x.0; rest = x.1; begins = x.2; stops = coded_verdict (body_length x.0) (is_coded x.0) (length x.1) x.3 x.4 }))
bad_kind bytes n (inr (inr (inr (e, x)))) = status_of bytes n 413 e (by_head (record { head = x.0; rest = x.1; begins = x.3; stops = long_verdict (body_length x.0) (is_coded x.0) (length x.1) x.2 x.4 x.5 x.6 }))

kind_of : (bytes : List ℕ) (s : Stop) → StopsAs bytes s → Kind bytes s
kind_of bytes End e = at_end (record { is = refl; none = e })
kind_of bytes Truncated (inl x) = open_head (record { unfinished = x.unfinished; some = x.some; which = inr (refl, x.short) })
kind_of bytes Truncated (inr x) = by_head (record { head = x.head; rest = x.rest; begins = x.begins; stops = short_verdict (body_length x.head) (is_coded x.head) (length x.rest) x.size x.said x.plain x.bounded x.short })
kind_of bytes (Bad n) x = bad_kind bytes n x

-- ---- a head, and a stop that isn't of a head

head_some : (bytes : List ℕ) (h : RequestHead) (rest : List ℕ) → ReadsRequest bytes h rest → 0 < length bytes
head_some bytes h rest x =
    let whole = x.1 ∙ print_request-append h rest in
    let count = ap length whole in
    let inner = length-append h.method (32 ∷ (h.target ++ 32 ∷ (print_version h.minor ++ (print_end h.line_end ++ (print_section h.fields h.last ++ rest))))) in
    let outer = length-append (print_blank h.blank) (h.method ++ 32 ∷ (h.target ++ 32 ∷ (print_version h.minor ++ (print_end h.line_end ++ (print_section h.fields h.last ++ rest))))) in
    omega (arith, count, inner, outer)

no_head_many : (bytes : List ℕ) (h : RequestHead) (rest : List ℕ) → BeginsWith bytes h rest → RequestExceeds 64 (front bytes) → ⊥
no_head_many bytes h rest b x =
    let r = front_reads bytes h rest b in
    let over = exceeds_overflows 64 (front bytes) x [] h r.0 (subst (λ (l : List ℕ). ReadsRequest l h r.0) (sym (append-nil (front bytes))) r.1) in
    omega (arith, over, b.few)

no_head_never : (bytes : List ℕ) (h : RequestHead) (rest : List ℕ) → BeginsWith bytes h rest → NeverHasRequest (front bytes) → ⊥
no_head_never bytes h rest b never =
    let r = front_reads bytes h rest b in
    never [] h r.0 (subst (λ (l : List ℕ). ReadsRequest l h r.0) (sym (append-nil (front bytes))) r.1)

no_head_end : (bytes : List ℕ) (h : RequestHead) (rest : List ℕ) → BeginsWith bytes h rest → bytes ≡ [] → ⊥
no_head_end bytes h rest b e = let some = head_some bytes h rest b.reads in let none = ap length e in omega (arith, some, none)

-- ---- the empty stream may go on to a head

abbrev a_head : RequestHead
a_head = record { blank = []; method = codes "GET"; target = codes "/"; minor = 0; line_end = lf; fields = []; last = lf }

slash_ascii : (i : ℕ) → get_or (47 ∷ []) i 0 < 128
slash_ascii zero = omega arith
slash_ascii (suc i) = omega arith

a_head_reads : ReadsRequest (print_request a_head) a_head []
unfolding httparse_on_literals
a_head_reads = (record { method = (omega arith, AllPass-from_list_all is_token_byte (codes "GET") refl); target = (omega arith, AllPass-from_list_all is_uri_byte (codes "/") refl); target_text = IsUtf8-from_ascii (codes "/") slash_ascii; minor = omega arith; fields = λ k d l. absurd (omega arith) }, sym (append-nil (print_request a_head)))

end_never : (bytes : List ℕ) → bytes ≡ [] → NeverHasRequest (front bytes) → ⊥
end_never bytes e never = subst (λ (l : List ℕ). NeverHasRequest (front l)) e never (print_request a_head) a_head [] a_head_reads

end_many : (bytes : List ℕ) → bytes ≡ [] → RequestExceeds 64 (front bytes) → ⊥
end_many bytes e x =
    let over : 64 < 0 = exceeds_overflows 64 (front []) (subst (λ (l : List ℕ). RequestExceeds 64 (front l)) e x) (print_request a_head) a_head [] a_head_reads in
    omega (arith, over)

-- ---- two kinds

swap : (bytes : List ℕ) (s t : Stop) → Agree bytes s t → Agree bytes t s
swap bytes s t (inl e) = inl (sym e)
swap bytes s t (inr (inl x)) = inr (inr x)
swap bytes s t (inr (inr x)) = inr (inl x)

same : (bytes : List ℕ) (s t u : Stop) → s ≡ u → t ≡ u → Agree bytes s t
same bytes s t u e f = inl (e ∙ sym f)

some_same : (s t : Stop) → Some s ≡ Some t → s ≡ t
some_same s t e = cc

two_heads : (bytes : List ℕ) (s t : Stop) → ByHead bytes s → ByHead bytes t → s ≡ t
two_heads bytes s t x y =
    let one = request_unique bytes x.head y.head x.rest y.rest x.begins.reads y.begins.reads in
    some_same s t (sym x.stops ∙ ap (λ (h : RequestHead). verdict h x.rest) one.0 ∙ ap (λ (r : List ℕ). verdict y.head r) one.1 ∙ y.stops)

other_of : (u : Stop) (a b : Type 0) → ((u ≡ Bad 431) × a) ⊎ ((u ≡ Truncated) × b) → (u ≡ Truncated) ⊎ (u ≡ Bad 431)
other_of u a b (inl z) = inr z.0
other_of u a b (inr z) = inl z.0

hopeless_open : (bytes : List ℕ) (s t : Stop) → Hopeless bytes s → (((more : List ℕ) × (h : RequestHead) × ReadsRequest (front bytes ++ more) h []) ⊎ EndsInTarget (front bytes)) → ((t ≡ Truncated) ⊎ (t ≡ Bad 431)) → Agree bytes s t
hopeless_open bytes s t x (inl y) w = absurd (x.never y.0 y.1 [] y.2)
hopeless_open bytes s t x (inr y) w = inr (inl (inr (x.never, y, x.is, w)))

many_open : (bytes : List ℕ) (s t : Stop) → Many bytes s → ((t ≡ Truncated) ⊎ (t ≡ Bad 431)) → Agree bytes s t
many_open bytes s t x (inl e) = inr (inr (inl (x.exceeds, x.is, inr e)))
many_open bytes s t x (inr e) = same bytes s t (Bad 431) x.is e

two_open : (bytes : List ℕ) (s t : Stop) → ((s ≡ Bad 431) × (16384 ≤ length bytes)) ⊎ ((s ≡ Truncated) × (length bytes < 16384)) → ((t ≡ Bad 431) × (16384 ≤ length bytes)) ⊎ ((t ≡ Truncated) × (length bytes < 16384)) → Agree bytes s t
two_open bytes s t (inl x) (inl y) = same bytes s t (Bad 431) x.0 y.0
two_open bytes s t (inl x) (inr y) = absurd (omega (arith, x.1, y.1))
two_open bytes s t (inr x) (inl y) = absurd (omega (arith, x.1, y.1))
two_open bytes s t (inr x) (inr y) = same bytes s t Truncated x.0 y.0

no_other : (bytes : List ℕ) (h : RequestHead) (rest : List ℕ) (t : Stop) → BeginsWith bytes h rest → Kind bytes t → (ByHead bytes t → ⊥) → ⊥
no_other bytes h rest t b (by_head y) not_so = not_so y
no_other bytes h rest t b (at_end y) not_so = no_head_end bytes h rest b y.none
no_other bytes h rest t b (hopeless y) not_so = no_head_never bytes h rest b y.never
no_other bytes h rest t b (many y) not_so = no_head_many bytes h rest b y.exceeds
no_other bytes h rest t b (open_head y) not_so = no_head_none bytes h rest b y.unfinished.none

agree : (bytes : List ℕ) (s t : Stop) → Kind bytes s → Kind bytes t → Agree bytes s t
agree bytes s t (by_head x) (by_head y) = inl (two_heads bytes s t x y)
agree bytes s t (by_head x) (at_end y) = absurd (no_head_end bytes x.head x.rest x.begins y.none)
agree bytes s t (by_head x) (hopeless y) = absurd (no_head_never bytes x.head x.rest x.begins y.never)
agree bytes s t (by_head x) (many y) = absurd (no_head_many bytes x.head x.rest x.begins y.exceeds)
agree bytes s t (by_head x) (open_head y) = absurd (no_head_none bytes x.head x.rest x.begins y.unfinished.none)
agree bytes s t (at_end x) (by_head y) = absurd (no_head_end bytes y.head y.rest y.begins x.none)
agree bytes s t (at_end x) (at_end y) = same bytes s t End x.is y.is
agree bytes s t (at_end x) (hopeless y) = absurd (end_never bytes x.none y.never)
agree bytes s t (at_end x) (many y) = absurd (end_many bytes x.none y.exceeds)
agree bytes s t (at_end x) (open_head y) = absurd (let none = ap length x.none in omega (arith, none, y.some))
agree bytes s t (hopeless x) (by_head y) = absurd (no_head_never bytes y.head y.rest y.begins x.never)
agree bytes s t (hopeless x) (at_end y) = absurd (end_never bytes y.none x.never)
agree bytes s t (hopeless x) (hopeless y) = same bytes s t (Bad 400) x.is y.is
agree bytes s t (hopeless x) (many y) = inr (inl (inl (y.exceeds, y.is, inl x.is)))
agree bytes s t (hopeless x) (open_head y) = hopeless_open bytes s t x y.unfinished.may_become (other_of t _ _ y.which)
agree bytes s t (many x) (by_head y) = absurd (no_head_many bytes y.head y.rest y.begins x.exceeds)
agree bytes s t (many x) (at_end y) = absurd (end_many bytes y.none x.exceeds)
agree bytes s t (many x) (hopeless y) = inr (inr (inl (x.exceeds, x.is, inl y.is)))
agree bytes s t (many x) (many y) = same bytes s t (Bad 431) x.is y.is
agree bytes s t (many x) (open_head y) = many_open bytes s t x (other_of t _ _ y.which)
agree bytes s t (open_head x) (by_head y) = absurd (no_head_none bytes y.head y.rest y.begins x.unfinished.none)
agree bytes s t (open_head x) (at_end y) = absurd (let none = ap length y.none in omega (arith, none, x.some))
agree bytes s t (open_head x) (hopeless y) = swap bytes t s (hopeless_open bytes t s y x.unfinished.may_become (other_of s _ _ x.which))
agree bytes s t (open_head x) (many y) = swap bytes t s (many_open bytes t s y (other_of s _ _ x.which))
agree bytes s t (open_head x) (open_head y) = two_open bytes s t x.which y.which

-- two stops of the same bytes
pub stops_agree : (bytes : List ℕ) (s t : Stop) → StopsAs bytes s → StopsAs bytes t → Agree bytes s t
stops_agree bytes s t x y = agree bytes s t (kind_of bytes s x) (kind_of bytes t y)

-- a message, and a stop
pub message_or_stop : (bytes rest : List ℕ) (m : Message) (t : Stop) → IsNext bytes m rest → StopsAs bytes t → ⊥
message_or_stop bytes rest m t is x = no_other bytes is.head (m.body ++ rest) t is.begins (kind_of bytes t x) (λ y. no_stop y)
  where
    no_stop : ByHead bytes t → ⊥
    no_stop y =
        let one = request_unique bytes is.head y.head (m.body ++ rest) y.rest is.begins.reads y.begins.reads in
        let count = length-append m.body rest in
        let none : verdict is.head (m.body ++ rest) ≡ None = whole_verdict (body_length is.head) (is_coded is.head) (length (m.body ++ rest)) (length m.body) is.said is.plain is.bounded (omega (arith, count)) in
        let clash : None ≡ Some t = sym none ∙ ap (λ (h : RequestHead). verdict h (m.body ++ rest)) one.0 ∙ ap (λ (r : List ℕ). verdict y.head r) one.1 ∙ y.stops in
        cc

-- two messages
pub messages_same : (bytes r q : List ℕ) (m n : Message) → IsNext bytes m r → IsNext bytes n q → (m ≡ n) × (r ≡ q)
messages_same bytes r q m n x y =
    let one = request_unique bytes x.head y.head (m.body ++ r) (n.body ++ q) x.begins.reads y.begins.reads in
    let size : Some (length m.body) ≡ Some (length n.body) = sym x.said ∙ ap body_length one.0 ∙ y.said in
    let lengths : length m.body ≡ length n.body = cc in
    let bodies : m.body ≡ n.body = sym (take_at m.body r (length m.body) refl) ∙ ap (take (length m.body)) one.1 ∙ take_at n.body q (length m.body) (sym lengths) in
    let rests : r ≡ q = append_cancel_left n.body r q (ap (λ (b : List ℕ). b ++ r) (sym bodies) ∙ one.1) in
    let methods : m.method ≡ n.method = x.method ∙ ap (λ (h : RequestHead). method_of h.method) one.0 ∙ sym y.method in
    let targets : m.target ≡ n.target = x.target ∙ ap (λ (h : RequestHead). h.target) one.0 ∙ sym y.target in
    let lasts : m.last ≡ n.last = x.ends ∙ ap is_last one.0 ∙ sym y.ends in
    (λ k. record { method = methods k; target = targets k; body = bodies k; last = lasts k }, rests)

-- the messages of a stream, and how it stops
pub streams_agree : (bytes : List ℕ) (ms ns : List Message) (s t : Stop) → Messages bytes ms s → Messages bytes ns t → (ms ≡ ns) × AgreeAfter bytes ms s t
streams_agree bytes [] [] s t x y = (refl, (bytes, refl, stops_agree bytes s t (subst (λ (l : List ℕ). StopsAs l s) (sym x.1) x.2) (subst (λ (l : List ℕ). StopsAs l t) (sym y.1) y.2)))
streams_agree bytes [] (n ∷ ns) s t x y = absurd (message_or_stop bytes y.1.0 n s y.1.1 (subst (λ (l : List ℕ). StopsAs l s) (sym x.1) x.2))
streams_agree bytes (m ∷ ms) [] s t x y = absurd (message_or_stop bytes x.1.0 m t x.1.1 (subst (λ (l : List ℕ). StopsAs l t) (sym y.1) y.2))
streams_agree bytes (m ∷ ms) (n ∷ ns) s t x y =
    let one = messages_same bytes x.1.0 y.1.0 m n x.1.1 y.1.1 in
    let there : Messages x.1.0 ns t = subst (λ (l : List ℕ). Messages l ns t) (sym one.1) (y.0, y.1.2, y.2) in
    let rest = streams_agree x.1.0 ms ns s t (x.0, x.1.2, x.2) there in
    ((λ k. one.0 k ∷ rest.0 k), (rest.1.0, (x.1.0, x.1.1, rest.1.1), rest.1.2))
