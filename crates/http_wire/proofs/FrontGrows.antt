-- What holds of the bytes so far, and whatever follows.
use Rattle.std.proofs.Common.{◌≡◌, ℕ, ◌≤◌, zero, suc, List, [], ◌∷◌, ◌++◌, length, length-append, take, refl, sym, ◌∙◌, ap, subst, arith, append_assoc, append-nil, inl, inr, Option, Some, None, IfSome}
use Rattle.std.proofs.lemmas.List.{take-append-le}
use Rattle.httparse.specs.Grammar.{HasNoRequest, NeverHasRequest, MayBecomeRequest}
use Rattle.httparse.specs.Spans.{RequestExceeds}
use Rattle.std.specs.Io.KnownBytes.{IsAtEnd, prepend_known}
use Rattle.http_wire.specs.declared.message.Stop.{Stop}
use Rattle.http_wire.specs.Messages.{front, IsUnfinished, IsBad, StopsAs}
use Rattle.http_wire.specs.Looks.{Settles, SettlesStream}
use Rattle.http_wire.specs.declared.look.LookOutcome.{LookOutcome}
use Rattle.http_wire.specs.declared.look.LookOutcome.TheVariants.{Head, Stopped}
use Rattle.httparse.specs.declared.spans.HeaderSpan.{HeaderSpan}

-- the front grows with the bytes
pub front_more : (n : ℕ) (held more : List ℕ) → (grown : List ℕ) × (take n (held ++ more) ≡ take n held ++ grown)
front_more zero held more = ([], refl)
front_more (suc n) [] more = (take (suc n) more, refl)
front_more (suc n) (x ∷ held) more = let e = front_more n held more in (e.0, ap (λ (l : List ℕ). x ∷ l) e.1)

pub never_more : (a b : List ℕ) → NeverHasRequest a → NeverHasRequest (a ++ b)
never_more a b never more = subst HasNoRequest (sym (append_assoc a b more)) (never (b ++ more))

pub exceeds_more : (room : ℕ) (a b : List ℕ) → RequestExceeds room a → RequestExceeds room (a ++ b)
exceeds_more room a b e = (e.0, e.1 ++ b, ap (λ (l : List ℕ). l ++ b) e.2 ∙ append_assoc e.0 e.1 b, e.3, e.4, e.5)

pub hopeless_more : (held more : List ℕ) → NeverHasRequest (front held) → NeverHasRequest (front (held ++ more))
hopeless_more held more never =
    let e = front_more 16384 held more in
    subst NeverHasRequest (sym e.1) (never_more (front held) e.0 never)

pub many_more : (room : ℕ) (held more : List ℕ) → RequestExceeds room (front held) → RequestExceeds room (front (held ++ more))
many_more room held more many =
    let e = front_more 16384 held more in
    subst (RequestExceeds room) (sym e.1) (exceeds_more room (front held) e.0 many)

-- bytes whose front is full don't change it any more
pub full_more : (held more : List ℕ) → 16384 ≤ length held → front (held ++ more) ≡ front held
full_more held more full = take-append-le 16384 held more full

pub unfinished_more : (held more : List ℕ) → 16384 ≤ length held → IsUnfinished held → IsUnfinished (held ++ more)
unfinished_more held more full u =
    let e : front (held ++ more) ≡ front held = full_more held more full in
    record { none = subst HasNoRequest (sym e) u.none; may_become = subst MayBecomeRequest (sym e) u.may_become }

pub longer : (held more : List ℕ) → 16384 ≤ length held → 16384 ≤ length (held ++ more)
longer held more full = grind (arith, length-append {A = ℕ})

-- each verdict on the front is one on the stream

pub bad_hopeless : (first held : List ℕ) → first ≡ front held → NeverHasRequest first → (more : List ℕ) → IsBad (held ++ more) 400
bad_hopeless first held e never more = inl (refl, inl (hopeless_more held more (subst NeverHasRequest e never)))

pub bad_many : (first held : List ℕ) (room : ℕ) → first ≡ front held → room ≡ 64 → RequestExceeds room first → (more : List ℕ) → IsBad (held ++ more) 431
bad_many first held room e r many more =
    let here : RequestExceeds 64 (front held) = subst (λ (n : ℕ). RequestExceeds n (front held)) r (subst (RequestExceeds room) e many) in
    inr (inl (refl, inr (many_more 64 held more here)))

pub bad_full : (first held : List ℕ) → first ≡ front held → HasNoRequest first → MayBecomeRequest first → 16384 ≤ length held → (more : List ℕ) → IsBad (held ++ more) 431
bad_full first held e none may full more =
    let here : IsUnfinished held = record { none = subst HasNoRequest e none; may_become = subst MayBecomeRequest e may } in
    inr (inl (refl, inl (longer held more full, unfinished_more held more full here)))

-- a stream that is at its end is what is held
pub ended_at_end : (left : Option (List ℕ)) (held bytes : List ℕ) (e : Stop) → IsAtEnd left → bytes ≡ held → StopsAs bytes e → IfSome (prepend_known held left) (λ stream. StopsAs stream e)
ended_at_end None held bytes e at same ended = tt
ended_at_end (Some rest) held bytes e at same ended = subst (λ (l : List ℕ). StopsAs l e) (same ∙ sym (append-nil held) ∙ ap (λ (l : List ℕ). held ++ l) (sym at)) ended

-- what is settled whatever follows
pub settled_stream : (left : Option (List ℕ)) (held : List ℕ) (e : Stop) → ((more : List ℕ) → StopsAs (held ++ more) e) → IfSome (prepend_known held left) (λ stream. StopsAs stream e)
settled_stream None held e each = tt
settled_stream (Some rest) held e each = each rest

-- what the bytes so far settle is settled for the stream
pub settled : (first held : List ℕ) (headers : List HeaderSpan) (left : Option (List ℕ)) (found : LookOutcome) → first ≡ held → Settles first headers found → SettlesStream held headers (prepend_known held left) found
settled first held headers left found e is = settled_here held headers left found (subst (λ (l : List ℕ). Settles l headers found) e is)
  where
    settled_here : (bytes : List ℕ) (spans : List HeaderSpan) (rest : Option (List ℕ)) (f : LookOutcome) → Settles bytes spans f → SettlesStream bytes spans (prepend_known bytes rest) f
    settled_here bytes spans rest (Head s) here = here
    settled_here bytes spans rest (Stopped stop) here = settled_stream rest bytes stop here
