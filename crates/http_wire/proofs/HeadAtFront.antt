-- A head at the front of the bytes, and what its fields say.
use Rattle.std.proofs.Common.{◌≡◌, ℕ, ◌+◌, ◌<◌, ◌≤◌, Bool, List, ◌++◌, length, length-append, length-take, map, take, drop, Option, Some, None, Ok, Err, sym, ◌∙◌, ap, subst, arith, append_assoc, inl, inr, ◌==◌, ◌||◌, IfSome, length-drop, length-take-le, append-nil}
use Rattle.std.proofs.lemmas.List.{take-append-drop, length-map, drop-append-le, take_all}
use Rattle.std.proofs.Math.Seq.{drop-append_seam}
use Rattle.httparse.specs.Grammar.{RequestHead, print_request, ReadsRequest, HasNoRequest}
use Rattle.httparse.specs.Spans.{header_bytes, name_and_value, IsRequestAt, IsRequestWithin}
use Rattle.httparse.specs.declared.spans.HeaderSpan.{HeaderSpan}
use Rattle.httparse.specs.declared.spans.RequestSpans.{RequestSpans}
use Rattle.httparse.proofs.GrammarLemmas.{ReadsRequest-append, request_unique}
use Rattle.std.specs.List.{list_any}
use Rattle.http_wire.specs.Fields.{says_close}
use Rattle.http_wire.specs.declared.outline.Outline.{Outline}
use Rattle.http_wire.specs.Messages.{front, fields_of, method_of, body_length, BeginsWith, IsBad, IsNext, IsTruncated, HoldsMessage}
use Rattle.http_wire.specs.Lines.{Extends}
use Rattle.http_wire.specs.Outlines.{Judges, IsOutline}
use Rattle.http_wire.specs.Answers.{TakesMessage}
use Rattle.std.specs.Io.KnownBytes.{Keeps, IsAtEnd, prepend_known}
use Rattle.http_wire.specs.declared.message.Message.{Message}
use Rattle.http_wire.proofs.FrontGrows.{front_more}

-- a head within the limits stands in the front alone
pub front_reads : (bytes : List ℕ) (h : RequestHead) (rest : List ℕ) → BeginsWith bytes h rest → (r : List ℕ) × ReadsRequest (front bytes) h r
front_reads bytes h rest b =
    let e = front_more 16384 (print_request h) rest in
    (e.0, (b.reads.0, ap front b.reads.1 ∙ e.1 ∙ ap (λ (l : List ℕ). l ++ e.0) (take_all 16384 (print_request h) b.short)))

-- what holds a head isn't without one
pub no_head_none : (bytes : List ℕ) (h : RequestHead) (rest : List ℕ) → BeginsWith bytes h rest → HasNoRequest (front bytes) → ⊥
no_head_none bytes h rest b none = let r = front_reads bytes h rest b in none h r.0 r.1

pub begins_more : (held more : List ℕ) (h : RequestHead) (rest : List ℕ) → BeginsWith held h rest → BeginsWith (held ++ more) h (rest ++ more)
begins_more held more h rest b = record { reads = ReadsRequest-append held h rest more b.reads; short = b.short; few = b.few }

dropped : (p x all : List ℕ) (n : ℕ) → all ≡ p ++ x → n ≡ length p → drop n all ≡ x
dropped p x all n e l = rw (e, l) (drop-append_seam p x)

-- what the front says of all the bytes
pub head_of_front : (held : List ℕ) (h : RequestHead) (r : List ℕ) (n : ℕ) → ReadsRequest (front held) h r → n ≡ length (print_request h) → ReadsRequest held h (drop n held)
head_of_front held h r n reads l =
    let whole : held ≡ print_request h ++ (r ++ drop 16384 held) =
    sym (take-append-drop 16384 held) ∙ ap (λ (xs : List ℕ). xs ++ drop 16384 held) reads.1 ∙ append_assoc (print_request h) r (drop 16384 held) in
    (reads.0, whole ∙ ap (λ (xs : List ℕ). print_request h ++ xs) (sym (dropped (print_request h) (r ++ drop 16384 held) held n whole l)))

pub begins_of : (held : List ℕ) (headers : List HeaderSpan) (spans : RequestSpans) (h : RequestHead) → length headers ≡ 64 → IsRequestAt (front held) headers spans h → IsRequestWithin (front held) headers spans
    → BeginsWith held h (drop spans.len held)
begins_of held headers spans h room is within =
    let count : length (take spans.headers headers) ≡ length h.fields =
    sym (length-map (take spans.headers headers) (header_bytes (front held))) ∙ ap length is.fields ∙ length-map h.fields name_and_value in
    let upto = length-take spans.headers headers in
    let all = length-take 16384 held in
    let fits = within.section.len_fits in
    let len = is.len in
    record {
      reads = head_of_front held h (drop spans.len (front held)) spans.len is.reads is.len;
      short = omega (arith, all, fits, len);
      few = omega (arith, count, upto, room);
    }

-- what the fields say of the body is what the head says
pub refused : (held : List ℕ) (h : RequestHead) (rest : List ℕ) (fields : List (List ℕ × List ℕ)) (status : ℕ) → BeginsWith held h rest → fields ≡ fields_of h → Judges fields (Err status)
    → (more : List ℕ) → IsBad (held ++ more) status
refused held h rest fields status b e judged more = refused_here (held ++ more) h (rest ++ more) status (begins_more held more h rest b) (subst (λ (l : List (List ℕ × List ℕ)). Judges l (Err status)) e judged)
  where
    refused_here : (bytes : List ℕ) (k : RequestHead) (r : List ℕ) (s : ℕ) → BeginsWith bytes k r → Judges (fields_of k) (Err s) → IsBad bytes s
    refused_here bytes k r s begins (inl x) = inl (x.0, inr (k, r, begins, x.1))
    refused_here bytes k r s begins (inr (inl x)) = inr (inr (inl (x.0, (k, r, begins, x.1, x.2))))
    refused_here bytes k r s begins (inr (inr x)) = inr (inr (inr (x.0, (k, r, x.1.0, begins, x.1.1, x.1.2, x.1.3))))

-- the fields that were looked at are the head's
pub same_fields : (first held : List ℕ) (some headers : List HeaderSpan) (n : ℕ) (fields : List (List ℕ × List ℕ)) → first ≡ front held → some ≡ take n headers → map (header_bytes (front held)) (take n headers) ≡ fields
    → map (header_bytes first) some ≡ fields
same_fields first held some headers n fields e f g = ap (λ (l : List ℕ). map (header_bytes l) some) e ∙ ap (map (header_bytes (front held))) f ∙ g

pub outlined : (held : List ℕ) (o : Outline) (h : RequestHead) (fields : List (List ℕ × List ℕ)) (method target : List ℕ) (version : ℕ) (closes : Bool) → BeginsWith held h (drop o.start held) → o.start ≤ length held → fields ≡ fields_of h → Judges fields (Ok o.size)
    → o.method ≡ method_of method → method ≡ h.method → o.target ≡ target → target ≡ h.target
    → o.last ≡ ((version == 0) || closes) → version ≡ h.minor → closes ≡ list_any says_close fields → IsOutline held o
outlined held o h fields method target version closes begins fits e judged m1 m2 t1 t2 l1 l2 l3 =
    let judged_here : Judges (fields_of h) (Ok o.size) = subst (λ (l : List (List ℕ × List ℕ)). Judges l (Ok o.size)) e judged in
    record {
      head = h;
      begins = begins;
      fits = fits;
      said = judged_here.0;
      plain = judged_here.1;
      bounded = judged_here.2;
      method = m1 ∙ ap method_of m2;
      target = t1 ∙ t2;
      ends = l1 ∙ ap (λ (v : ℕ). (v == 0) || closes) l2 ∙ ap (λ (b : Bool). (h.minor == 0) || b) (l3 ∙ ap (list_any says_close) e);
    }

-- ---- what the stream says, from what is held

-- what the stream now says, it said before
pub said_before : (a b : Option (List ℕ)) (P : List ℕ → Type 0) → Keeps a b → IfSome b P → IfSome a P
said_before None b P k h = tt
said_before (Some x) None P k h = absurd k
said_before (Some x) (Some y) P k h = subst P k h

pub whatever_follows : (held : List ℕ) (left : Option (List ℕ)) (P : List ℕ → Type 0) → ((more : List ℕ) → P (held ++ more)) → IfSome (prepend_known held left) P
whatever_follows held None P each = tt
whatever_follows held (Some rest) P each = each rest

-- the head, with all that follows in the stream
outline_in : (held rest : List ℕ) (o : Outline) (is : IsOutline held o) → BeginsWith (held ++ rest) is.head (drop o.start (held ++ rest))
outline_in held rest o is =
    subst (λ (r : List ℕ). BeginsWith (held ++ rest) is.head r) (sym (drop-append-le o.start held rest is.fits)) (begins_more held rest is.head (drop o.start held) is.begins)

-- the stream ended within the body
pub truncated_body : (held new : List ℕ) (left after : Option (List ℕ)) (o : Outline) → IsOutline held o → Keeps (prepend_known held left) (prepend_known new after) → IsAtEnd after → length new < o.start + o.size
    → IfSome (prepend_known held left) IsTruncated
truncated_body held new None after o is k at short = tt
truncated_body held new (Some rest) None o is k at short = absurd k
truncated_body held new (Some rest) (Some none) o is k at short =
    let whole : held ++ rest ≡ new = sym k ∙ ap (λ (l : List ℕ). new ++ l) at ∙ append-nil new in
    let count : length (held ++ rest) ≡ length new = ap length whole in
    let dropped_count = length-drop o.start (held ++ rest) in
    let held_count = length-append held rest in
    inr (record {
      head = is.head;
      rest = drop o.start (held ++ rest);
      size = o.size;
      begins = outline_in held rest o is;
      said = is.said;
      plain = is.plain;
      bounded = is.bounded;
      short = omega (arith, count, dropped_count, held_count, is.fits);
    })

-- the message stands whole
pub taken_message : (held new last : List ℕ) (left after : Option (List ℕ)) (o : Outline) (m : Message) → IsOutline held o → Keeps (prepend_known held left) (prepend_known new after) → o.start + o.size ≤ length new
    → m.body ≡ take o.size (drop o.start new) → last ≡ drop o.size (drop o.start new) → m.method ≡ o.method → m.target ≡ o.target → m.last ≡ o.last
    → TakesMessage (prepend_known held left) m (prepend_known last after)
taken_message held new last None after o m is k fits body rest e f g = tt
taken_message held new last (Some more) None o m is k fits body rest e f g = absurd k
taken_message held new last (Some more) (Some less) o m is k fits body rest e f g =
    let count = length-drop o.start new in
    let size : length m.body ≡ o.size = ap length body ∙ length-take-le o.size (drop o.start new) (omega (arith, count)) in
    let split : drop o.start (held ++ more) ≡ m.body ++ (last ++ less) =
    ap (drop o.start) (sym k) ∙ drop-append-le o.start new less (omega arith)
    ∙ ap (λ (l : List ℕ). l ++ less) (sym (take-append-drop o.size (drop o.start new)) ∙ ap (λ (l : List ℕ). l ++ drop o.size (drop o.start new)) (sym body) ∙ ap (λ (l : List ℕ). m.body ++ l) (sym rest))
    ∙ append_assoc m.body last less in
    record {
      head = is.head;
      begins = subst (λ (r : List ℕ). BeginsWith (held ++ more) is.head r) split (outline_in held more o is);
      said = is.said ∙ ap (λ (n : ℕ). Some n) (sym size);
      plain = is.plain;
      bounded = omega (arith, size, is.bounded);
      method = e ∙ is.method;
      target = f ∙ is.target;
      ends = g ∙ is.ends;
    }

-- what is taken of a stream that stayed is taken of the stream before
pub takes_before : (a b c : Option (List ℕ)) (m : Message) → Keeps a b → TakesMessage b m c → TakesMessage a m c
takes_before None b c m k t = tt
takes_before (Some x) None c m k t = absurd k
takes_before (Some x) (Some y) None m k t = absurd t
takes_before (Some x) (Some y) (Some z) m k t = subst (λ (l : List ℕ). IsNext l m z) k t

-- an outline stays, whatever follows
pub outline_more : (held more : List ℕ) (o : Outline) → IsOutline held o → IsOutline (held ++ more) o
outline_more held more o is = record {
  head = is.head;
  begins = outline_in held more o is;
  fits = omega (arith, is.fits, length-append held more);
  said = is.said;
  plain = is.plain;
  bounded = is.bounded;
  method = is.method;
  target = is.target;
  ends = is.ends;
}

-- a message that is held whole needs no byte more
pub whole_message : (held new : List ℕ) (o : Outline) (m : Message) (rest : List ℕ) → new ≡ held → IsOutline new o → IsNext held m rest → o.start + o.size ≤ length new
whole_message held new o m rest e is next =
    let one = request_unique held is.head next.head (drop o.start held) (m.body ++ rest) (subst (λ (l : List ℕ). ReadsRequest l is.head (drop o.start l)) e is.begins.reads) next.begins.reads in
    let sizes : Some o.size ≡ Some (length m.body) = sym is.said ∙ ap body_length one.0 ∙ next.said in
    let size : o.size ≡ length m.body = cc in
    let behind : length (drop o.start held) ≡ length (m.body ++ rest) = ap length one.1 in
    omega (arith, size, behind, length-drop o.start held, length-append m.body rest, is.fits, ap length e)

-- bytes without a head hold no message
pub no_message_none : (bytes : List ℕ) → HasNoRequest bytes → HoldsMessage bytes → ⊥
no_message_none bytes none holds = none holds.2.head (holds.0.body ++ holds.1) holds.2.begins.reads

-- nor do bytes that end within the body
pub no_message_short : (held first new : List ℕ) (o : Outline) → first ≡ held → IsOutline first o → Extends held new → length new < o.start + o.size → HoldsMessage new → ⊥
no_message_short held first new o e is more short holds =
    let whole : new ≡ first ++ more.0 = more.1 ∙ ap (λ (l : List ℕ). l ++ more.0) (sym e) in
    let here : IsOutline (first ++ more.0) o = outline_more first more.0 o is in
    let fits = whole_message new (first ++ more.0) o holds.0 holds.1 (sym whole) here holds.2 in
    omega (arith, fits, short, ap (λ (l : List ℕ). length l) whole)
