-- A head at the front of the bytes that are held, and where its message ends.
use Rattle.std.proofs.Common.{◌≡◌, ℕ, ◌+◌, ◌<◌, ◌≤◌, ◌⊎◌, inl, inr, List, [], ◌∷◌, ◌++◌, length, length-append, length-take, length-take-le, length-drop, replicate, ◌-◌, get_or, map, take, drop, Ok, Err, Some, refl, sym, ◌∙◌, ap, subst, arith, append_assoc, append-nil}
use Rattle.std.proofs.lemmas.List.{take-append-drop, drop-append-le, take_all, length-replicate}
use Rattle.std.proofs.Math.Seq.{take-append-add, get_or-append_seam}
use Rattle.std.specs.List.{list_any}
use Rattle.httparse.specs.Grammar.{RequestHead, print_request, ReadsRequest}
use Rattle.httparse.specs.Spans.{header_bytes, IsRequestAt, IsRequestWithin}
use Rattle.httparse.specs.declared.spans.HeaderSpan.{HeaderSpan}
use Rattle.httparse.specs.declared.spans.RequestSpans.{RequestSpans}
use Rattle.http_wire.specs.Fields.{says_close}
use Rattle.http_wire.specs.Lines.{HasNoLineEnd}
use Rattle.http_wire.specs.Looks.{MayHaveHead, HoldsHead}
use Rattle.http_wire.specs.Messages.{front, method_of, is_last, fields_of, BeginsWith, IsNext, HoldsMessage, StopsAs}
use Rattle.http_wire.specs.Outlines.{Judges, IsOutline}
use Rattle.http_wire.specs.declared.message.Message.{Message}
use Rattle.http_wire.specs.declared.message.Stop.{Stop}
use Rattle.http_wire.specs.declared.message.Stop.TheVariants.{Bad}
use Rattle.http_wire.specs.declared.outline.Outline.{Outline}
use Rattle.http_wire.proofs.NoHeadYet.{head_ends, head_within}
use Rattle.http_wire.proofs.HeadAtFront.{begins_of, begins_more, same_fields, outlined, refused, no_head_none, no_message_short}
use Rattle.http_wire.proofs.OneReading.{message_or_stop}

-- NONE EVER

-- bytes that stop, whatever follows, never hold a message
pub never_a_message : (held : List ℕ) (stop : Stop) → ((more : List ℕ) → StopsAs (held ++ more) stop) → (more : List ℕ) → HoldsMessage (held ++ more) → ⊥
never_a_message held stop each more holds = message_or_stop (held ++ more) holds.1 holds.0 stop holds.2 (each more)

-- nor do those whose fields are refused
pub never_refused : (held first : List ℕ) (headers some : List HeaderSpan) (spans : RequestSpans) (h : RequestHead) (status : ℕ) → length headers ≡ 64 → IsRequestAt (front held) headers spans h → IsRequestWithin (front held) headers spans
    → first ≡ front held → some ≡ take spans.headers headers → Judges (map (header_bytes first) some) (Err status) → (more : List ℕ) → HoldsMessage (held ++ more) → ⊥
never_refused held first headers some spans h status room is within e f judged =
    let bad = refused held h _ _ status (begins_of held headers spans h room is within) (same_fields first held some headers spans.headers _ e f is.fields) judged in
    never_a_message held (Bad status) bad

-- NONE YET

-- a head that may still come isn't there
pub none_held : (held : List ℕ) → MayHaveHead held → HoldsHead held → ⊥
none_held held may holds = no_head_none held holds.0 holds.1 holds.2 may.unfinished.none

-- without a line end in the new bytes no head is there that wasn't
pub none_new : (held : List ℕ) (seen from : ℕ) → from ≤ seen → HasNoLineEnd from (length held) held → (HoldsHead (take seen held) → ⊥) → HoldsHead held → ⊥
none_new held seen from before quiet none holds = elim_place (places (length (print_request h)))
  where
    h : RequestHead
    h = holds.0

    rest : List ℕ
    rest = holds.1

    count : length held ≡ length (print_request h) + length rest
    count = ap length holds.2.reads.1 ∙ length-append (print_request h) rest

    places : (n : ℕ) → (n ≤ seen) ⊎ (seen < n)
    places n = grind arith

    elim_place : (length (print_request h) ≤ seen) ⊎ (seen < length (print_request h)) → ⊥
    elim_place (inl short) =
        let here = head_within (take seen held) (drop seen held) h rest (subst (λ (l : List ℕ). ReadsRequest l h rest) (sym (take-append-drop seen held)) holds.2.reads) (omega (arith, short, count, length-take seen held)) in
        none (h, here.0, record { reads = here.1; short = holds.2.short; few = holds.2.few })
    elim_place (inr long) =
        let ends = head_ends h in
        let size : length (print_request h) ≡ length ends.0 + 1 = ap length ends.1 ∙ length-append ends.0 (10 ∷ []) in
        let whole : held ≡ ends.0 ++ 10 ∷ rest = holds.2.reads.1 ∙ ap (λ (l : List ℕ). l ++ rest) ends.1 ∙ append_assoc ends.0 (10 ∷ []) rest in
        quiet (length ends.0) (omega (arith, before, long, size)) (omega (arith, count, size)) (ap (λ (l : List ℕ). get_or l (length ends.0) 0) whole ∙ get_or-append_seam ends.0 10 rest 0)

-- what a message takes of a head, and of the size of its body
abbrev pub outline_of_head : RequestHead → ℕ → ℕ → Outline
outline_of_head h start size = record { method = method_of h.method; target = h.target; last = is_last h; start = start; size = size }

pub held_outline : (held first : List ℕ) (headers some : List HeaderSpan) (spans : RequestSpans) (h : RequestHead) (size : ℕ) → length headers ≡ 64 → IsRequestAt (front held) headers spans h → IsRequestWithin (front held) headers spans
    → first ≡ front held → some ≡ take spans.headers headers → Judges (map (header_bytes first) some) (Ok size) → spans.len ≤ length held → IsOutline held (outline_of_head h spans.len size)
held_outline held first headers some spans h size room is within e f judged fits =
    outlined held (outline_of_head h spans.len size) h _ h.method h.target h.minor (list_any says_close (fields_of h)) (begins_of held headers spans h room is within) fits
    (same_fields first held some headers spans.headers _ e f is.fields) judged refl refl refl refl refl refl
    (ap (list_any says_close) (sym (same_fields first held some headers spans.headers _ e f is.fields)))

-- the body is not held whole
pub none_whole : (held : List ℕ) (o : Outline) → IsOutline held o → (more : List ℕ) → length (held ++ more) < o.start + o.size → HoldsMessage (held ++ more) → ⊥
none_whole held o is more short holds = no_message_short held held (held ++ more) o refl is (more, refl) short holds

-- ONE

-- the head is as long as it is printed
start_of : (held : List ℕ) (o : Outline) (is : IsOutline held o) → o.start ≡ length (print_request is.head)
start_of held o is =
    let count : length held ≡ length (print_request is.head) + length (drop o.start held) = ap length is.begins.reads.1 ∙ length-append (print_request is.head) (drop o.start held) in
    omega (arith, count, length-drop o.start held, is.fits)

-- the head and the body are a message, with nothing behind it
pub whole : (held : List ℕ) (o : Outline) → IsOutline held o → o.start + o.size ≤ length held → (message : Message) × IsNext (take (o.start + o.size) held) message []
whole held o is fits =
    let body : List ℕ = take o.size (drop o.start held) in
    let count : length body ≡ o.size = length-take-le o.size (drop o.start held) (omega (arith, length-drop o.start held, fits)) in
    let cut : take (o.start + o.size) held ≡ print_request is.head ++ body =
    ap (λ (n : ℕ). take (n + o.size) held) (start_of held o is) ∙ ap (take (length (print_request is.head) + o.size)) is.begins.reads.1 ∙ take-append-add (print_request is.head) (drop o.start held) o.size in (
      record { method = o.method; target = o.target; body = body; last = o.last },
      record {
        head = is.head;
        begins = record { reads = (is.begins.reads.0, cut ∙ ap (λ (l : List ℕ). print_request is.head ++ l) (sym (append-nil body))); short = is.begins.short; few = is.begins.few };
        said = is.said ∙ ap (λ (n : ℕ). Some n) (sym count);
        plain = is.plain;
        bounded = omega (arith, count, is.bounded);
        method = is.method;
        target = is.target;
        ends = is.ends;
      },
    )

-- the body that is needed can be of any bytes
outline_more : (held more : List ℕ) (o : Outline) → IsOutline held o → IsOutline (held ++ more) o
outline_more held more o is =
    record {
      head = is.head;
      begins = subst (BeginsWith (held ++ more) is.head) (sym (drop-append-le o.start held more is.fits)) (begins_more held more is.head (drop o.start held) is.begins);
      fits = omega (arith, length-append held more, is.fits);
      said = is.said;
      plain = is.plain;
      bounded = is.bounded;
      method = is.method;
      target = is.target;
      ends = is.ends;
    }

pub can_be_whole : (held : List ℕ) (o : Outline) → IsOutline held o → length held < o.start + o.size → (more : List ℕ) × (length (held ++ more) ≡ o.start + o.size) × HoldsMessage (held ++ more)
can_be_whole held o is short =
    let n : ℕ = o.start + o.size - length held in
    let more : List ℕ = replicate n 0 in
    let count : length (held ++ more) ≡ o.start + o.size = omega (arith, length-append held more, length-replicate {A = ℕ} n 0, short) in
    let one = whole (held ++ more) o (outline_more held more o is) (omega (arith, count)) in
    let all : take (o.start + o.size) (held ++ more) ≡ held ++ more = take_all (o.start + o.size) (held ++ more) (omega (arith, count)) in (
      more,
      count,
      (one.0, [], subst (λ (l : List ℕ). IsNext l one.0 []) all one.1),
    )
