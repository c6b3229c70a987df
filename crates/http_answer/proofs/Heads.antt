-- A head that was found at the front of the bytes.
use Rattle.std.proofs.Common.{◌≡◌, ℕ, ◌≤◌, List, ◌++◌, length, length-take, map, take, drop, Result, sym, ◌∙◌, ap, arith, append_assoc}
use Rattle.std.proofs.lemmas.List.{take-append-drop, length-map}
use Rattle.std.proofs.Math.Seq.{drop-append_seam}
use Rattle.httparse.specs.Grammar.{ResponseHead, print_response, ReadsResponse}
use Rattle.httparse.specs.Spans.{header_bytes, name_and_value, IsResponseAt, IsResponseWithin}
use Rattle.httparse.specs.declared.spans.HeaderSpan.{HeaderSpan}
use Rattle.httparse.specs.declared.spans.ResponseSpans.{ResponseSpans}
use Rattle.http_answer.specs.declared.fields.Framing.{Framing}
use Rattle.http_answer.specs.declared.fault.Misframed.{Misframed}
use Rattle.http_answer.specs.Fields.{field_framing}
use Rattle.http_answer.specs.Heads.{front, framing, BeginsWith}

dropped : (p x all : List ℕ) (n : ℕ) → all ≡ p ++ x → n ≡ length p → drop n all ≡ x
dropped p x all n e l = rw (e, l) (drop-append_seam p x)

-- what the front says of all the bytes
head_of_front : (bytes : List ℕ) (h : ResponseHead) (r : List ℕ) (n : ℕ) → ReadsResponse (front bytes) h r → n ≡ length (print_response h) → ReadsResponse bytes h (drop n bytes)
head_of_front bytes h r n reads l =
    let whole : bytes ≡ print_response h ++ (r ++ drop 16384 bytes) =
    sym (take-append-drop 16384 bytes) ∙ ap (λ (xs : List ℕ). xs ++ drop 16384 bytes) reads.1 ∙ append_assoc (print_response h) r (drop 16384 bytes) in
    (reads.0, whole ∙ ap (λ (xs : List ℕ). print_response h ++ xs) (sym (dropped (print_response h) (r ++ drop 16384 bytes) bytes n whole l)))

pub begins : (bytes : List ℕ) (headers : List HeaderSpan) (spans : ResponseSpans) (h : ResponseHead) → length headers ≡ 64 → IsResponseAt (front bytes) headers spans h → IsResponseWithin (front bytes) headers spans
    → BeginsWith bytes h (drop spans.len bytes)
begins bytes headers spans h room is within =
    let count : length (take spans.headers headers) ≡ length h.fields =
    sym (length-map (take spans.headers headers) (header_bytes (front bytes))) ∙ ap length is.fields ∙ length-map h.fields name_and_value in
    let upto = length-take spans.headers headers in
    let all = length-take 16384 bytes in
    let fits = within.section.len_fits in
    let len = is.len in
    record {
      reads = head_of_front bytes h (drop spans.len (front bytes)) spans.len is.reads is.len;
      short = omega (arith, all, fits, len);
      few = omega (arith, count, upto, room);
    }

-- the framing of the fields that were looked at is the head's
pub framing_is : (first bytes : List ℕ) (some headers : List HeaderSpan) (spans : ResponseSpans) (h : ResponseHead) (told : Result Framing Misframed) → first ≡ front bytes → some ≡ take spans.headers headers → IsResponseAt (front bytes) headers spans h
    → told ≡ field_framing spans.version (map (header_bytes first) some) → framing h ≡ told
framing_is first bytes some headers spans h told e f is t =
    let fields = ap (λ (l : List ℕ). map (header_bytes l) some) e ∙ ap (map (header_bytes (front bytes))) f ∙ is.fields in
    sym (t ∙ ap (field_framing spans.version) fields ∙ ap (λ (minor : ℕ). field_framing minor (map name_and_value h.fields)) is.version)

pub fits : (bytes : List ℕ) (headers : List HeaderSpan) (spans : ResponseSpans) → IsResponseWithin (front bytes) headers spans → spans.len ≤ length bytes
fits bytes headers spans within =
    let all = length-take 16384 bytes in let section = within.section.len_fits in omega (arith, all, section)
