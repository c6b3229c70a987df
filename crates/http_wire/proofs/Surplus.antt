-- How few bytes are held after a message: no head had stood in them before the last were taken.
use Rattle.std.proofs.Common.{◌≡◌, ℕ, ◌+◌, ◌-◌, ◌<◌, ◌≤◌, ◌⊎◌, true, max, min, List, ◌++◌, length, length-append, length-take, length-drop, take, drop, sym, ap, ◌∙◌, subst, arith, inl, inr, get_or-take, take-append-drop}
use Rattle.std.proofs.Math.Seq.{take-append-add, take_all}
use Rattle.httparse.specs.Grammar.{print_request, ReadsRequest, HasNoRequest}
use Rattle.http_wire.specs.Answers.{IsPartOfTake}
use Rattle.http_wire.specs.Lines.{is_line_byte, IsBlankUpTo, HasNoLineEnd, Extends}
use Rattle.http_wire.specs.Looks.{HadNoHead}
use Rattle.http_wire.specs.Outlines.{IsOutline}
use Rattle.http_wire.specs.declared.outline.Outline.{Outline}
use Rattle.http_wire.proofs.NoHeadYet.{head_within, still_none}

-- BYTES WITHOUT A HEAD

-- none stands in them now
pub none_now : (old held : List ℕ) → held ≡ old → HasNoRequest old → HadNoHead held
none_now old held e none = record { seen = length held; last = omega arith; none = subst HasNoRequest (sym (take_all (length held) held (omega arith) ∙ e)) none }

extends_seen : (old held : List ℕ) (seen : ℕ) → Extends old held → length old ≤ seen → Extends old (take seen held)
extends_seen old held seen more from =
    let n = seen - length old in
    let all : length old + n ≡ seen = omega (arith, from) in
    (take n more.0, ap (take seen) more.1 ∙ ap (λ (k : ℕ). take k (old ++ more.0)) (sym all) ∙ take-append-add old more.0 n)

blank_seen : (blank seen : ℕ) (held : List ℕ) → IsBlankUpTo blank held → IsBlankUpTo (min blank seen) (take seen held)
blank_seen blank seen held is k below = subst (λ (b : ℕ). is_line_byte b ≡ true) (sym (get_or-take seen held k 0 (omega (arith, below)))) (is k (omega (arith, below)))

quiet_seen : (blank from seen : ℕ) (held : List ℕ) → HasNoLineEnd (max blank from) seen held → HasNoLineEnd (max (min blank seen) from) (length (take seen held)) (take seen held)
quiet_seen blank from seen held quiet k above below e =
    let count = length-take seen held in
    quiet k (omega (arith, above, below, count)) (omega (arith, below, count)) (sym (get_or-take seen held k 0 (omega (arith, below, count))) ∙ e)

-- none stood in those of them that were there before the last piece
pub none_before : (old held : List ℕ) (blank seen : ℕ) → HasNoRequest old → Extends old held → length old ≤ seen → length held ≤ seen + 4096 → IsBlankUpTo blank held → HasNoLineEnd (max blank (length old)) seen held → HadNoHead held
none_before old held blank seen none more from few is quiet =
    record {
      seen = seen;
      last = few;
      none = still_none old (take seen held) (min blank seen) none (extends_seen old held seen more from) (blank_seen blank seen held is) (quiet_seen blank (length old) seen held quiet);
    }

-- AFTER THE HEAD, AND AFTER THE MESSAGE

-- the head ends in the bytes that were taken last
head_is_late : (held : List ℕ) (o : Outline) → IsOutline held o → HadNoHead held → length held < o.start + 4096
head_is_late held o is had = elim_place (places o.start had.seen)
  where
    places : (n m : ℕ) → (n ≤ m) ⊎ (m < n)
    places n m = grind arith

    elim_place : (o.start ≤ had.seen) ⊎ (had.seen < o.start) → length held < o.start + 4096
    elim_place (inr late) = omega (arith, late, had.last)
    elim_place (inl early) =
        let count : length held ≡ length (print_request is.head) + length (drop o.start held) = ap length is.begins.reads.1 ∙ length-append (print_request is.head) (drop o.start held) in
        let short : length (print_request is.head) ≤ length (take had.seen held) = omega (arith, count, early, is.fits, length-drop o.start held, length-take had.seen held) in
        let there = head_within (take had.seen held) (drop had.seen held) is.head (drop o.start held) (subst (λ (l : List ℕ). ReadsRequest l is.head (drop o.start held)) (sym (take-append-drop had.seen held)) is.begins.reads) short in
        absurd (had.none is.head there.0 there.1)

-- the rest after the message is a part of one take
pub part_of_take : (old held all rest : List ℕ) (o : Outline) → IsOutline held o → (held ≡ old) ⊎ HadNoHead held → length all ≤ max (length held) (o.start + o.size + 4095) → rest ≡ drop o.size (drop o.start all) → IsPartOfTake old → IsPartOfTake rest
part_of_take old held all rest o is late few e part =
    let count : length rest ≡ length all - o.start - o.size = ap length e ∙ length-drop o.size (drop o.start all) ∙ ap (λ (n : ℕ). n - o.size) (length-drop o.start all) in
    elim_late late count
  where
    elim_late : (held ≡ old) ⊎ HadNoHead held → length rest ≡ length all - o.start - o.size → length rest < 4096
    elim_late (inl same) count = omega (arith, count, few, part, ap length same)
    elim_late (inr had) count = omega (arith, count, few, head_is_late held o is had)
