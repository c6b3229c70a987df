-- One chunk more.
use Rattle.std.proofs.Common.{◌≡◌, ℕ, ◌+◌, ◌-◌, ◌≤◌, List, [], ◌++◌, length, length-drop, take, drop, drop-drop, refl, sym, ap, ◌∙◌, subst, arith, append_assoc, append-nil}
use Rattle.std.specs.Prelude.{slice_range}
use Rattle.std.specs.List.{copy_within}
use Rattle.std.proofs.Math.Seq.{take-append_seam}
use Rattle.std.proofs.lemmas.List.Edits.{take-paste, drop-paste, length-paste}
use Rattle.http_answer.specs.Chunks.{IsChunk, IsDataAt, AreChunks, none, more}
use Rattle.http_answer.specs.Unchunking.{IsWithin, Moves}
use Rattle.http_answer.specs.declared.unchunking.Cursor.{Cursor}

-- a chunk behind the chunks
pub one_more : (text bodies middle body rest : List ℕ) → AreChunks text bodies middle → IsChunk middle body rest → AreChunks text (bodies ++ body) rest
one_more text _ _ body rest (none _) chunk = subst (λ (l : List ℕ). AreChunks text l rest) (append-nil body) (more text body rest [] rest chunk (none rest))
one_more text _ middle body rest (more _ first next others _ is chunks) chunk =
    subst (λ (l : List ℕ). AreChunks text l rest) (sym (append_assoc first others body)) (more text first next (others ++ body) rest is (one_more next others middle body rest chunks chunk))

pub nothing_moved : (bytes : List ℕ) (from : Cursor) → IsWithin (length bytes) from → Moves bytes from bytes from.to from.at
nothing_moved bytes from is = record {
  body = [];
  chunks = none (drop from.at bytes);
  front = sym (append-nil (take from.to bytes));
  behind = refl;
  ordered = is.ordered;
  within = is.within;
  count = refl;
}

same_behind : (a b : List ℕ) (n m k : ℕ) → drop n a ≡ drop n b → m ≡ n + k → drop m a ≡ drop m b
same_behind a b n m k e l = rw l (sym (drop-drop k n a) ∙ ap (drop k) e ∙ drop-drop k n b)

pub moved : (old new after : List ℕ) (from : Cursor) (to at start end : ℕ) → Moves old from new to at → IsDataAt new at start end → after ≡ copy_within new start end to → Moves old from after (to + (end - start)) (end + 2)
moved old new after from to at start end m d e =
    let n = end - start in
    let left : length (drop start new) ≡ length new - start = length-drop start new in
    let fits : to + n ≤ length new = omega (arith, m.ordered, d.first, d.ordered, d.within) in
    let room : n ≤ length (drop start new) = omega (arith, left, d.ordered, d.within) in
    let begin : to ≤ length new = omega (arith, fits) in
    let behind_new : drop (end + 2) after ≡ drop (end + 2) new =
    ap (drop (end + 2)) e ∙ same_behind (copy_within new start end to) new (to + n) (end + 2) (end + 2 - (to + n)) (drop-paste new to (drop start new) n begin room) (omega (arith, m.ordered, d.first, d.ordered)) in
    let behind_old : drop (end + 2) new ≡ drop (end + 2) old = same_behind new old at (end + 2) (end + 2 - at) m.behind (omega (arith, d.first, d.ordered)) in
    let chunk : IsChunk (drop at old) (slice_range new start end) (drop (end + 2) old) =
    subst (λ (l : List ℕ). IsChunk l (slice_range new start end) (drop (end + 2) old)) m.behind (subst (λ (l : List ℕ). IsChunk (drop at new) (slice_range new start end) l) behind_old d.chunk) in
    let size : length after ≡ length new = ap (λ (l : List ℕ). length l) e ∙ length-paste new to (drop start new) n fits room in
    record {
      body = m.body ++ slice_range new start end;
      chunks = one_more _ _ _ _ _ m.chunks chunk;
      front = ap (take (to + n)) e ∙ take-paste new to (drop start new) n begin room ∙ ap (λ (l : List ℕ). l ++ slice_range new start end) m.front ∙ append_assoc (take from.to old) m.body (slice_range new start end);
      behind = behind_new ∙ behind_old;
      ordered = omega (arith, m.ordered, d.first, d.ordered);
      within = omega (arith, size, d.within);
      count = size ∙ m.count;
    }

-- what a lent slice leaves in its vector
pub lent_back : (n : ℕ) (old new : List ℕ) → length new ≡ n → take n (new ++ drop (length new) old) ≡ new
lent_back n old new e =
    let P : ℕ → Type 0 = λ k. take k (new ++ drop (length new) old) ≡ new in
    subst P e (take-append_seam new (drop (length new) old))
