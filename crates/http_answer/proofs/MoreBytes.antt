-- What holds of the bytes that came holds with more bytes behind them.
use Rattle.std.proofs.Common.{◌≡◌, ℕ, ◌≤◌, List, ◌∷◌, ◌++◌, length, length-append, take, drop, sym, ap, subst, arith, append_assoc}
use Rattle.std.proofs.lemmas.List.{drop-append-le, take-append-le}
use Rattle.httparse.proofs.GrammarLemmas.{ReadsResponse-append}
use Rattle.httparse.proofs.ChunkLemmas.{ReadsChunkLine-append}
use Rattle.http_answer.specs.declared.fields.Framing.{Framing}
use Rattle.http_answer.specs.declared.stage.ReadStage.{ReadStage}
use Rattle.http_answer.specs.declared.stage.ReadStage.TheVariants.{Head, Counted, ToEnd, Chunks}
use Rattle.http_answer.specs.declared.unchunking.Cursor.{Cursor}
use Rattle.http_answer.specs.Heads.{IsGood}
use Rattle.http_answer.specs.Chunks.{BeginsWithLine, IsChunk, AreChunks, none, more}
use Rattle.http_answer.specs.Reading.{IsAt, IsUnchunked}

good_more : (came piece text : List ℕ) (f : Framing) → IsGood came f text → IsGood (came ++ piece) f (text ++ piece)
good_more came piece text f good = record {
  head = good.head;
  begins = record {
    reads = ReadsResponse-append came good.head text piece good.begins.reads;
    short = good.begins.short;
    few = good.begins.few;
  };
  status = good.status;
  framed = good.framed;
}

good_behind : (came piece : List ℕ) (start : ℕ) (f : Framing) → start ≤ length came → IsGood came f (drop start came) → IsGood (came ++ piece) f (drop start (came ++ piece))
good_behind came piece start f fits good = subst (IsGood (came ++ piece) f) (sym (drop-append-le start came piece fits)) (good_more came piece (drop start came) f good)

chunk_more : (text body rest piece : List ℕ) → IsChunk text body rest → IsChunk (text ++ piece) body (rest ++ piece)
chunk_more text body rest piece chunk =
    let line : BeginsWithLine (text ++ piece) (length body) ((body ++ (13 ∷ (10 ∷ rest))) ++ piece) = record {
      line = chunk.line.line;
      reads = ReadsChunkLine-append text chunk.line.line (body ++ (13 ∷ (10 ∷ rest))) piece chunk.line.reads;
      size_is = chunk.line.size_is;
    } in
    record { line = subst (BeginsWithLine (text ++ piece) (length body)) (append_assoc body (13 ∷ (10 ∷ rest)) piece) line; some = chunk.some }

chunks_more : (text body rest piece : List ℕ) → AreChunks text body rest → AreChunks (text ++ piece) body (rest ++ piece)
chunks_more text _ _ piece (none _) = none (text ++ piece)
chunks_more text _ rest piece (more _ body next bodies _ chunk chunks) = more (text ++ piece) body (next ++ piece) bodies (rest ++ piece) (chunk_more text body next piece chunk) (chunks_more next bodies rest piece chunks)

unchunked_more : (bytes came piece : List ℕ) (c : Cursor) → IsUnchunked bytes c came → IsUnchunked (bytes ++ piece) c (came ++ piece)
unchunked_more bytes came piece c u =
    let P : List ℕ → Type 0 = λ front. AreChunks (u.text ++ piece) front (drop c.at (bytes ++ piece)) in
    let Q : List ℕ → Type 0 = λ rest. AreChunks (u.text ++ piece) (take c.to bytes) rest in
    let short : c.to ≤ length bytes = omega (arith, u.within.ordered, u.within.within) in
    record {
      text = u.text ++ piece;
      head = good_more came piece u.text _ u.head;
      chunks = subst P (sym (take-append-le c.to bytes piece short)) (subst Q (sym (drop-append-le c.at bytes piece u.within.within)) (chunks_more u.text (take c.to bytes) (drop c.at bytes) piece u.chunks));
      within = record { ordered = u.within.ordered; within = omega (arith, u.within.within, length-append bytes piece) };
      count = omega (arith, length-append bytes piece, length-append came piece, u.count);
    }

pub at_more : (bytes came piece : List ℕ) (stage : ReadStage) → IsAt bytes stage came → IsAt (bytes ++ piece) stage (came ++ piece)
at_more bytes came piece Head at = ap (λ (l : List ℕ). l ++ piece) at
at_more bytes came piece (Counted start size) at =
    let fits : start ≤ length came = subst (λ (l : List ℕ). start ≤ length l) at.0 at.1 in
    (ap (λ (l : List ℕ). l ++ piece) at.0, omega (arith, at.1, length-append bytes piece), good_behind came piece start _ fits at.2)
at_more bytes came piece (ToEnd start) at =
    let fits : start ≤ length came = subst (λ (l : List ℕ). start ≤ length l) at.0 at.1 in
    (ap (λ (l : List ℕ). l ++ piece) at.0, omega (arith, at.1, length-append bytes piece), good_behind came piece start _ fits at.2)
at_more bytes came piece (Chunks c) at = unchunked_more bytes came piece c at

-- as many bytes are held as came
pub held_all : (bytes came : List ℕ) (stage : ReadStage) → IsAt bytes stage came → length bytes ≡ length came
held_all bytes came Head at = ap (λ (l : List ℕ). length l) at
held_all bytes came (Counted start size) at = ap (λ (l : List ℕ). length l) at.0
held_all bytes came (ToEnd start) at = ap (λ (l : List ℕ). length l) at.0
held_all bytes came (Chunks c) at = at.count
