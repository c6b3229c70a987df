-- What came of taking the chunks that came.
use Rattle.std.proofs.Common.{◌≡◌, ℕ, List, ◌++◌, take, drop, sym, ◌∙◌, subst, append_assoc, inr, false}
use Rattle.http_answer.specs.declared.fields.Framing.TheVariants as framings
use Rattle.http_answer.specs.declared.unchunking.Cursor.{Cursor}
use Rattle.http_answer.specs.Heads.{IsGood}
use Rattle.http_answer.specs.Chunks.{AreChunks, IsLastChunk, IsOpen, IsBroken, none, more}
use Rattle.http_answer.specs.Unchunking.{Moves}
use Rattle.http_answer.specs.Answers.{IsAnswer, IsWaiting}
use Rattle.http_answer.specs.Reading.{IsUnchunked}

joined : (a xs b ys c : List ℕ) → AreChunks a xs b → AreChunks b ys c → AreChunks a (xs ++ ys) c
joined a _ b ys c (none _) behind = behind
joined a _ b ys c (more _ body next bodies _ chunk chunks) behind =
    subst (λ (l : List ℕ). AreChunks a l c) (sym (append_assoc body bodies ys)) (more a body next (bodies ++ ys) c chunk (joined next bodies b ys c chunks behind))

-- the chunks so far and those that were taken
all_chunks : (old new came : List ℕ) (from : Cursor) (to at : ℕ) (u : IsUnchunked old from came) → Moves old from new to at → AreChunks u.text (take to new) (drop at old)
all_chunks old new came from to at u m = subst (λ (l : List ℕ). AreChunks u.text l (drop at old)) (sym m.front) (joined u.text (take from.to old) (drop from.at old) m.body (drop at old) u.chunks m.chunks)

pub still_unchunked : (old new came : List ℕ) (from c : Cursor) → IsUnchunked old from came → Moves old from new c.to c.at → IsUnchunked new c came
still_unchunked old new came from c u m = record {
  text = u.text;
  head = u.head;
  chunks = subst (AreChunks u.text (take c.to new)) (sym m.behind) (all_chunks old new came from c.to c.at u m);
  within = record { ordered = m.ordered; within = m.within };
  count = m.count ∙ u.count;
}

pub waits_for_chunk : (old new came : List ℕ) (from : Cursor) (to at : ℕ) → IsUnchunked old from came → Moves old from new to at → IsOpen (drop at old) → IsWaiting came
waits_for_chunk old new came from to at u m open_ = inr (inr (u.text, take to new, drop at old, u.head, all_chunks old new came from to at u m, open_))

pub whole_chunks : (old new came body rest : List ℕ) (from : Cursor) (to at : ℕ) → IsUnchunked old from came → Moves old from new to at → IsLastChunk (drop at old) rest → body ≡ take to new → IsAnswer came false body
whole_chunks old new came body rest from to at u m last is = record {
  framing = framings.Chunked;
  text = u.text;
  head = u.head;
  body_is = (rest, record { end = drop at old; chunks = subst (λ (l : List ℕ). AreChunks u.text l (drop at old)) (sym is) (all_chunks old new came from to at u m); last = last });
}

pub broken_chunk : (old new came : List ℕ) (from : Cursor) (to at : ℕ) → IsUnchunked old from came → Moves old from new to at → IsBroken (drop at old)
    → (text : List ℕ) × (body : List ℕ) × (rest : List ℕ) × IsGood came framings.Chunked text × AreChunks text body rest × IsBroken rest
broken_chunk old new came from to at u m broken = (u.text, take to new, drop at old, u.head, all_chunks old new came from to at u m, broken)
