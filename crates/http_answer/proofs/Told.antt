-- What is told of the bytes that came.
use Rattle.std.proofs.Common.{◌≡◌, ℕ, ◌-◌, ◌≤◌, List, ◌++◌, length, length-drop, length-take-le, take, drop, sym, ap, ◌∙◌, subst, arith, refl, false}
use Rattle.std.proofs.lemmas.List.{take-append-drop}
use Rattle.http_answer.specs.declared.fault.AnswerFault.{AnswerFault}
use Rattle.http_answer.specs.declared.fault.AnswerFault.TheVariants as faults
use Rattle.http_answer.specs.declared.fields.Framing.{Framing}
use Rattle.http_answer.specs.declared.fields.Framing.TheVariants as framings
use Rattle.http_answer.specs.declared.head.Head.{Head}
use Rattle.http_answer.specs.declared.stage.ReadStage.{ReadStage}
use Rattle.http_answer.specs.declared.stage.ReadStage.TheVariants as stages
use Rattle.http_answer.specs.declared.unchunking.Cursor.{Cursor}
use Rattle.http_answer.specs.Heads.{IsHead, IsGood, IsHeadFault}
use Rattle.http_answer.specs.Chunks.{none}
use Rattle.http_answer.specs.Answers.{IsAnswer, IsWaiting, IsFault}
use Rattle.http_answer.specs.Reading.{IsCounted, IsUnchunked, Waits}

pub head_fault : (limit : ℕ) (came : List ℕ) (fault : AnswerFault) → IsHeadFault came fault → IsFault limit came false fault
head_fault limit came faults.NotHttp h = h
head_fault limit came faults.TooManyFields h = h
head_fault limit came faults.HeadTooLong h = h
head_fault limit came (faults.Status code) h = h
head_fault limit came (faults.Framing how) h = h
head_fault limit came faults.BrokenChunk h = absurd h
head_fault limit came faults.TooLong h = absurd h
head_fault limit came faults.CutOff h = absurd h

pub still_waits : (came : List ℕ) (stage : ReadStage) → ((start : ℕ) → stage ≡ stages.ToEnd start → ⊥) → Waits stage came → IsWaiting came
still_waits came stages.Head other waits = waits
still_waits came (stages.Counted start size) other waits = waits
still_waits came (stages.ToEnd start) other waits = absurd (other start refl)
still_waits came (stages.Chunks c) other waits = waits

pub counted_whole : (bytes came body : List ℕ) (start size : ℕ) → IsCounted bytes start size came → size ≤ length bytes - start → body ≡ take size (drop start bytes) → IsAnswer came false body
counted_whole bytes came body start size at fits is =
    let text = drop start came in
    let same : body ≡ take size text = is ∙ ap (λ (l : List ℕ). take size (drop start l)) at.0 in
    let long : size ≤ length text = omega (arith, fits, ap (λ (l : List ℕ). length l) at.0, length-drop start came) in
    record {
      framing = framings.Length size;
      text = text;
      head = at.2;
      body_is = (drop size text, sym (take-append-drop size text) ∙ ap (λ (l : List ℕ). l ++ drop size text) (sym same), ap (λ (l : List ℕ). length l) same ∙ length-take-le size text long);
    }

-- no chunk was taken yet
pub chunks_begin : (bytes : List ℕ) (head : Head) (c : Cursor) → IsHead bytes head → head.framing ≡ framings.Chunked → c ≡ record { to = 0; at = head.start } → IsUnchunked bytes c bytes
chunks_begin bytes head c is chunked e =
    let at_start : IsUnchunked bytes (record { to = 0; at = head.start }) bytes = record {
      text = drop head.start bytes;
      head = subst (λ (f : Framing). IsGood bytes f (drop head.start bytes)) chunked is.good;
      chunks = none (drop head.start bytes);
      within = record { ordered = omega arith; within = is.fits };
      count = refl;
    } in
    subst (λ (d : Cursor). IsUnchunked bytes d bytes) (sym e) at_start
