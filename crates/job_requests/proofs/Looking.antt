-- Looks at the jobs of a board, one after the other.
use Rattle.std.proofs.Common.{arith, ℕ, suc, ◌≡◌, ◌<◌, ◌≤◌, ◌+◌, List, [], ◌∷◌, ◌++◌, length, length-append, Some, None, inl, inr, refl, sym, ap, subst, ◌∙◌, append_assoc, append-nil}
use Rattle.job_board.specs.declared.shown.BoardCommand.TheVariants as command
use Rattle.job_board.specs.declared.shown.BoardReply.TheVariants as reply
use Rattle.job_board.specs.declared.status.JobStatus.{JobStatus}
use Rattle.job_board.specs.Calls.{BoardHolding, MakesOne}
use Rattle.tile_requests.specs.declared.outcome.Outcome.TheVariants as outcome
use Rattle.tile_requests.specs.declared.outcome.Plain.TheVariants as plain
use Rattle.job_requests.specs.Served.{AreLooks, AreStatusesServed}
use Rattle.job_requests.specs.Texts.{status_text, statuses_text}

-- the jobs before this number were looked at, and told so
pub record HasLooked (number : ℕ) (text : List ℕ) (before now : BoardHolding) : Type 0 where
  pub found : List JobStatus
  pub looks : AreLooks 1 found before now
  pub text_is : text ≡ statuses_text 1 found
  pub next : number ≡ length found + 1
  pub within : number ≤ 1025

pub at_first : (text : List ℕ) (p : BoardHolding) → text ≡ [] → HasLooked 1 text p p
at_first text p none = record { found = []; looks = refl; text_is = none; next = refl; within = omega arith }

looks_more : (n k : ℕ) (ss : List JobStatus) (s : JobStatus) (a b c : BoardHolding) → k ≡ length ss + n → AreLooks n ss a b → MakesOne b c (command.Look k) (reply.Look (Some s)) → AreLooks n (ss ++ s ∷ []) a c
looks_more n k [] s a b c e same one =
    let here : k ≡ n = omega (arith, e) in
    (c, subst (λ (p : BoardHolding). MakesOne p c (command.Look n) (reply.Look (Some s))) same (subst (λ (m : ℕ). MakesOne b c (command.Look m) (reply.Look (Some s))) here one), refl)
looks_more n k (x ∷ ss) s a b c e (m, first, rest) one = (m, first, looks_more (suc n) k ss s m b c (omega (arith, e)) rest one)

text_more : (n k : ℕ) (ss : List JobStatus) (s : JobStatus) → k ≡ length ss + n → statuses_text n (ss ++ s ∷ []) ≡ statuses_text n ss ++ status_text k s
text_more n k [] s e =
    let here : n ≡ k = omega (arith, e) in
    append-nil (status_text n s) ∙ ap (λ (m : ℕ). status_text m s) here
text_more n k (x ∷ ss) s e = ap (λ (l : List ℕ). status_text n x ++ l) (text_more (suc n) k ss s (omega (arith, e))) ∙ sym (append_assoc (status_text n x) (statuses_text (suc n) ss) (status_text k s))

pub one_more : (number : ℕ) (text more : List ℕ) (s : JobStatus) (before now next : BoardHolding) → number ≤ 1024 → HasLooked number text before now → MakesOne now next (command.Look number) (reply.Look (Some s)) → more ≡ text ++ status_text number s → HasLooked (number + 1) more before next
one_more number text more s before now next few h one is = record {
  found = h.found ++ s ∷ [];
  looks = looks_more 1 number h.found s before now next h.next h.looks one;
  text_is = is ∙ ap (λ (l : List ℕ). l ++ status_text number s) h.text_is ∙ sym (text_more 1 number h.found s h.next);
  next = let e = h.next in let l = length-append h.found (s ∷ []) in omega (arith, e, l);
  within = omega (arith, few);
}

-- the look found no job of this number
pub at_last : (number : ℕ) (text : List ℕ) (before now after : BoardHolding) → HasLooked number text before now → MakesOne now after (command.Look number) (reply.Look None) → AreStatusesServed before after (outcome.Job text)
at_last number text before now after h one = record {
  found = h.found;
  between = now;
  looks = h.looks;
  told = inl (inl (subst (λ (n : ℕ). MakesOne now after (command.Look n) (reply.Look None)) h.next one), ap (λ (l : List ℕ). outcome.Job l) h.text_is);
}

-- all that a board can have were looked at
pub at_most : (number : ℕ) (text : List ℕ) (before now : BoardHolding) → 1024 < number → HasLooked number text before now → AreStatusesServed before now (outcome.Job text)
at_most number text before now many h = record {
  found = h.found;
  between = now;
  looks = h.looks;
  told = inl (inr (let e = h.next in let w = h.within in omega (arith, e, w, many), refl), ap (λ (l : List ℕ). outcome.Job l) h.text_is);
}

-- no memory was left for the line of the job that was looked at last
pub no_memory : (number : ℕ) (text : List ℕ) (s : JobStatus) (before now next : BoardHolding) → HasLooked number text before now → MakesOne now next (command.Look number) (reply.Look (Some s)) → AreStatusesServed before next (outcome.Plain plain.NoMemory)
no_memory number text s before now next h one = record {
  found = h.found ++ s ∷ [];
  between = next;
  looks = looks_more 1 number h.found s before now next h.next h.looks one;
  told = inr (refl, refl);
}
