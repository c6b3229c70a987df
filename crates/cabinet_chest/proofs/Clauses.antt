-- The clauses of a turn, from what its command comes to.
use Rattle.std.proofs.Common.{◌≡◌, ◌≤◌, Bool, true, false, Result, Ok, Err, IfOk, OnErr, sym, ap, subst}
use Rattle.std.proofs.lemmas.Bool.{false≢true}
use Rattle.truncation_list.specs.Books.{AnswersForFronted}
use Rattle.truncation_list.proofs.Answering.{fronted_itself}
use Rattle.cabinet.specs.State.{IsKnownAs, IsSound, State, fronted, now}
use Rattle.cabinet_chest.specs.declared.command.Command.{Command}
use Rattle.cabinet_chest.specs.declared.command.Reply.{Reply}
use Rattle.cabinet_chest.specs.declared.shown.Shown.{Shown}
use Rattle.cabinet_chest.specs.Acts.{Acts}
use Rattle.cabinet_chest.specs.Replies.{MayReply}

module _ (b a : Shown) (does : Command) where
  going_on : (r : Reply) → Acts b a does r → IsKnownAs b.state a.state
  going_on r acts = (acts.may false (λ e. absurd (false≢true e))).goes_on

  pub charter_of : (r : Reply) → Acts b a does r → a.state.catalogue ≡ b.state.catalogue
  charter_of r acts = (going_on r acts).same_catalogue

  pub book_of : (r : Reply) → Acts b a does r → AnswersForFronted (fronted (now a.state)) (fronted (now b.state))
  book_of r acts = (going_on r acts).answers

  -- of a command that may have run out of memory, and then left the state
  module _ {E : Type 0} where
    pub charter_if : (r : Result Reply E) → IfOk r (λ x. Acts b a does x) → OnErr r ((a.state ≡ b.state) × (b.faults ≤ a.faults)) → a.state.catalogue ≡ b.state.catalogue
    charter_if (Ok x) acts same = charter_of x acts
    charter_if (Err fault) acts same = ap (λ s. s.catalogue) same.0

    pub book_if : (r : Result Reply E) → IfOk r (λ x. Acts b a does x) → OnErr r ((a.state ≡ b.state) × (b.faults ≤ a.faults)) → AnswersForFronted (fronted (now a.state)) (fronted (now b.state))
    book_if (Ok x) acts same = book_of x acts
    book_if (Err fault) acts same = subst (λ (s : State). AnswersForFronted (fronted (now s)) (fronted (now b.state))) (sym same.0) (fronted_itself (fronted (now b.state)))

    pub reply_if : (r : Result Reply E) → IfOk r (λ x. Acts b a does x) → IfOk r (λ x. (told : Bool) → (told ≡ true → IsSound b.state) → MayReply b.state.catalogue told b a does x)
    reply_if (Ok x) acts = acts.may
    reply_if (Err fault) acts = tt
