-- What holds of each pass holds of those that were handed out.
use Rattle.std.proofs.Common.{◌≡◌, ◌+◌, ◌-◌, ℕ, List, [], ◌∷◌, ◌++◌, All, length, length-append, arith, ap, sym, subst}
use Rattle.std.proofs.lemmas.List.Elements.{All-pop, All-push}
use Rattle.std.specs.Prelude.{Err, IfOk, Ok, Result, Some}
use Rattle.atomic_table.specs.Seated.{TableId}
use Rattle.crossbeam_queue.specs.Passes.{Pass, view}
use Rattle.link_queue.specs.Hands.{IsHand, all_parts, hand}
use Rattle.link_queue.specs.declared.hand.QueueHand.{QueueHand}

pub pushed : {A : Type 0} (P : A → Type 0) (xs ys : List A) (a : A) → xs ≡ ys ++ a ∷ [] → All P ys → P a → All P xs
pushed P xs ys a e all last = subst (All P) (sym e) (All-push P ys a all last)

pub popped : {A : Type 0} (P : A → Type 0) (xs ys : List A) (a : A) → xs ≡ ys ++ a ∷ [] → All P xs → All P ys × P a
popped P xs ys a e all = All-pop P xs ys (Some a) e all

pub one_longer : {A : Type 0} (xs ys : List A) (a : A) → xs ≡ ys ++ a ∷ [] → length xs ≡ length ys + 1
one_longer xs ys a e = omega (arith, ap length e, length-append ys (a ∷ []))

-- of the hand that began with all parts, so many were dealt out, and now one more
pub dealt : {L : Type 0} (queue : TableId) (n m : ℕ) (before after : Pass L (QueueHand L)) → IsHand queue (hand (all_parts - n) [] []) before → IsHand queue (hand ((view before).parts - 1) (view before).put (view before).taken) after → m ≡ n + 1
    → IsHand queue (hand (all_parts - m) [] []) after
dealt queue n m before after had less e =
    subst (λ k. IsHand queue (hand k [] []) after) (omega (arith, e)) (subst (λ v. IsHand queue (hand (v.parts - 1) v.put v.taken) after) had.knows less)

-- what follows of a value follows of a result that may be an error
pub ok_so : {A E : Type 0} (P Q : A → Type 0) (r : Result A E) → IfOk r P → ((a : A) → P a → Q a) → IfOk r Q
ok_so P Q (Ok a) holds so = so a holds
ok_so P Q (Err e) holds so = tt
