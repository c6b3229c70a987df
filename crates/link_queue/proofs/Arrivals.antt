-- Links that were accepted and put into the queue.
use Rattle.std.proofs.Common.{◌≡◌, ◌+◌, ◌∙◌, ℕ, List, [], ◌∷◌, ◌++◌, length, length-append, append_assoc, append-nil, refl, sym, ap, subst, arith}
use Rattle.atomic_table.specs.Seated.{TableId}
use Rattle.crossbeam_queue.specs.Passes.{Pass, view}
use Rattle.link_queue.specs.Hands.{IsHand, hand, with_put}
use Rattle.link_queue.specs.declared.hand.QueueHand.{QueueHand}

-- so many links were given, and each was put into the queue
pub record AreIn {L : Type 0} (queue : TableId) (many : ℕ) (before : QueueHand L) (after : Pass L (QueueHand L)) (given_before given_after : List L) : Type 0 where
  pub links : List L
  pub given : given_after ≡ given_before ++ links
  pub put : IsHand queue (hand before.parts (before.put ++ links) before.taken) after
  pub count : length links ≡ many

module _ {L : Type 0} (queue : TableId) (before : QueueHand L) (given_before : List L) where
  -- none at first
  pub none_in : (mine : Pass L (QueueHand L)) (given : List L) → view mine ≡ before → IsHand queue before mine → given ≡ given_before → AreIn queue 0 before mine given_before given
  none_in mine given same is e = record {
    links = [];
    given = e ∙ sym (append-nil given_before);
    put = subst (λ p. IsHand queue (hand before.parts p before.taken) mine) (sym (append-nil before.put)) is;
    count = refl;
  }

  -- one more
  pub one_more_in : (many : ℕ) (mine later : Pass L (QueueHand L)) (given given_later : List L) (link : L) → AreIn queue many before mine given_before given → given_later ≡ given ++ link ∷ [] → IsHand queue (with_put (view mine) link) later → AreIn queue (many + 1) before later given_before given_later
  one_more_in many mine later given given_later link a e put = record {
    links = a.links ++ link ∷ [];
    given = e ∙ ap (λ (xs : List L). xs ++ link ∷ []) a.given ∙ append_assoc given_before a.links (link ∷ []);
    put = subst (λ p. IsHand queue (hand before.parts p before.taken) later) (append_assoc before.put a.links (link ∷ [])) (subst (λ v. IsHand queue (with_put v link) later) a.put.knows put);
    count = omega (arith, a.count, length-append a.links (link ∷ []));
  }
