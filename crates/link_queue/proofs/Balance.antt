-- Each move at the queue of links keeps its rule.
use Rattle.std.proofs.Common.{◌≡◌, ◌≢◌, ℕ, ◌+◌, ◌-◌, ◌<◌, ◌∙◌, List, [], ◌∷◌, ◌++◌, length, set, sym, refl, ap, subst, ⊎_elim, arith}
use mathlib.Core.Option.{some, some-ne-none}
use lib.ListN.{get_elem?}
use Rattle.crossbeam_queue.specs.Fifo.{Pushes, Pops, Forks, Merges, Learns}
use Rattle.crossbeam_queue.proofs.Lists.{at_set, at_snoc}
use Rattle.link_queue.specs.declared.hand.QueueHand.{QueueHand}
use Rattle.link_queue.specs.Hands.{IdleIsEmpty, IsBalanced, KnowsHeld, all_parts, hand, with_other, with_put, with_taken}
use Rattle.link_queue.specs.Weights.{WeighAlike, weigh}
use Rattle.link_queue.proofs.Sums.{alone, weigh-append, weigh_set}

module _ {L : Type 0} where
  -- what a view comes to
  parts_of : QueueHand L → ℕ
  parts_of v = v.parts

  abbrev IdleView : QueueHand L → Type 0
  IdleView v = v.parts ≡ 0 → (v.put ≡ []) × (v.taken ≡ [])

  idle_set : (views : List (QueueHand L)) (port : ℕ) (w : QueueHand L) → IdleView w → IdleIsEmpty views → IdleIsEmpty (set views port w)
  idle_set views port w mine others j u at = ⊎_elim (λ (t : (j ≡ port) × (w ≡ u)). subst IdleView t.1 mine)
      (λ (t : (j ≢ port) × (get_elem? views j ≡ some u)). others j u t.1) (at_set views port j w u at)

  idle_snoc : (views : List (QueueHand L)) (w : QueueHand L) → IdleView w → IdleIsEmpty views → IdleIsEmpty (views ++ w ∷ [])
  idle_snoc views w mine others j u at = ⊎_elim (λ (t : get_elem? views j ≡ some u). others j u t) (λ (t : w ≡ u). subst IdleView t mine) (at_snoc views w u j at)

  pub begins : IsBalanced {L = L} [] (hand all_parts [] [] ∷ [])
  begins = record {
    parts = refl;
    weights = λ f. refl;
    idle = idle_snoc [] (hand all_parts [] []) (λ none. absurd (omega (arith, none))) (λ j u at. absurd (some-ne-none u (sym at)));
  }

  pub puts : (n port : ℕ) (v : QueueHand L) (link : L) → 0 < v.parts → Pushes IsBalanced n port v link (λ w. w ≡ with_put v link)
  puts n port v link some_part links views room b at =
      let w = with_put v link in (
        w,
        record {
          parts = let s = weigh_set (λ (u : QueueHand L). u.parts) views port v w at in let p = b.parts in omega arith;
          weights = λ f.
              let s = weigh_set (λ (u : QueueHand L). weigh f u.put) views port v w at in
              let t = weigh_set (λ (u : QueueHand L). weigh f u.taken) views port v w at in
              let p = b.weights f in
              omega (arith, weigh-append f v.put (link ∷ []), weigh-append f links (link ∷ []));
          idle = idle_set views port w (λ none. absurd (omega (arith, none, some_part))) b.idle;
        },
        refl,
      )

  pub takes : (port : ℕ) (v : QueueHand L) → 0 < v.parts → Pops IsBalanced port v (λ link w. w ≡ with_taken v link)
  takes port v some_part link links views b at =
      let w = with_taken v link in (
        w,
        record {
          parts = let s = weigh_set (λ (u : QueueHand L). u.parts) views port v w at in let p = b.parts in omega arith;
          weights = λ f.
              let s = weigh_set (λ (u : QueueHand L). weigh f u.put) views port v w at in
              let t = weigh_set (λ (u : QueueHand L). weigh f u.taken) views port v w at in
              let p = b.weights f in
              omega (arith, weigh-append f v.taken (link ∷ []));
          idle = idle_set views port w (λ none. absurd (omega (arith, none, some_part))) b.idle;
        },
        refl,
      )

  pub forks : (port : ℕ) (v : QueueHand L) → 1 < v.parts → Forks IsBalanced port v (hand (v.parts - 1) v.put v.taken) (hand 1 [] [])
  forks port v two_parts links views b at =
      let l = hand (v.parts - 1) v.put v.taken in
      let r : QueueHand L = hand 1 [] [] in
      let vs = set views port l in
      record {
        parts =
            let s = weigh_set (λ (u : QueueHand L). u.parts) views port v l at in
            let a = weigh-append (λ (u : QueueHand L). u.parts) vs (r ∷ []) in
            let p = b.parts in
            omega (arith, two_parts);
        weights = λ f.
            let s = weigh_set (λ (u : QueueHand L). weigh f u.put) views port v l at in
            let t = weigh_set (λ (u : QueueHand L). weigh f u.taken) views port v l at in
            let a = weigh-append (λ (u : QueueHand L). weigh f u.put) vs (r ∷ []) in
            let c = weigh-append (λ (u : QueueHand L). weigh f u.taken) vs (r ∷ []) in
            let p = b.weights f in
            omega arith;
        idle = idle_snoc vs r (λ none. absurd (omega (arith, none))) (idle_set views port l (λ none. absurd (omega (arith, none, two_parts))) b.idle);
      }

  pub merges : (port : ℕ) (v : QueueHand L) (other : ℕ) (u : QueueHand L) → 0 < v.parts → Merges IsBalanced port v other u (with_other v u) (hand 0 [] [])
  merges port v other u some_part links views b at apart there =
      let both = with_other v u in
      let gone : QueueHand L = hand 0 [] [] in
      let vs = set views port both in
      record {
        parts =
            let s = weigh_set (λ (x : QueueHand L). x.parts) views port v both at in
            let t = weigh_set (λ (x : QueueHand L). x.parts) vs other u gone there in
            let p = b.parts in
            omega arith;
        weights = λ f.
            let s = weigh_set (λ (x : QueueHand L). weigh f x.put) views port v both at in
            let s' = weigh_set (λ (x : QueueHand L). weigh f x.put) vs other u gone there in
            let t = weigh_set (λ (x : QueueHand L). weigh f x.taken) views port v both at in
            let t' = weigh_set (λ (x : QueueHand L). weigh f x.taken) vs other u gone there in
            let p = b.weights f in
            omega (arith, weigh-append f u.put v.put, weigh-append f u.taken v.taken);
        idle = idle_set vs other gone (λ _. (refl, refl)) (idle_set views port both (λ none. absurd (omega (arith, none, some_part))) b.idle);
      }

  pub learns : (port : ℕ) (v : QueueHand L) → Learns IsBalanced port v (KnowsHeld v)
  learns port v links views b at all f =
      let total = b.parts ∙ sym all in
      let put = alone (λ (u : QueueHand L). u.parts) (λ (u : QueueHand L). weigh f u.put) views port v at total (λ j u there none. ap (weigh f) (b.idle j u there none).0) in
      let taken = alone (λ (u : QueueHand L). u.parts) (λ (u : QueueHand L). weigh f u.taken) views port v at total (λ j u there none. ap (weigh f) (b.idle j u there none).1) in
      sym put ∙ b.weights f ∙ ap (λ n. n + weigh f links) taken

  -- of an empty queue it knows that it has put what it has taken
  pub settles : (v : QueueHand L) (links : List L) → length links ≡ 0 → KnowsHeld v links → v.parts ≡ all_parts → WeighAlike v.put v.taken
  settles v [] empty knows all f = let h = knows all f in omega arith
  settles v (x ∷ xs) empty knows all f = absurd (omega (arith, empty))
