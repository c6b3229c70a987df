-- How a tournament stays right through a change, and that its first winner goes first.
use Rattle.std.proofs.Common.{ℕ, ◌≡◌, ◌≢◌, ◌+◌, ◌*◌, ◌<◌, ◌≤◌, ◌&&◌, ◌⊎◌, inl, inr, eqb, suc, zero, Bool, true, false, cond, nat_lt, refl, sym, ap, subst, ◌∙◌, arith}
use borrow.Author.Tests.{ltb-true, ltb-false}
use Rattle.std.proofs.lemmas.Bool.Decides.{eqb_tells}
use Rattle.expiry_policy.specs.Tournaments.{above, IsAbove, itself, higher, Wins, IsRanked, IsRankedBut, pick}

-- what holds of a test of which of two goes first
pub record IsRanking (goes : ℕ → ℕ → Bool) : Type 0 where
  pub alone : (a : ℕ) → goes a a ≡ false
  pub one_way : (a b : ℕ) → goes a b ≡ true → goes b a ≡ false
  pub through : (a b c : ℕ) → goes b a ≡ false → goes c b ≡ false → goes c a ≡ false

-- NODES

pub above_below : (c : ℕ) → 0 < c → above c < c
above_below c h = omega arith

-- a node that stands above a node beneath another stands above that one too
pub above_above : {c k : ℕ} → IsAbove c k → 0 < c → IsAbove (above c) k
above_above itself h = higher h itself
above_above (higher i a) h = higher i (above_above a h)

-- a node that stands above another is that one, or stands above the one right above it
pub above_next : {k c : ℕ} → IsAbove k c → (k ≡ c) ⊎ ((0 < c) × IsAbove k (above c))
above_next itself = inl refl
above_next (higher h a) = inr (h, a)

-- no node stands above one of a lesser number
pub above_least : {k c : ℕ} → IsAbove k c → k ≤ c
above_least itself = omega arith
above_least {k} {c} (higher h a) = let low = above_least a in let less = above_below c h in omega arith

-- whether a node stands above another
tell : (k c : ℕ) → ((eqb k c ≡ true) × (k ≡ c)) ⊎ ((eqb k c ≡ false) × (k ≢ c)) → (s : Bool) → nat_lt 0 c ≡ s → (0 < c → IsAbove k (above c) ⊎ (IsAbove k (above c) → ⊥)) → IsAbove k c ⊎ (IsAbove k c → ⊥)
tell k c (inl e) s t rest = inl (subst (IsAbove k) e.1 itself)
tell k c (inr n) false t rest = let none : c ≤ 0 = ltb-false _ _ t in inr (λ a. elim (above_next a) [ inl e ↦ n.1 e | inr f ↦ absurd (omega arith) ])
tell k c (inr n) true t rest =
    let some : 0 < c = ltb-true _ _ t in
    elim (rest some) [ inl a ↦ inl (higher some a) | inr never ↦ inr (λ a. elim (above_next a) [ inl e ↦ n.1 e | inr f ↦ never f.1 ]) ]

tells_by : (fuel k c : ℕ) → c ≤ fuel → IsAbove k c ⊎ (IsAbove k c → ⊥)
tells_by zero k c h = tell k c (eqb_tells k c) (nat_lt 0 c) refl (λ some. absurd (omega arith))
tells_by (suc fuel) k c h = tell k c (eqb_tells k c) (nat_lt 0 c) refl (λ some. tells_by fuel k (above c) (omega arith))

tells : (k c : ℕ) → IsAbove k c ⊎ (IsAbove k c → ⊥)
tells k c = tells_by c k c (omega arith)

-- the two nodes right beneath one
right_beneath : (c k : ℕ) → 0 < c → above c ≡ k → (c ≡ 2 * k + 1) ⊎ (c ≡ 2 * k + 2)
right_beneath c k h e = by (nat_lt c (2 * k + 2)) refl
  where
    by : (b : Bool) → nat_lt c (2 * k + 2) ≡ b → (c ≡ 2 * k + 1) ⊎ (c ≡ 2 * k + 2)
    by true t = let lt : c < 2 * k + 2 = ltb-true _ _ t in inl (omega arith)
    by false t = let le : 2 * k + 2 ≤ c = ltb-false _ _ t in inr (omega arith)

module _ (goes : ℕ → ℕ → Bool) (r : IsRanking goes) where
  -- THE WINNER OF A NODE

  -- what the pick of an entry and of the winner of a node is
  record Picks (count : ℕ) (winner : ℕ → ℕ) (x c y : ℕ) : Type 0 where
    own : goes x y ≡ false
    other : c < count → goes (winner c) y ≡ false
    from : (y ≡ x) ⊎ ((c < count) × (y ≡ winner c))

  picked : (count : ℕ) (winner : ℕ → ℕ) (x c : ℕ) → Picks count winner x c (pick goes count winner x c)
  picked count winner x c = by (nat_lt c count) (goes (winner c) x) refl refl
    where
      by : (s t : Bool) → nat_lt c count ≡ s → goes (winner c) x ≡ t → Picks count winner x c (cond (s && t) (winner c) x)
      by true true e h = let lt : c < count = ltb-true _ _ e in record { own = r.one_way (winner c) x h; other = λ _. r.alone (winner c); from = inr (lt, refl) }
      by true false e h = record { own = r.alone x; other = λ _. h; from = inl refl }
      by false t e h = let le : count ≤ c = ltb-false _ _ e in record { own = r.alone x; other = λ lt. absurd (omega arith); from = inl refl }

  -- the picks of the winners of both nodes right beneath make the winner
  pub winner_picked : (count : ℕ) (winner : ℕ → ℕ) (k : ℕ) → k < count
      → (2 * k + 1 < count → winner (2 * k + 1) < count) → (2 * k + 2 < count → winner (2 * k + 2) < count)
      → Wins goes count winner k (pick goes count winner (pick goes count winner k (2 * k + 1)) (2 * k + 2))
  winner_picked count winner k lt left right =
      let x = pick goes count winner k (2 * k + 1) in
      let y = pick goes count winner x (2 * k + 2) in
      let one : Picks count winner k (2 * k + 1) x = picked count winner k (2 * k + 1) in
      let two : Picks count winner x (2 * k + 2) y = picked count winner x (2 * k + 2) in
      record {
        within = elim two.from [
          | inl e ↦ subst (λ z. z < count) (sym e) (elim one.from [ inl f ↦ subst (λ z. z < count) (sym f) lt | inr f ↦ subst (λ z. z < count) (sym f.1) (left f.0) ])
          | inr e ↦ subst (λ z. z < count) (sym e.1) (right e.0)
        ];
        own = r.through y x k two.own one.own;
        beneath = λ c some few at. elim (right_beneath c k some at) [
          | inl e ↦ subst (λ z. goes (winner z) y ≡ false) (sym e) (r.through y x (winner (2 * k + 1)) two.own (one.other (subst (λ z. z < count) e few)))
          | inr e ↦ subst (λ z. goes (winner z) y ≡ false) (sym e) (two.other (subst (λ z. z < count) e few))
        ];
        from = elim two.from [
          | inl e ↦ elim one.from [ inl f ↦ inl (e ∙ f) | inr f ↦ inr (2 * k + 1, omega arith, f.0, omega arith, e ∙ f.1) ]
          | inr e ↦ inr (2 * k + 2, omega arith, e.0, omega arith, e.1)
        ];
      }

  -- THE FIRST OF ALL

  -- the winner of no node goes before that of node 0
  beneath_first : (count : ℕ) (winner : ℕ → ℕ) → IsRanked goes count winner → (fuel k : ℕ) → k ≤ fuel → k < count → goes (winner k) (winner 0) ≡ false
  beneath_first count winner all fuel zero h lt = r.alone (winner 0)
  beneath_first count winner all zero (suc k) h lt = absurd (omega arith)
  beneath_first count winner all (suc fuel) (suc k) h lt =
      let up = above (suc k) in
      let few : up < count = omega arith in
      let less : up ≤ fuel = omega arith in
      r.through (winner 0) (winner up) (winner (suc k)) (beneath_first count winner all fuel up less few) ((all.right up few).beneath (suc k) (omega arith) lt refl)

  -- no entry goes before the winner of node 0
  pub first_of_ranked : (count : ℕ) (winner : ℕ → ℕ) → IsRanked goes count winner → (k : ℕ) → k < count → goes k (winner 0) ≡ false
  first_of_ranked count winner all k lt =
      r.through (winner 0) (winner k) k (beneath_first count winner all k k (omega arith) lt) (all.right k lt).own

module _ (goes : ℕ → ℕ → Bool) where
  -- ONE NODE MORE IS RIGHT

  pub right_elsewhere : (count : ℕ) (winner new : ℕ → ℕ) (at k : ℕ) → k ≢ at → (0 < at → k ≢ above at) → ((i : ℕ) → i ≢ at → new i ≡ winner i) → Wins goes count winner k (winner k) → Wins goes count new k (new k)
  right_elsewhere count winner new at k other not_above same w =
      let here = same k other in
      let beside : (c : ℕ) → 0 < c → above c ≡ k → new c ≡ winner c = λ c some e. same c (λ is. not_above (subst (λ z. 0 < z) is some) (sym e ∙ ap above is)) in
      subst (Wins goes count new k) (sym here) (record {
        within = w.within;
        own = w.own;
        beneath = λ c some few e. subst (λ z. goes z (winner k) ≡ false) (sym (beside c some e)) (w.beneath c some few e);
        from = elim w.from [ inl e ↦ inl e | inr e ↦ inr (e.0, e.1, e.2, e.3, e.4 ∙ sym (beside e.0 e.1 e.3)) ];
      })

  right_here : (count : ℕ) (winner new : ℕ → ℕ) (at x : ℕ) → new at ≡ x → ((i : ℕ) → i ≢ at → new i ≡ winner i) → Wins goes count winner at x → Wins goes count new at (new at)
  right_here count winner new at x is same w =
      let beside : (c : ℕ) → 0 < c → above c ≡ at → new c ≡ winner c = λ c some e. same c (λ f. absurd (omega (arith, above_below c some, e, f))) in
      subst (Wins goes count new at) (sym is) (record {
        within = w.within;
        own = w.own;
        beneath = λ c some few e. subst (λ z. goes z x ≡ false) (sym (beside c some e)) (w.beneath c some few e);
        from = elim w.from [ inl e ↦ inl e | inr e ↦ inr (e.0, e.1, e.2, e.3, e.4 ∙ sym (beside e.0 e.1 e.3)) ];
      })

  -- what is left once the winner of a node was found anew: nothing at node 0, and else the nodes above it
  pub settled_all : (count : ℕ) (winner new : ℕ → ℕ) (at x : ℕ) → IsRankedBut goes count winner at → new at ≡ x → ((i : ℕ) → i ≢ at → new i ≡ winner i) → Wins goes count winner at x → at ≡ 0 → IsRanked goes count new
  settled_all count winner new at x but is same w last = record { right = λ k few. by k few (eqb_tells k at) (but.right k few) }
    where
      by : (k : ℕ) → k < count → ((eqb k at ≡ true) × (k ≡ at)) ⊎ ((eqb k at ≡ false) × (k ≢ at)) → ((at < count) × IsAbove k at) ⊎ Wins goes count winner k (winner k) → Wins goes count new k (new k)
      by k few (inl e) known = subst (λ z. Wins goes count new z (new z)) (sym e.1) (right_here count winner new at x is same w)
      by k few (inr e) (inl h) = elim (above_next h.1) [ inl f ↦ absurd (e.1 f) | inr f ↦ absurd (omega arith) ]
      by k few (inr e) (inr h) = right_elsewhere count winner new at k e.1 (λ some. absurd (omega arith)) same h

  pub settled_more : (count : ℕ) (winner new : ℕ → ℕ) (at x : ℕ) → at < count → IsRankedBut goes count winner at → new at ≡ x → ((i : ℕ) → i ≢ at → new i ≡ winner i) → Wins goes count winner at x → 0 < at → IsRankedBut goes count new (above at)
  settled_more count winner new at x lt but is same w some = record { right = λ k few. by k few (eqb_tells k at) (eqb_tells k (above at)) (but.right k few) }
    where
      up_few : above at < count
      up_few = let less = above_below at some in omega arith

      by : (k : ℕ) → k < count → ((eqb k at ≡ true) × (k ≡ at)) ⊎ ((eqb k at ≡ false) × (k ≢ at)) → ((eqb k (above at) ≡ true) × (k ≡ above at)) ⊎ ((eqb k (above at) ≡ false) × (k ≢ above at))
          → ((at < count) × IsAbove k at) ⊎ Wins goes count winner k (winner k) → ((above at < count) × IsAbove k (above at)) ⊎ Wins goes count new k (new k)
      by k few (inl e) up known = inr (subst (λ z. Wins goes count new z (new z)) (sym e.1) (right_here count winner new at x is same w))
      by k few (inr e) (inl u) known = inl (up_few, subst (λ z. IsAbove z (above at)) (sym u.1) itself)
      by k few (inr e) (inr u) (inl h) = inl (up_few, elim (above_next h.1) [ inl f ↦ absurd (e.1 f) | inr f ↦ f.1 ])
      by k few (inr e) (inr u) (inr h) = inr (right_elsewhere count winner new at k e.1 (λ _. u.1) same h)

  -- the winner of a node beneath the one that is not right yet
  pub right_within : (count : ℕ) (winner : ℕ → ℕ) (at c : ℕ) → IsRankedBut goes count winner at → at < c → c < count → winner c < count
  right_within count winner at c but past few = elim (but.right c few) [ inl h ↦ let low = above_least h.1 in absurd (omega arith) | inr w ↦ w.within ]

  -- WHAT A CHANGE LEAVES RIGHT

  -- a node has none but itself and those above it as its winner's, so it stands above its winner
  winner_beneath : (count : ℕ) (winner : ℕ → ℕ) → IsRanked goes count winner → (fuel k : ℕ) → count ≤ k + fuel → k < count → IsAbove k (winner k)
  winner_beneath count winner all zero k h lt = absurd (omega arith)
  winner_beneath count winner all (suc fuel) k h lt =
      elim (all.right k lt).from [
        | inl e ↦ subst (IsAbove k) (sym e) itself
        | inr e ↦
            let deeper : count ≤ e.0 + fuel = omega (arith, above_below e.0 e.1, e.3) in
            let beneath = winner_beneath count winner all fuel e.0 deeper e.2 in
            subst (λ z. IsAbove z (winner k)) e.3 (subst (λ z. IsAbove (above e.0) z) (sym e.4) (above_above beneath e.1))
      ]

  pub stands_above : (count : ℕ) (winner : ℕ → ℕ) → IsRanked goes count winner → (k : ℕ) → k < count → IsAbove k (winner k)
  stands_above count winner all k lt = winner_beneath count winner all count k (omega arith) lt

module _ (goes later : ℕ → ℕ → Bool) where
  -- the winner of a node that does not turn on the entry at an index
  right_still : (count : ℕ) (winner : ℕ → ℕ) (at : ℕ) → IsRanked goes count winner → ((i j : ℕ) → i < count → j < count → i ≢ at → j ≢ at → later i j ≡ goes i j)
      → (k : ℕ) → k < count → (IsAbove k at → ⊥) → Wins later count winner k (winner k)
  right_still count winner at all same k lt free =
      let w = all.right k lt in
      let winner_free : winner k ≢ at = λ e. free (subst (IsAbove k) e (stands_above goes count winner all k lt)) in
      record {
        within = w.within;
        own = same k (winner k) lt w.within (λ e. free (subst (IsAbove k) e itself)) winner_free ∙ w.own;
        beneath = λ c some few e.
            let c_free : winner c ≢ at = λ f. free (subst (λ z. IsAbove z at) e (above_above (subst (IsAbove c) f (stands_above goes count winner all c few)) some)) in
            same (winner c) (winner k) (all.right c few).within w.within c_free winner_free ∙ w.beneath c some few e;
        from = w.from;
      }

  -- the entry at an index changes, which may be past the last one
  pub ranked_but_changed : (count : ℕ) (winner : ℕ → ℕ) (at : ℕ) → IsRanked goes count winner → ((i j : ℕ) → i < count → j < count → i ≢ at → j ≢ at → later i j ≡ goes i j) → IsRankedBut later count winner at
  ranked_but_changed count winner at all same = record { right = λ k lt. by k lt (nat_lt at count) refl (tells k at) }
    where
      by : (k : ℕ) → k < count → (b : Bool) → nat_lt at count ≡ b → IsAbove k at ⊎ (IsAbove k at → ⊥) → ((at < count) × IsAbove k at) ⊎ Wins later count winner k (winner k)
      by k lt true t (inl a) = inl (ltb-true _ _ t, a)
      by k lt true t (inr n) = inr (right_still count winner at all same k lt n)
      by k lt false t a =
          let past : count ≤ at = ltb-false _ _ t in
          let w = all.right k lt in
          let before : (i : ℕ) → i < count → i ≢ at = λ i few e. absurd (omega (arith, e)) in
          inr (record {
            within = w.within;
            own = same k (winner k) lt w.within (before k lt) (before (winner k) w.within) ∙ w.own;
            beneath = λ c some few e. let c_few = (all.right c few).within in same (winner c) (winner k) c_few w.within (before (winner c) c_few) (before (winner k) w.within) ∙ w.beneath c some few e;
            from = w.from;
          })

  -- the same entries, under another test that agrees on them
  pub ranked_alike : (count : ℕ) (winner : ℕ → ℕ) → IsRanked goes count winner → ((i j : ℕ) → i < count → j < count → later i j ≡ goes i j) → IsRanked later count winner
  ranked_alike count winner all same = record {
    right = λ k lt.
        let w = all.right k lt in
        record {
          within = w.within;
          own = same k (winner k) lt w.within ∙ w.own;
          beneath = λ c some few e. same (winner c) (winner k) (all.right c few).within w.within ∙ w.beneath c some few e;
          from = w.from;
        };
  }

  -- one entry more is the last: of a node that is not right above it
  pub right_before : (count : ℕ) (winner new : ℕ → ℕ) → IsRanked goes count winner → ((i j : ℕ) → i < count → j < count → later i j ≡ goes i j) → ((i : ℕ) → i < count → new i ≡ winner i)
      → (k : ℕ) → k < count → k ≢ above count → Wins later (count + 1) new k (new k)
  right_before count winner new all same kept k few other =
      let w = all.right k few in
      let here = kept k few in
      let within : (c : ℕ) → c < count + 1 → above c ≡ k → c < count =
      λ c more e. let past : c ≢ count = λ f. other (sym e ∙ ap above f) in omega (arith, past) in
      subst (Wins later (count + 1) new k) (sym here) (record {
        within = let small = w.within in omega arith;
        own = same k (winner k) few w.within ∙ w.own;
        beneath = λ c some more e.
            let c_few = within c more e in
            subst (λ z. later z (winner k) ≡ false) (sym (kept c c_few)) (same (winner c) (winner k) (all.right c c_few).within w.within ∙ w.beneath c some c_few e);
        from = elim w.from [ inl e ↦ inl e | inr e ↦ inr (e.0, e.1, let small = e.2 in omega arith, e.3, e.4 ∙ sym (kept e.0 e.2)) ];
      })

  -- and of all but those above it
  pub ranked_but_last : (count : ℕ) (winner new : ℕ → ℕ) → IsRanked goes count winner → ((i j : ℕ) → i < count → j < count → later i j ≡ goes i j) → ((i : ℕ) → i < count → new i ≡ winner i) → IsRankedBut later (count + 1) new count
  ranked_but_last count winner new all same kept = record { right = λ k lt. by k lt (tells k count) }
    where
      by : (k : ℕ) → k < count + 1 → IsAbove k count ⊎ (IsAbove k count → ⊥) → ((count < count + 1) × IsAbove k count) ⊎ Wins later (count + 1) new k (new k)
      by k lt (inl a) = inl (omega arith, a)
      by k lt (inr free) =
          let other : k ≢ count = λ e. free (subst (IsAbove k) e itself) in
          let few : k < count = omega (arith, other) in
          inr (right_before count winner new all same kept k few (λ e. free (higher (omega arith) (subst (IsAbove k) e itself))))

module _ (goes : ℕ → ℕ → Bool) where
  -- the last entry is left out: of a node that is not right above it, and had another winner
  pub right_without : (count : ℕ) (winner new : ℕ → ℕ) → IsRanked goes (count + 1) winner → ((i : ℕ) → i < count → new i ≡ winner i) → (k : ℕ) → k < count → winner k ≢ count → k ≢ above count → Wins goes count new k (new k)
  right_without count winner new all kept k lt winner_free other =
      let more : k < count + 1 = omega arith in
      let w = all.right k more in
      let here = kept k lt in
      let within : (i : ℕ) → i < count + 1 → i ≢ count → i < count = λ i small differs. omega (arith, differs) in
      subst (Wins goes count new k) (sym here) (record {
        within = within (winner k) w.within winner_free;
        own = w.own;
        beneath = λ c some few e. subst (λ z. goes z (winner k) ≡ false) (sym (kept c few)) (w.beneath c some (omega arith) e);
        from = elim w.from [
          | inl e ↦ inl e
          | inr e ↦ let few = within e.0 e.2 (λ f. other (sym e.3 ∙ ap above f)) in inr (e.0, e.1, few, e.3, e.4 ∙ sym (kept e.0 few))
        ];
      })

  -- and of all but those above it
  pub ranked_but_first : (count : ℕ) (winner new : ℕ → ℕ) → IsRanked goes (count + 1) winner → ((i : ℕ) → i < count → new i ≡ winner i) → IsRankedBut goes count new (above count)
  ranked_but_first count winner new all kept = record { right = λ k lt. by k lt (tells k count) }
    where
      by : (k : ℕ) → k < count → IsAbove k count ⊎ (IsAbove k count → ⊥) → ((above count < count) × IsAbove k (above count)) ⊎ Wins goes count new k (new k)
      by k lt (inl a) = elim (above_next a) [ inl e ↦ absurd (omega (arith, e)) | inr f ↦ inl (above_below count f.0, f.1) ]
      by k lt (inr free) =
          let winner_free : winner k ≢ count = λ e. free (subst (IsAbove k) e (stands_above goes (count + 1) winner all k (omega arith))) in
          inr (right_without count winner new all kept k lt winner_free (λ e. free (higher (omega arith) (subst (IsAbove k) e itself))))
