-- How far a change of an entry is settled by climbing: up to the first node that keeps its winner, where that is another entry.
use Rattle.std.proofs.Common.{ℕ, ◌≡◌, ◌≢◌, ◌+◌, ◌-◌, ◌<◌, ◌⊎◌, inl, inr, Bool, refl, sym, ap, subst, ◌∙◌, arith, List, length, slice_index, slice_set, get_or-set_same, get_or-set_other, length-set, length-append, length-take-le, take, get_or-take, [], ◌∷◌, ◌++◌}
use Rattle.std.proofs.lemmas.List.{get_or_append_left, get_or_push}
use Rattle.expiry_policy.specs.Tournaments.{above, IsAbove, itself, higher, Wins, IsRanked, IsRankedUpTo}
use Rattle.expiry_policy.proofs.Winners.{above_above, above_below, above_least, above_next, ranked_but_changed, ranked_but_first, ranked_but_last, right_before, right_elsewhere, right_without, settled_all, settled_more, stands_above}

-- of the nodes right beneath one, only one stands above a node
one_beneath : {c d k : ℕ} → IsAbove c k → IsAbove d k → 0 < c → 0 < d → above c ≡ above d → c ≡ d
one_beneath {c} {d} itself b some more e = elim (above_next b) [
  | inl f ↦ sym f
  | inr f ↦ let low = above_least f.1 in let less = above_below d more in absurd (omega (arith, e))
]
one_beneath {c} {d} (higher h a) b some more e = elim (above_next b) [
  | inl f ↦ let low = above_least a in let less = above_below c some in absurd (omega (arith, e, f))
  | inr f ↦ one_beneath a f.1 some more e
]

-- the winners of a node and of those right beneath it are other entries than this one
record IsFree (count : ℕ) (winner : ℕ → ℕ) (entry k : ℕ) : Type 0 where
  own : winner k ≢ entry
  beneath : (c : ℕ) → 0 < c → c < count → above c ≡ k → winner c ≢ entry

module _ (goes : ℕ → ℕ → Bool) where
  -- where a node that stands above an entry has another winner, so has the node right above, and all that are right beneath that one
  free_above : (count : ℕ) (winner : ℕ → ℕ) (entry c : ℕ) → IsRanked goes count winner → 0 < c → c < count → IsAbove c entry → winner c ≢ entry → IsFree count winner entry (above c)
  free_above count winner entry c all some few a other = record { own = own; beneath = beneath }
    where
      beneath : (d : ℕ) → 0 < d → d < count → above d ≡ above c → winner d ≢ entry
      beneath d more small is e = other (subst (λ z. winner z ≡ entry) (one_beneath (subst (IsAbove d) e (stands_above goes count winner all d small)) a more some is) e)

      less : above c < c
      less = above_below c some

      own : winner (above c) ≢ entry
      own e = let low = above_least a in elim (all.right (above c) (omega arith)).from [ inl f ↦ absurd (omega (arith, e, f)) | inr f ↦ beneath f.0 f.1 f.2 f.3 (sym f.4 ∙ e) ]

  -- A CLIMB

  -- where the winner of a node was found anew, and is the one that stood there and not the changed entry, all are right
  pub settled_early : (count : ℕ) (winner : ℕ → ℕ) (changed at : ℕ) → at < count → IsRankedUpTo goes count winner changed at → Wins goes count winner at (winner at) → winner at ≢ changed → IsRanked goes count winner
  settled_early count winner changed at lt known w other = record { right = λ k few. elim (known.but.right k few) [ inl h ↦ climb h.1 itself lt other w | inr v ↦ v ] }
    where
      climb : {k c : ℕ} → IsAbove k c → IsAbove c at → c < count → winner c ≢ changed → Wins goes count winner c (winner c) → Wins goes count winner k (winner k)
      climb itself b few other w = w
      climb {k} {c} (higher some a) b few other w = let next = known.stays c some few b other in let less = above_below c some in climb a (above_above b some) (omega arith) next.0 next.1

  -- else the nodes above are left
  settled_up_to : (count : ℕ) (winner new : ℕ → ℕ) (changed at x : ℕ) → at < count → IsRankedUpTo goes count winner changed at → new at ≡ x → ((i : ℕ) → i ≢ at → new i ≡ winner i) → Wins goes count winner at x → 0 < at → IsRankedUpTo goes count new changed (above at)
  settled_up_to count winner new changed at x lt known is same w some = record { but = settled_more goes count winner new at x lt known.but is same w some; stays = stays }
    where
      stays : (c : ℕ) → 0 < c → c < count → IsAbove c (above at) → new c ≢ changed → (new (above c) ≢ changed) × Wins goes count new (above c) (new (above c))
      stays c more few a other =
          let low = above_least a in
          let less = above_below at some in
          let lesser = above_below c more in
          let c_other : c ≢ at = λ e. absurd (omega (arith, e)) in
          let up_other : above c ≢ at = λ e. absurd (omega (arith, e)) in
          let old = known.stays c more few (higher some a) (λ e. other (same c c_other ∙ e)) in (
            λ e. old.0 (sym (same (above c) up_other) ∙ e),
            right_elsewhere goes count winner new at (above c) up_other (λ _ e. absurd (omega (arith, e))) same old.1,
          )

  -- THE SAME ON LISTS

  module _ (ws : List ℕ) (changed at x : ℕ) (lt : at < length ws) (known : IsRankedUpTo goes (length ws) (slice_index ws) changed at) (w : Wins goes (length ws) (slice_index ws) at x) where
    set_here : slice_index (slice_set ws at x) at ≡ x
    set_here = get_or-set_same ws at x 0 lt

    set_elsewhere : (i : ℕ) → i ≢ at → slice_index (slice_set ws at x) i ≡ slice_index ws i
    set_elsewhere i n = get_or-set_other ws at i x 0 n

    pub set_none : x ≡ slice_index ws at → x ≢ changed → IsRanked goes (length ws) (slice_index ws)
    set_none stood other = settled_early (length ws) (slice_index ws) changed at lt known (subst (Wins goes (length ws) (slice_index ws) at) stood w) (λ e. other (stood ∙ e))

    pub set_all : at ≡ 0 → IsRanked goes (length (slice_set ws at x)) (slice_index (slice_set ws at x))
    set_all last = subst (λ n. IsRanked goes n (slice_index (slice_set ws at x))) (sym (length-set ws at x)) (settled_all goes (length ws) (slice_index ws) (slice_index (slice_set ws at x)) at x known.but set_here set_elsewhere w last)

    pub set_more : 0 < at → (above at < length (slice_set ws at x)) × IsRankedUpTo goes (length (slice_set ws at x)) (slice_index (slice_set ws at x)) changed (above at)
    set_more some =
        let less = above_below at some in (
          subst (λ n. above at < n) (sym (length-set ws at x)) (omega arith),
          subst (λ n. IsRankedUpTo goes n (slice_index (slice_set ws at x)) changed (above at)) (sym (length-set ws at x)) (settled_up_to (length ws) (slice_index ws) (slice_index (slice_set ws at x)) changed at x lt known set_here set_elsewhere w some),
        )

  -- WHERE A CLIMB BEGINS

  -- one entry more is the last
  pushed : (count : ℕ) (winner new : ℕ → ℕ) → IsRanked goes count winner → ((i : ℕ) → i < count → new i ≡ winner i) → new count ≡ count → IsRankedUpTo goes (count + 1) new count count
  pushed count winner new all kept last = record { but = ranked_but_last goes goes count winner new all (λ i j h k. refl) kept; stays = λ c some few a other. by c some (above_next a) other }
    where
      by : (c : ℕ) → 0 < c → (c ≡ count) ⊎ ((0 < count) × IsAbove c (above count)) → new c ≢ count → (new (above c) ≢ count) × Wins goes (count + 1) new (above c) (new (above c))
      by c some (inl e) other = absurd (other (ap new e ∙ last))
      by c some (inr f) other =
          let low = above_least f.1 in
          let less = above_below c some in
          let top = above_below count f.0 in
          let few : above c < count = omega arith in
          let small = (all.right (above c) few).within in
          let here = kept (above c) few in
          (λ e. absurd (omega (arith, here, e)), right_before goes goes count winner new all (λ i j h k. refl) kept (above c) few (λ e. absurd (omega (arith, e))))

  -- the last entry is left out
  popped : (count : ℕ) (winner new : ℕ → ℕ) → IsRanked goes (count + 1) winner → ((i : ℕ) → i < count → new i ≡ winner i) → IsRankedUpTo goes count new count (above count)
  popped count winner new all kept = record { but = ranked_but_first goes count winner new all kept; stays = stays }
    where
      stays : (c : ℕ) → 0 < c → c < count → IsAbove c (above count) → new c ≢ count → (new (above c) ≢ count) × Wins goes count new (above c) (new (above c))
      stays c some few a other =
          let free = free_above (count + 1) winner count c all some (omega arith) (higher (omega arith) a) (λ e. other (kept c few ∙ e)) in
          let low = above_least a in
          let less = above_below c some in
          let small : above c < count = omega arith in
          (λ e. free.own (sym (kept (above c) small) ∙ e), right_without goes count winner new all kept (above c) small free.own (λ e. absurd (omega (arith, e))))

  -- the same on lists
  pub list_popped : (ws vs : List ℕ) (n : ℕ) → n ≡ length ws → 0 < n → vs ≡ take (n - 1) ws → IsRanked goes (length ws) (slice_index ws) → IsRankedUpTo goes (length vs) (slice_index vs) (length vs) (above (length vs))
  list_popped ws vs n size some is all =
      let few : length vs ≡ n - 1 = ap length is ∙ length-take-le (n - 1) ws (omega arith) in
      let more : length ws ≡ length vs + 1 = omega arith in
      popped (length vs) (slice_index ws) (slice_index vs) (subst (λ k. IsRanked goes k (slice_index ws)) more all)
      (λ i lt. ap (λ zs. slice_index zs i) is ∙ get_or-take (n - 1) ws i 0 (omega arith))

  pub list_pushed : (ws vs : List ℕ) (n : ℕ) → n ≡ length ws → vs ≡ ws ++ n ∷ [] → IsRanked goes (length ws) (slice_index ws) → IsRankedUpTo goes (length vs) (slice_index vs) n n
  list_pushed ws vs n size is all =
      let more : length vs ≡ length ws + 1 = ap length is ∙ length-append ws (n ∷ []) in
      let last : slice_index vs (length ws) ≡ length ws = ap (λ zs. slice_index zs (length ws)) is ∙ get_or_push ws n 0 (length ws) refl ∙ size in
      subst (λ k. IsRankedUpTo goes (length vs) (slice_index vs) k k) (sym size) (subst (λ k. IsRankedUpTo goes k (slice_index vs) (length ws) (length ws)) (sym more)
      (pushed (length ws) (slice_index ws) (slice_index vs) all (λ i lt. ap (λ zs. slice_index zs i) is ∙ get_or_append_left ws (n ∷ []) 0 i lt) last))

module _ (goes later : ℕ → ℕ → Bool) where
  -- the entry at an index changes, which may be past the last one
  pub changed_up_to : (count : ℕ) (winner : ℕ → ℕ) (at : ℕ) → IsRanked goes count winner → ((i j : ℕ) → i < count → j < count → i ≢ at → j ≢ at → later i j ≡ goes i j) → IsRankedUpTo later count winner at at
  changed_up_to count winner at all same = record { but = ranked_but_changed goes later count winner at all same; stays = stays }
    where
      stays : (c : ℕ) → 0 < c → c < count → IsAbove c at → winner c ≢ at → (winner (above c) ≢ at) × Wins later count winner (above c) (winner (above c))
      stays c some few a other =
          let free = free_above goes count winner at c all some few a other in
          let low = above_least a in
          let less = above_below c some in
          let small : above c < count = omega arith in
          let up_other : above c ≢ at = λ e. absurd (omega (arith, e)) in
          let w = all.right (above c) small in (
            free.own,
            record {
              within = w.within;
              own = same (above c) (winner (above c)) small w.within up_other free.own ∙ w.own;
              beneath = λ d more few_d is. same (winner d) (winner (above c)) (all.right d few_d).within w.within (free.beneath d more few_d is) free.own ∙ w.beneath d more few_d is;
              from = w.from;
            },
          )
