-- How a layer's uses and their tournaments go through a change of its entries.
use Rattle.std.proofs.Common.{ℕ, ◌≡◌, ◌≢◌, ◌<◌, Bool, true, false, cond, List, length, slice_index, slice_get, Option, None, Some, refl, sym, ap, subst, ◌∙◌}
use Rattle.metatile_plan.proofs.Same.{same_meta_is}
use Rattle.metatile_plan.specs.declared.metatile.MetaKey.{MetaKey}
use Rattle.metatile_plan.specs.Keys.{same_meta}
use Rattle.expiry_policy.specs.declared.held.UseTally.{UseTally}
use Rattle.expiry_policy.specs.declared.order.Order.{Order}
use Rattle.expiry_policy.specs.declared.order.Ranking.{Ranking}
use Rattle.expiry_policy.specs.declared.uses.Use.{Use}
use Rattle.expiry_policy.specs.Entries.{goes, use_at, uses_of}
use Rattle.expiry_policy.specs.Layers.{use_in}
use Rattle.expiry_policy.specs.Orders.{Leads, precedes}
use Rattle.expiry_policy.specs.Tournaments.{IsRanked, IsRankedUpTo}
use Rattle.expiry_policy.proofs.Climbs.{changed_up_to}
use Rattle.expiry_policy.proofs.Lookups.{found_at, get_or-slice_get}
use Rattle.expiry_policy.proofs.Rankings.{goes_ranks}
use Rattle.expiry_policy.proofs.Winners.{first_of_ranked, ranked_alike}

module _ (o : Order) (es fs : List (MetaKey × UseTally)) where
  -- the entry at an index may have changed
  pub changed_one : (ws : List ℕ) (at : ℕ) → IsRanked (goes o es) (length ws) (slice_index ws) → ((i : ℕ) → i < length ws → i ≢ at → use_at fs i ≡ use_at es i) → IsRankedUpTo (goes o fs) (length ws) (slice_index ws) at at
  changed_one ws at all same = changed_up_to (goes o es) (goes o fs) (length ws) (slice_index ws) at all (λ i j h k n m. λ t. precedes o (same i h n t) (same j k m t))

  -- entries may have come behind
  pub ranked_before : (ws : List ℕ) → IsRanked (goes o es) (length ws) (slice_index ws) → ((i : ℕ) → i < length ws → use_at fs i ≡ use_at es i) → IsRanked (goes o fs) (length ws) (slice_index ws)
  ranked_before ws all same = ranked_alike (goes o es) (goes o fs) (length ws) (slice_index ws) all (λ i j h k. λ t. precedes o (same i h t) (same j k t))

-- keys are of the layer still, where a key of it changed
pub still_numbered : (number : ℕ) (k : MetaKey) (w : Option Use) (us vs : List Use) → ((m : MetaKey) (u : Use) → use_in us m ≡ Some u → m.theme.layer ≡ number) → k.theme.layer ≡ number
    → ((m : MetaKey) → use_in vs m ≡ cond (same_meta m k) w (use_in us m)) → (m : MetaKey) (u : Use) → use_in vs m ≡ Some u → m.theme.layer ≡ number
still_numbered number k w us vs old here each m u e = by (same_meta m k) refl (sym (each m) ∙ e)
  where
    by : (b : Bool) → same_meta m k ≡ b → cond b w (use_in us m) ≡ Some u → m.theme.layer ≡ number
    by true is _ = ap (λ (n : MetaKey). n.theme.layer) (same_meta_is m k is) ∙ here
    by false is f = old m u f

pub fewer_numbered : (number : ℕ) (k : MetaKey) (us vs : List Use) → ((m : MetaKey) (u : Use) → use_in us m ≡ Some u → m.theme.layer ≡ number)
    → ((m : MetaKey) → use_in vs m ≡ cond (same_meta m k) None (use_in us m)) → (m : MetaKey) (u : Use) → use_in vs m ≡ Some u → m.theme.layer ≡ number
fewer_numbered number k us vs old each m u e = by (same_meta m k) (sym (each m) ∙ e)
  where
    by : (b : Bool) → cond b None (use_in us m) ≡ Some u → m.theme.layer ≡ number
    by true f = absurd (cc)
    by false f = old m u f

-- the order of a tournament stays
pub still_ordered : (r : Ranking) (old new : Order) → new ≡ old → old ≡ record { policy = old.policy; ranking = r } → new ≡ record { policy = new.policy; ranking = r }
still_ordered r old new e h = subst (λ (o : Order). o ≡ record { policy = o.policy; ranking = r }) (sym e) h

-- the first winner leads
pub winner_leads : (o : Order) (es : List (MetaKey × UseTally)) (ws : List ℕ) (at : ℕ) (u : Use) → length ws ≡ length es → IsRanked (goes o es) (length ws) (slice_index ws) → slice_get ws 0 ≡ Some at
    → u ≡ use_at es at → use_in (uses_of es) u.meta ≡ Some u → Leads o (λ _. true) (use_in (uses_of es)) u
winner_leads o es ws at u size all first is found = record {
  held = found;
  tested = refl;
  before = λ n v _ e.
      let r = found_at n es v e in
      let none = first_of_ranked (goes o es) (goes_ranks o es) (length ws) (slice_index ws) all r.0 (subst (λ k. r.0 < k) (sym size) r.1) in
      let first_is = get_or-slice_get ws 0 at 0 first in
      subst (λ x. precedes o v x ≡ false) (sym is) (subst (λ x. precedes o x (use_at es at) ≡ false) r.2 (subst (λ k. goes o es r.0 k ≡ false) first_is none));
}
