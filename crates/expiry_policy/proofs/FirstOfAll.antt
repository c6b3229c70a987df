-- The first use among all layers, by one layer after the other.
use Rattle.std.proofs.Common.{ℕ, ◌≡◌, ◌+◌, ◌≤◌, Bool, true, false, cond, nat_lt, List, length, slice_get, Option, None, Some, IfSome, refl, sym, ap, ◌∙◌, arith, option_and_then, ◌⊎◌, inl, inr}
use borrow.Author.Tests.{ltb-true, ltb-false, lt-ltb}
use Rattle.std.proofs.lemmas.Option.{slice_get_past}
use Rattle.metatile_plan.specs.declared.metatile.MetaKey.{MetaKey}
use Rattle.expiry_policy.specs.declared.order.Order.{Order}
use Rattle.expiry_policy.specs.declared.uses.Use.{Use}
use Rattle.expiry_policy.specs.Layers.{OfLayer, use_among, use_in}
use Rattle.expiry_policy.specs.Orders.{IsFirst, precedes, sooner}
use Rattle.expiry_policy.proofs.Rankings.{precedes_one_way, precedes_through}

-- the key is of one of the first so many layers
abbrev pub is_below : ℕ → MetaKey → Bool
is_below i m = nat_lt m.theme.layer i

-- a number below the next one is below this one or is it
below_or_at : (n i : ℕ) → nat_lt n (i + 1) ≡ true → (b : Bool) → nat_lt n i ≡ b → ((b ≡ true) × (nat_lt n i ≡ true)) ⊎ (n ≡ i)
below_or_at n i h true e = inl (refl, e)
below_or_at n i h false e = let low = ltb-true n (i + 1) h in let high = ltb-false n i e in inr (omega arith)

module _ (o : Order) (uses : MetaKey → Option Use) (layer : MetaKey → Option Use) (i : ℕ) (here : (n : MetaKey) → n.theme.layer ≡ i → uses n ≡ layer n) where
  -- what is known of each key below the next number: it is of the layers before, or of the layer
  both_ways : {P : Type 0} (n : MetaKey) → is_below (i + 1) n ≡ true → (is_below i n ≡ true → P) → (n.theme.layer ≡ i → P) → P
  both_ways n h before at = elim (below_or_at n.theme.layer i h (nat_lt n.theme.layer i) refl) [ inl k ↦ before k.1 | inr e ↦ at e ]

  below_next : (n : ℕ) → nat_lt n i ≡ true → nat_lt n (i + 1) ≡ true
  below_next n h = let low = ltb-true n i h in lt-ltb n (i + 1) (omega arith)

  at_next : (n : ℕ) → n ≡ i → nat_lt n (i + 1) ≡ true
  at_next n e = lt-ltb n (i + 1) (omega arith)

  -- the sooner of the first of the layers before and the first of the layer
  pub first_more : (first next : Option Use) → IsFirst o (is_below i) uses first → IsFirst o (λ _. true) layer next → IfSome next (λ u. u.meta.theme.layer ≡ i) → IsFirst o (is_below (i + 1)) uses (sooner o first next)
  first_more None None none empty at = λ n h. both_ways n h (none n) (λ e. here n e ∙ empty n refl)
  first_more None (Some v) none leads at = record {
    held = here v.meta at ∙ leads.held;
    tested = at_next v.meta.theme.layer at;
    before = λ n w h e. both_ways n h (λ k. absurd (none_some (sym (none n k) ∙ e))) (λ f. leads.before n w refl (sym (here n f) ∙ e));
  }
    where
      none_some : {w : Use} → None ≡ Some w → ⊥
      none_some e = cc
  first_more (Some u) None leads empty at = record {
    held = leads.held;
    tested = below_next u.meta.theme.layer leads.tested;
    before = λ n w h e. both_ways n h (λ k. leads.before n w k e) (λ f. absurd (none_some (sym (empty n refl) ∙ sym (here n f) ∙ e)));
  }
    where
      none_some : {w : Use} → None ≡ Some w → ⊥
      none_some e = cc
  first_more (Some u) (Some v) early late at = by (precedes o v u) refl
    where
      by : (b : Bool) → precedes o v u ≡ b → IsFirst o (is_below (i + 1)) uses (cond b (Some v) (Some u))
      by true e = record {
        held = here v.meta at ∙ late.held;
        tested = at_next v.meta.theme.layer at;
        before = λ n w h is. both_ways n h (λ k. precedes_through o v u w (precedes_one_way o v u e) (early.before n w k is)) (λ f. late.before n w refl (sym (here n f) ∙ is));
      }
      by false e = record {
        held = early.held;
        tested = below_next u.meta.theme.layer early.tested;
        before = λ n w h is. both_ways n h (λ k. early.before n w k is) (λ f. precedes_through o u v w e (late.before n w refl (sym (here n f) ∙ is)));
      }

-- a test that more keys pass, none of which is held
pub wider_first : (o : Order) (test wider : MetaKey → Bool) (uses : MetaKey → Option Use) → ((n : MetaKey) → test n ≡ true → wider n ≡ true) → ((n : MetaKey) → wider n ≡ true → test n ≡ false → uses n ≡ None)
    → (first : Option Use) → IsFirst o test uses first → IsFirst o wider uses first
wider_first o test wider uses more bare None none = λ n h. by n h (test n) refl
  where
    by : (n : MetaKey) → wider n ≡ true → (b : Bool) → test n ≡ b → uses n ≡ None
    by n h true e = none n e
    by n h false e = bare n h e
wider_first o test wider uses more bare (Some u) leads = record { held = leads.held; tested = more u.meta leads.tested; before = λ n v h e. by n v h e (test n) refl }
  where
    none_some : {w : Use} → None ≡ Some w → ⊥
    none_some e = cc

    by : (n : MetaKey) (v : Use) → wider n ≡ true → uses n ≡ Some v → (b : Bool) → test n ≡ b → precedes o v u ≡ false
    by n v h e true t = leads.before n v t e
    by n v h e false t = absurd (none_some (sym (bare n h t) ∙ e))

-- all layers
pub first_of_layers : (o : Order) (layers : List OfLayer) (count : ℕ) (first : Option Use) → length layers ≤ count → IsFirst o (is_below count) (use_among layers) first → IsFirst o (λ _. true) (use_among layers) first
first_of_layers o layers count first all is =
    wider_first o (is_below count) (λ _. true) (use_among layers) (λ n h. refl)
    (λ n h e. let past = ltb-false n.theme.layer count e in ap (option_and_then (λ (l : OfLayer). use_in l.uses n)) (slice_get_past layers n.theme.layer (omega arith))) first is

-- before any layer
pub first_of_none : (o : Order) (uses : MetaKey → Option Use) → IsFirst o (is_below 0) uses None
first_of_none o uses = λ n h. let low = ltb-true n.theme.layer 0 h in absurd (omega arith)

-- the layer of a key
pub use_of_layer : (layers : List OfLayer) (l : OfLayer) (m : MetaKey) (i : ℕ) → slice_get layers i ≡ Some l → m.theme.layer ≡ i → use_among layers m ≡ use_in l.uses m
use_of_layer layers l m i at e = ap (option_and_then (λ (k : OfLayer). use_in k.uses m)) (ap (slice_get layers) e ∙ at)
