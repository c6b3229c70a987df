-- The uses of all layers together.
use Rattle.std.proofs.Common.{ℕ, ◌≡◌, ◌≢◌, ◌<◌, ◌≤◌, ◌⊎◌, ◌==◌, inl, inr, eqb, Bool, true, false, cond, List, ◌∷◌, length, map, find, set, slice_get, Option, None, Some, IfSome, IsSome, option_and_then, refl, sym, ap, subst, ◌∙◌, arith, eq-eqb}
use borrow.Author.Tests.{eqb-true}
use Rattle.std.proofs.lemmas.Bool.Decides.{eqb_tells}
use Rattle.std.proofs.lemmas.Option.{slice_get-map, slice_get_past, slice_get_within}
use Rattle.std.specs.Cmp.Lexicographic.{slice_cmp}
use Rattle.std.specs.Option.{option_map}
use Rattle.std.specs.Ordering.{is_lt, nat_cmp}
use Rattle.catalog.specs.declared.catalogue.Policy.{Policy}
use Rattle.catalog.specs.declared.catalogue.Scope.{Scope}
use Rattle.catalog.specs.Scopes.{is_in}
use Rattle.metatile_plan.proofs.Same.{same_meta_is}
use Rattle.metatile_plan.specs.declared.metatile.MetaKey.{MetaKey}
use Rattle.metatile_plan.specs.Keys.{same_meta}
use Rattle.expiry_policy.specs.declared.order.Order.{Order}
use Rattle.expiry_policy.specs.declared.order.Ranking.TheVariants.{Expiry, Unsaved}
use Rattle.expiry_policy.specs.declared.uses.Use.{Use}
use Rattle.expiry_policy.specs.Layers.{AreBare, AreLayers, MayGrow, OfLayer, use_among, use_in}
use Rattle.expiry_policy.specs.Orders.{IsFirst, precedes, unsaved_key}
use Rattle.expiry_policy.specs.Victims.{IsUnsaved, IsVictim, fields, is_of}
use Rattle.expiry_policy.proofs.AllLayers.{slice_get-set_other, slice_get-set_same}
use Rattle.expiry_policy.proofs.FirstOfAll.{use_of_layer}
use Rattle.expiry_policy.proofs.Lookups.{meta_of_use}

none_some : {w : Use} → None ≡ Some w → ⊥
none_some e = cc

-- LOOKING UP

-- how a metatile was used, by the uses of each layer
abbrev pub found_in : List (List Use) → MetaKey → Option Use
found_in uses m = option_and_then (find (is_of m)) (slice_get uses m.theme.layer)

pub found_among : (layers : List OfLayer) (m : MetaKey) → found_in (map (λ l. l.uses) layers) m ≡ use_among layers m
found_among layers m = ap (option_and_then (find (is_of m))) (slice_get-map (λ (l : OfLayer). l.uses) layers m.theme.layer) ∙ by (slice_get layers m.theme.layer)
  where
    by : (o : Option OfLayer) → option_and_then (find (is_of m)) (option_map (λ (l : OfLayer). l.uses) o) ≡ option_and_then (λ (l : OfLayer). use_in l.uses m) o
    by None = refl
    by (Some l) = refl

meta_among : (layers : List OfLayer) (m : MetaKey) (u : Use) → use_among layers m ≡ Some u → u.meta ≡ m
meta_among layers m u e = by (slice_get layers m.theme.layer) e
  where
    by : (o : Option OfLayer) → option_and_then (λ (l : OfLayer). use_in l.uses m) o ≡ Some u → u.meta ≡ m
    by None f = absurd (none_some f)
    by (Some l) f = meta_of_use m l.uses u f

-- nothing is held of bare layers
pub bare_among : (p : Policy) (count : ℕ) (layers : List OfLayer) → AreBare p count layers → (m : MetaKey) → use_among layers m ≡ None
bare_among p count layers bare m = by (slice_get layers m.theme.layer) refl
  where
    by : (o : Option OfLayer) → slice_get layers m.theme.layer ≡ o → option_and_then (λ (l : OfLayer). use_in l.uses m) o ≡ None
    by None e = refl
    by (Some l) e = ap (λ us. use_in us m) (bare.bare m.theme.layer l e)

-- more room leaves the uses
pub grown_among : (old new : List OfLayer) → ((i : ℕ) → MayGrow (slice_get old i) (slice_get new i)) → (m : MetaKey) → use_among new m ≡ use_among old m
grown_among old new grown m = by (slice_get old m.theme.layer) (slice_get new m.theme.layer) (grown m.theme.layer)
  where
    by : (o n : Option OfLayer) → MayGrow o n → option_and_then (λ (l : OfLayer). use_in l.uses m) n ≡ option_and_then (λ (l : OfLayer). use_in l.uses m) o
    by None None g = refl
    by None (Some l) g = absurd g
    by (Some k) None g = absurd g
    by (Some k) (Some l) g = ap (λ us. use_in us m) g.uses

-- a held metatile is of one of the layers
pub layer_within : (layers : List OfLayer) (m : MetaKey) → IsSome (use_among layers m) → m.theme.layer < length layers
layer_within layers m held = by (slice_get layers m.theme.layer) refl held
  where
    by : (o : Option OfLayer) → slice_get layers m.theme.layer ≡ o → IsSome (option_and_then (λ (l : OfLayer). use_in l.uses m) o) → m.theme.layer < length layers
    by None e h = absurd (cc)
    by (Some l) e h = slice_get_within layers m.theme.layer l e

-- nothing is held of a layer past the last
pub past_layers : (layers : List OfLayer) (number : ℕ) → length layers ≤ number → (n : MetaKey) → (n.theme.layer == number) ≡ true → use_among layers n ≡ None
past_layers layers number past n h = let same = eqb-true n.theme.layer number h in ap (option_and_then (λ (l : OfLayer). use_in l.uses n)) (slice_get_past layers n.theme.layer (omega arith))

-- ONE LAYER CHANGES

module _ (layers : List OfLayer) (at : ℕ) (l new : OfLayer) (got : slice_get layers at ≡ Some l) (lt : at < length layers) where
  -- the use of one key of the layer is another
  pub changed_among : (k : MetaKey) (w : Option Use) → k.theme.layer ≡ at → ((m : MetaKey) → use_in new.uses m ≡ cond (same_meta m k) w (use_in l.uses m))
      → (m : MetaKey) → use_among (set layers at new) m ≡ cond (same_meta m k) w (use_among layers m)
  changed_among k w here each m = by (eqb_tells m.theme.layer at)
    where
      elsewhere : m.theme.layer ≢ at → (b : Bool) → same_meta m k ≡ b → use_among layers m ≡ cond b w (use_among layers m)
      elsewhere n true is = absurd (n (ap (λ (k : MetaKey). k.theme.layer) (same_meta_is m k is) ∙ here))
      elsewhere n false is = refl

      by : ((eqb m.theme.layer at ≡ true) × (m.theme.layer ≡ at)) ⊎ ((eqb m.theme.layer at ≡ false) × (m.theme.layer ≢ at)) → use_among (set layers at new) m ≡ cond (same_meta m k) w (use_among layers m)
      by (inl e) = use_of_layer (set layers at new) new m at (slice_get-set_same layers at new lt) e.1 ∙ each m ∙ ap (cond (same_meta m k) w) (sym (use_of_layer layers l m at got e.1))
      by (inr n) = ap (option_and_then (λ (l : OfLayer). use_in l.uses m)) (slice_get-set_other layers at m.theme.layer new n.1) ∙ elsewhere n.1 (same_meta m k) refl

  -- the layers are as they have to be still
  pub still_layers : (p : Policy) (spare less : ℕ) → AreLayers p spare layers → new.number ≡ l.number → new.policy ≡ l.policy → less ≤ new.spare → less ≤ spare → AreLayers p less (set layers at new)
  still_layers p spare less are number policy room fewer = record {
    number = λ i k e. by {P = λ k. k.number ≡ i} i k e (λ f. number ∙ are.number at l got ∙ sym f) (are.number i);
    policy = λ i k e. by {P = λ k. k.policy ≡ p} i k e (λ f. policy ∙ are.policy at l got) (are.policy i);
    room = λ i k e. by {P = λ k. less ≤ k.spare} i k e (λ f. room) (λ j f. let enough = are.room i j f in omega arith);
  }
    where
      by : {P : OfLayer → Type 0} (i : ℕ) (k : OfLayer) → slice_get (set layers at new) i ≡ Some k → (i ≡ at → P new) → ((j : OfLayer) → slice_get layers i ≡ Some j → P j) → P k
      by {P} i k e here there = elim (eqb_tells i at) [
        | inl f ↦ let same : new ≡ k = some_is (sym (slice_get-set_same layers at new lt) ∙ sym (ap (slice_get (set layers at new)) f.1) ∙ e) in subst P same (here f.1)
        | inr n ↦ there k (sym (slice_get-set_other layers at i new n.1) ∙ e)
      ]
        where
          some_is : {a b : OfLayer} → Some a ≡ Some b → a ≡ b
          some_is e = cc

-- THE VICTIM

pub victim_first : (p : Policy) (scope : Scope) (test : MetaKey → Bool) (uses : MetaKey → Option Use) → ((n : MetaKey) → is_in scope n.theme.layer ≡ test n)
    → (first : Option Use) → IsFirst (record { ranking = Expiry; policy = p }) test uses first → IsVictim p scope uses (option_map (λ u. u.meta) first)
unfolding precedes
victim_first p scope test uses same None none = λ n h. none n (sym (same n) ∙ h)
victim_first p scope test uses same (Some u) leads = (u, record { held = leads.held; scoped = same u.meta ∙ leads.tested; before = λ n v e h. leads.before n v (sym (same n) ∙ h) e })

-- the first of one layer is the first of its keys among all
pub layer_first : (o : Order) (layers : List OfLayer) (number : ℕ) (l : OfLayer) (first : Option Use) → slice_get layers number ≡ Some l → l.number ≡ number → IsFirst o (λ _. true) (use_in l.uses) first
    → IfSome first (λ u. u.meta.theme.layer ≡ l.number) → IsFirst o (λ n. n.theme.layer == number) (use_among layers) first
layer_first o layers number l None got is none at = λ n h. use_of_layer layers l n number got (eqb-true n.theme.layer number h) ∙ none n refl
layer_first o layers number l (Some u) got is leads at = record {
  held = use_of_layer layers l u.meta number got (at ∙ is) ∙ leads.held;
  tested = eq-eqb u.meta.theme.layer number (at ∙ is);
  before = λ n v h e. leads.before n v refl (sym (use_of_layer layers l n number got (eqb-true n.theme.layer number h)) ∙ e);
}

-- WHAT IS TO BE SAVED

-- of an unsaved use and a saved one, the first goes before
unsaved_precedes : (p : Policy) (v u : Use) → (v.uses == v.saved) ≡ false → (u.uses == u.saved) ≡ true → precedes (record { ranking = Unsaved; policy = p }) v u ≡ true
unfolding precedes
unsaved_precedes p v u e f = λ i. is_lt (slice_cmp nat_cmp (cond (e i) 1 0 ∷ fields v.meta) (cond (f i) 1 0 ∷ fields u.meta))

-- two unsaved uses go by their keys
unsaved_by_keys : (p : Policy) (v u : Use) → (v.uses == v.saved) ≡ false → (u.uses == u.saved) ≡ false → precedes (record { ranking = Unsaved; policy = p }) v u ≡ is_lt (slice_cmp nat_cmp (fields v.meta) (fields u.meta))
unfolding precedes
unsaved_by_keys p v u e f = λ i. is_lt (slice_cmp nat_cmp (cond (e i) 1 0 ∷ fields v.meta) (cond (f i) 1 0 ∷ fields u.meta))

differ : (a b : ℕ) → a ≢ b → (a == b) ≡ false
differ a b n = elim (eqb_tells a b) [ inl e ↦ absurd (n e.1) | inr e ↦ e.0 ]

pub unsaved_first : (p : Policy) (uses : MetaKey → Option Use) → ((n : MetaKey) (v : Use) → uses n ≡ Some v → v.meta ≡ n)
    → (first : Option Use) → IsFirst (record { ranking = Unsaved; policy = p }) (λ _. true) uses first → IsUnsaved uses (unsaved_key first)
unsaved_first p uses meta None none = λ n v e. absurd (none_some (sym (none n refl) ∙ e))
unsaved_first p uses meta (Some u) leads = by (u.uses == u.saved) refl
  where
    by : (b : Bool) → (u.uses == u.saved) ≡ b → IsUnsaved uses (cond b None (Some u.meta))
    by true saved = λ n v e. elim (eqb_tells v.uses v.saved) [
      | inl f ↦ f.1
      | inr f ↦ let no_later = leads.before n v refl e in let before = unsaved_precedes p v u f.0 saved in absurd (cc)
    ]
    by false open_ = (
      u,
      record {
        held = leads.held;
        unsaved = λ same. let saved = eq-eqb u.uses u.saved same in absurd (cc);
        least = λ n v e f. subst (λ k. is_lt (slice_cmp nat_cmp (fields k) (fields u.meta)) ≡ false) (meta n v e) (sym (unsaved_by_keys p v u (differ v.uses v.saved f) open_) ∙ leads.before n v refl e);
      },
    )

pub unsaved_among : (p : Policy) (layers : List OfLayer) (first : Option Use) → IsFirst (record { ranking = Unsaved; policy = p }) (λ _. true) (use_among layers) first → IsUnsaved (use_among layers) (unsaved_key first)
unsaved_among p layers first is = unsaved_first p (use_among layers) (meta_among layers) first is
