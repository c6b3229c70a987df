-- How the uses that a map's entries stand for are looked up.
use Rattle.std.proofs.Common.{ℕ, ◌≡◌, ◌≢◌, ◌-◌, ◌<◌, suc, zero, Bool, true, false, cond, List, [], ◌∷◌, length, take, get_or, set, slice_get, Option, Some, None, is_some, refl, sym, ap, subst, ◌∙◌, arith, get_or-set_other, get_or-take, ◌++◌}
use Rattle.std.proofs.Math.Bool.{and_assoc}
use Rattle.std.proofs.lemmas.List.Quantifiers.{position-Some}
use Rattle.std.proofs.lemmas.List.{get_or-map}
use Rattle.std.specs.Cmp.{IsEquivalence, both_ways}
use Rattle.std.specs.List.{position}
use Rattle.std.specs.Map.{keys_of, lookup}
use Rattle.std.specs.Option.{option_map}
use Rattle.indexmap.specs.IndexMap.{set_value_at}
use Rattle.metatile_plan.proofs.Same.{same_meta_is, same_meta_self}
use Rattle.metatile_plan.specs.declared.metatile.MetaKey.{MetaKey}
use Rattle.metatile_plan.specs.Keys.{same_meta}
use Rattle.metatile_plan.specs.contracts.metatile.MetaKeyPartialEq.TheImpl.{eq-value as derived}
use Rattle.expiry_policy.specs.declared.held.UseTally.{UseTally}
use Rattle.expiry_policy.specs.declared.uses.Use.{Use}
use Rattle.expiry_policy.specs.Entries.{as_use, nothing, use_at, uses_of}
use Rattle.expiry_policy.specs.Layers.{use_in}
use Rattle.expiry_policy.specs.Victims.{is_of}
use Rattle.expiry_policy.proofs.Finds.{find_passes}

abbrev Entries : Type 0
Entries = List (MetaKey × UseTally)

-- KEYS

pub same_meta_turned : (a b : MetaKey) → same_meta a b ≡ same_meta b a
same_meta_turned a b = both_ways (same_meta a b) (same_meta b a)
    (λ h. subst (λ k. same_meta k a ≡ true) (same_meta_is a b h) (same_meta_self a))
    (λ h. subst (λ k. same_meta k b ≡ true) (same_meta_is b a h) (same_meta_self b))

pub same_meta_laws : IsEquivalence same_meta
same_meta_laws = record { refl = same_meta_self; symm = same_meta_turned; congr = λ a b c h. ap (λ k. same_meta k c) (same_meta_is a b h) }

-- a use is found under its own key
pub meta_of_use : (m : MetaKey) (us : List Use) (u : Use) → use_in us m ≡ Some u → u.meta ≡ m
meta_of_use m us u e = same_meta_is u.meta m (find_passes (is_of m) us u e)

-- the derived test of two keys is this one
pub derived_same : (a b : MetaKey) → derived.it a b ≡ same_meta a b
derived_same a b = simp and_assoc

pub derived_is : derived.it ≡ same_meta
derived_is = λ i a b. derived_same a b i

-- LOOKING UP

pub use_in-lookup : (m : MetaKey) (es : Entries) → use_in (uses_of es) m ≡ option_map (λ t. as_use (m, t)) (lookup (same_meta m) es)
use_in-lookup m [] = refl
use_in-lookup m (e ∷ es) = ap (λ b. cond b (Some (as_use e)) (use_in (uses_of es) m)) (same_meta_turned e.0 m) ∙ by (same_meta m e.0) refl (use_in-lookup m es)
  where
    by : (b : Bool) → same_meta m e.0 ≡ b → use_in (uses_of es) m ≡ option_map (λ t. as_use (m, t)) (lookup (same_meta m) es)
        → cond b (Some (as_use e)) (use_in (uses_of es) m) ≡ option_map (λ t. as_use (m, t)) (cond b (Some e.1) (lookup (same_meta m) es))
    by true is rest = λ i. Some (as_use (sym (same_meta_is m e.0 is) i, e.1))
    by false is rest = rest

is_some-map : {X Y : Type 0} (f : X → Y) (o : Option X) → is_some (option_map f o) ≡ is_some o
is_some-map f None = refl
is_some-map f (Some x) = refl

pub is_some-use_in : (m : MetaKey) (es : Entries) → is_some (use_in (uses_of es) m) ≡ is_some (lookup (same_meta m) es)
is_some-use_in m es = ap is_some (use_in-lookup m es) ∙ is_some-map (λ t. as_use (m, t)) (lookup (same_meta m) es)

-- a key that has no use is not looked up
pub absent_lookup : (m : MetaKey) (es : Entries) → use_in (uses_of es) m ≡ None → lookup (same_meta m) es ≡ None
absent_lookup m es e = by (lookup (same_meta m) es) (sym (use_in-lookup m es) ∙ e)
  where
    by : (o : Option UseTally) → option_map (λ t. as_use (m, t)) o ≡ None → o ≡ None
    by None e = refl
    by (Some t) e = absurd (cc)

-- the use that the key of an entry is found to have
pub found_use : (m : MetaKey) (t : UseTally) (es : Entries) → lookup (same_meta m) es ≡ Some t → use_in (uses_of es) m ≡ Some (as_use (m, t))
found_use m t es e = use_in-lookup m es ∙ ap (option_map (λ t. as_use (m, t))) e

pub absent_use : (m : MetaKey) (es : Entries) → lookup (same_meta m) es ≡ None → use_in (uses_of es) m ≡ None
absent_use m es e = use_in-lookup m es ∙ ap (option_map (λ t. as_use (m, t))) e

-- what is found stands at an index
pub found_at : (m : MetaKey) (es : Entries) (u : Use) → use_in (uses_of es) m ≡ Some u → (i : ℕ) × (i < length es) × (use_at es i ≡ u)
unfolding use_at
found_at m [] u e = absurd (cc)
found_at m (x ∷ es) u e = by (is_of m (as_use x)) e (found_at m es u)
  where
    by : (b : Bool) → cond b (Some (as_use x)) (use_in (uses_of es) m) ≡ Some u → (use_in (uses_of es) m ≡ Some u → (i : ℕ) × (i < length es) × (use_at es i ≡ u))
        → (i : ℕ) × (i < length (x ∷ es)) × (use_at (x ∷ es) i ≡ u)
    by true e rest = let same : as_use x ≡ u = cc in (zero, omega arith, same)
    by false e rest = let r = rest e in (suc r.0, let lt = r.1 in omega arith, r.2)

-- ENTRIES BY INDEX

pub get_or-slice_get : {X : Type 0} (xs : List X) (i : ℕ) (x d : X) → slice_get xs i ≡ Some x → get_or xs i d ≡ x
get_or-slice_get [] i x d e = absurd (cc)
get_or-slice_get (y ∷ ys) zero x d e = cc
get_or-slice_get (y ∷ ys) (suc i) x d e = get_or-slice_get ys i x d e

pub slice_get-get_or : {X : Type 0} (xs : List X) (i : ℕ) (d : X) → i < length xs → slice_get xs i ≡ Some (get_or xs i d)
slice_get-get_or [] i d h = absurd (omega arith)
slice_get-get_or (y ∷ ys) zero d h = refl
slice_get-get_or (y ∷ ys) (suc i) d h = slice_get-get_or ys i d (omega arith)

pub use_at-entry : (es : Entries) (i : ℕ) (e : MetaKey × UseTally) → slice_get es i ≡ Some e → use_at es i ≡ as_use e
unfolding use_at
use_at-entry es i e at = ap as_use (get_or-slice_get es i e nothing at)

-- the entry at an index has the key of its use
pub entry_at_use : (es : Entries) (i : ℕ) → i < length es → (t : UseTally) × (slice_get es i ≡ Some ((use_at es i).meta, t))
unfolding use_at
entry_at_use es i h = ((get_or es i nothing).1, slice_get-get_or es i nothing h)

pub meta_at_position : (m : MetaKey) (es : Entries) (i : ℕ) → position (same_meta m) (keys_of es) ≡ Some i → (i < length es) × ((use_at es i).meta ≡ m)
unfolding use_at
meta_at_position m es i e =
    let p = position-Some (same_meta m) (keys_of es) i nothing.0 e in
    let lt : i < length es = omega (arith, p.0, length-keys es) in
    (lt, sym (same_meta_is m _ (ap (same_meta m) (sym (get_or-map (λ e. e.0) es i nothing nothing.0 lt)) ∙ p.1)))
  where
    length-keys : (es : Entries) → length (keys_of es) ≡ length es
    length-keys [] = refl
    length-keys (e ∷ es) = ap suc (length-keys es)

-- AFTER A CHANGE

pub use_at-set_value : (es : Entries) (at i : ℕ) (w : UseTally) → i ≢ at → use_at (set_value_at es at w) i ≡ use_at es i
unfolding use_at
use_at-set_value [] at i w n = refl
use_at-set_value (e ∷ es) zero zero w n = absurd (n refl)
use_at-set_value (e ∷ es) zero (suc i) w n = refl
use_at-set_value (e ∷ es) (suc at) zero w n = refl
use_at-set_value (e ∷ es) (suc at) (suc i) w n = use_at-set_value es at i w (λ e. n (ap suc e))

pub use_at-push : (es : Entries) (e : MetaKey × UseTally) (i : ℕ) → i < length es → use_at (es ++ e ∷ []) i ≡ use_at es i
unfolding use_at
use_at-push [] e i h = absurd (omega arith)
use_at-push (x ∷ xs) e zero h = refl
use_at-push (x ∷ xs) e (suc i) h = use_at-push xs e i (omega arith)

pub use_at-swap_remove : (es : Entries) (at i : ℕ) (d : MetaKey × UseTally) → i < length es - 1 → i ≢ at → use_at (take (length es - 1) (set es at (get_or es (length es - 1) d))) i ≡ use_at es i
unfolding use_at
use_at-swap_remove es at i d h n = ap as_use (get_or-take (length es - 1) (set es at (get_or es (length es - 1) d)) i nothing h ∙ get_or-set_other es at i (get_or es (length es - 1) d) nothing n)

-- the use of each key, where one key has another tally or none
pub use_in-updated : (m k : MetaKey) (es later : Entries) (w : Option UseTally) → lookup (same_meta m) later ≡ cond (same_meta k m) w (lookup (same_meta m) es)
    → use_in (uses_of later) m ≡ cond (same_meta m k) (option_map (λ t. as_use (k, t)) w) (use_in (uses_of es) m)
use_in-updated m k es later w e =
    use_in-lookup m later ∙ ap (option_map (λ t. as_use (m, t))) (e ∙ ap (λ b. cond b w (lookup (same_meta m) es)) (same_meta_turned k m)) ∙ by (same_meta m k) refl
  where
    by : (b : Bool) → same_meta m k ≡ b → option_map (λ t. as_use (m, t)) (cond b w (lookup (same_meta m) es)) ≡ cond b (option_map (λ t. as_use (k, t)) w) (use_in (uses_of es) m)
    by true is = λ i. option_map (λ t. as_use (same_meta_is m k is i, t)) w
    by false is = sym (use_in-lookup m es)
