-- The uses of a map's entries are each of another metatile, and all of the layer that each of them is found to be of.
use Rattle.std.proofs.Common.{ℕ, ◌≡◌, ◌≢◌, Bool, true, false, true≢false, cond, List, [], ◌∷◌, Some, refl, sym, ap, subst, ◌∙◌}
use Rattle.std.specs.List.{AllByRecursion, IsDistinct}
use Rattle.std.specs.Map.{keys_of}
use Rattle.metatile_plan.proofs.Same.{same_meta_self}
use Rattle.metatile_plan.specs.declared.metatile.MetaKey.{MetaKey}
use Rattle.metatile_plan.specs.Keys.{same_meta}
use Rattle.expiry_policy.specs.declared.held.UseTally.{UseTally}
use Rattle.expiry_policy.specs.declared.uses.Use.{Use}
use Rattle.expiry_policy.specs.Entries.{uses_of}
use Rattle.expiry_policy.specs.Layers.{use_in}
use Rattle.expiry_policy.specs.Victims.{AreApart, is_of}

differs : (m n : MetaKey) → same_meta m n ≡ false → m ≢ n
differs m n off same = absurd (true≢false (sym (subst (λ k. same_meta m k ≡ true) same (same_meta_self m)) ∙ off))

apart_from : (m : MetaKey) (es : List (MetaKey × UseTally)) → AllByRecursion (λ k. same_meta m k ≡ false) (keys_of es) → AllByRecursion (λ (u : Use). m ≢ u.meta) (uses_of es)
apart_from m [] d = tt
apart_from m (e ∷ es) d = (differs m e.0 d.0, apart_from m es d.1)

-- each metatile has one entry
pub uses_apart : (es : List (MetaKey × UseTally)) → IsDistinct same_meta (keys_of es) → AreApart (uses_of es)
unfolding IsDistinct
uses_apart [] d = tt
uses_apart (e ∷ es) d = (apart_from e.0 es d.0, uses_apart es d.1)

-- where what is found of each metatile is of a layer, all are
pub all_numbered : (number : ℕ) (us : List Use) → ((m : MetaKey) (u : Use) → use_in us m ≡ Some u → m.theme.layer ≡ number) → AllByRecursion (λ u. u.meta.theme.layer ≡ number) us
all_numbered number [] h = tt
all_numbered number (u ∷ us) h = (
  h u.meta u (ap (λ b. cond b (Some u) (use_in us u.meta)) (same_meta_self u.meta)),
  all_numbered number us (λ m v e. behind m v e (is_of m u) refl),
)
  where
    behind : (m : MetaKey) (v : Use) → use_in us m ≡ Some v → (b : Bool) → is_of m u ≡ b → m.theme.layer ≡ number
    behind m v e true is = h m u (ap (λ b. cond b (Some u) (use_in us m)) is)
    behind m v e false is = h m v (ap (λ b. cond b (Some u) (use_in us m)) is ∙ e)
