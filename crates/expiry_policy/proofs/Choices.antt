-- The victim of a scope in a list of uses.
use Rattle.std.proofs.Common.{◌≡◌, true, List, [], find, Option, Some, None, IsSome, Ordering, refl, ap, subst}
use Rattle.std.specs.Cmp.{IsTotalOrder}
use Rattle.std.specs.Cmp.Lexicographic.{on_texts, slice_cmp}
use Rattle.std.specs.Option.{option_map}
use Rattle.std.specs.Ordering.{nat_cmp, on}
use Rattle.catalog.specs.declared.catalogue.Policy.{Policy}
use Rattle.catalog.specs.declared.catalogue.Scope.{Scope}
use Rattle.catalog.specs.Scopes.{is_in}
use Rattle.metatile_plan.specs.declared.metatile.MetaKey.{MetaKey}
use Rattle.metatile_plan.specs.Keys.{same_meta}
use Rattle.metatile_plan.proofs.Same.{same_meta_self}
use Rattle.expiry_policy.proofs.Finds.{all_filter, find_among, found_in_whole}
use Rattle.expiry_policy.proofs.First.{leader, leader_none}
use Rattle.expiry_policy.specs.declared.uses.Use.{Use}
use Rattle.expiry_policy.specs.Victims.{in_scope, is_first, is_of, rank, victim}

abbrev pub cmp_ranks : Policy → Use → Use → Ordering
cmp_ranks p = on (rank p) (slice_cmp nat_cmp)

pub ranks_total : (p : Policy) → IsTotalOrder (cmp_ranks p)
ranks_total p = on_texts (rank p)

-- THE VICTIM

-- the use whose metatile is the victim
victims_use : (p : Policy) (scope : Scope) (us : List Use) (m : MetaKey) → victim p scope us ≡ Some m → (u : Use) × (leader (cmp_ranks p) (in_scope scope us) ≡ Some u) × (u.meta ≡ m)
victims_use p scope us m e = chosen (leader (cmp_ranks p) (in_scope scope us)) refl e
  where
    chosen : (l : Option Use) → leader (cmp_ranks p) (in_scope scope us) ≡ l → option_map (λ u. u.meta) l ≡ Some m → (u : Use) × (leader (cmp_ranks p) (in_scope scope us) ≡ Some u) × (u.meta ≡ m)
    chosen None is e = absurd (cc)
    chosen (Some u) is e = (u, is, cc)

-- a victim is held
pub victim_held : (p : Policy) (scope : Scope) (us : List Use) (m : MetaKey) → victim p scope us ≡ Some m → IsSome (find (is_of m) us)
victim_held p scope us m e =
    let w = victims_use p scope us m e in
    found_in_whole (is_of m) (is_first p (in_scope scope us)) (λ u. is_in scope u.meta.theme.layer) us w.0 w.1 (subst (λ k. same_meta w.0.meta k ≡ true) w.2 (same_meta_self w.0.meta))

-- a victim is of the scope
pub victim_in_scope : (p : Policy) (scope : Scope) (us : List Use) (m : MetaKey) → victim p scope us ≡ Some m → is_in scope m.theme.layer ≡ true
victim_in_scope p scope us m e =
    let w = victims_use p scope us m e in
    let counted = λ (u : Use). is_in scope u.meta.theme.layer in
    subst (λ (k : MetaKey). is_in scope k.theme.layer ≡ true) w.2 (find_among counted (is_first p (in_scope scope us)) (in_scope scope us) w.0 w.1 (all_filter counted us))

-- there is none only where the scope holds nothing
pub victim_none : (p : Policy) (scope : Scope) (us : List Use) → victim p scope us ≡ None → in_scope scope us ≡ []
victim_none p scope us e = leader_none (cmp_ranks p) (ranks_total p) (in_scope scope us) (chosen (leader (cmp_ranks p) (in_scope scope us)) e)
  where
    chosen : (l : Option Use) → option_map (λ u. u.meta) l ≡ None → l ≡ None
    chosen None e = refl
    chosen (Some u) e = absurd (cc)

-- and none of nothing
pub victim_of_nothing : (p : Policy) (scope : Scope) (us : List Use) → in_scope scope us ≡ [] → victim p scope us ≡ None
victim_of_nothing p scope us e = ap (λ vs. option_map (λ u. u.meta) (find (is_first p vs) vs)) e
