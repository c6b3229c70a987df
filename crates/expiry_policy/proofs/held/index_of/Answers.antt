use Rattle.std.proofs.Common.{◌≡◌, Option, Some, None, is_some, IfSome, ℕ, List, subst, sym, ◌∙◌}
use Rattle.metatile_plan.specs.declared.metatile.MetaKey.{MetaKey}
use Rattle.expiry_policy.specs.declared.held.UseTally.{UseTally}
use Rattle.std.specs.List.{position}
use Rattle.std.specs.Map.{keys_of, lookup}
use Rattle.metatile_plan.specs.Keys.{same_meta}
use Rattle.expiry_policy.specs.Entries.{use_at}
use Rattle.expiry_policy.proofs.Lookups.{derived_is, is_some-use_in, meta_at_position}
use Rattle.expiry_policy.proofs.held.index_of.Goals as goal

pub returns-clause-variant : goal.returns-clause-variant
returns-clause-variant c =
    let es = c.args.held.now.entries in
    let m = c.args.meta.now in
    subst (λ eq. is_some c.get_index_of.result ≡ is_some (lookup (eq m) es)) derived_is c.get_index_of.ensures.found ∙ sym (is_some-use_in m es)

-- the key at the index that is found
found_meta : (m : MetaKey) (es : List (MetaKey × UseTally)) (r : Option ℕ) → r ≡ position (same_meta m) (keys_of es) → IfSome r (λ at. (use_at es at).meta ≡ m)
found_meta m es None e = tt
found_meta m es (Some at) e = (meta_at_position m es at (sym e)).1

pub returns-clause-meta : goal.returns-clause-meta
returns-clause-meta c =
    let es = c.args.held.now.entries in
    let m = c.args.meta.now in
    found_meta m es c.get_index_of.result (subst (λ eq. c.get_index_of.result ≡ position (eq m) (keys_of es)) derived_is c.get_index_of.ensures.index)
