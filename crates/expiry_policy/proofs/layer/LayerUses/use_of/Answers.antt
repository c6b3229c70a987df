use Rattle.std.proofs.Common.{◌≡◌, Option, None, Some, sym, ap, subst, ◌∙◌}
use Rattle.std.specs.Map.{lookup}
use Rattle.metatile_plan.specs.Keys.{same_meta}
use Rattle.expiry_policy.specs.declared.held.UseTally.{UseTally}
use Rattle.expiry_policy.specs.Layers.{OfLayer, use_in}
use Rattle.expiry_policy.proofs.Lookups.{absent_use, derived_is, found_use}
use Rattle.expiry_policy.proofs.layer.LayerUses.use_of.Goals as goal

pub returns-in-None-clause-value : goal.returns-in-None-clause-value
returns-in-None-clause-value c =
    let es = c.self.inside.held.entries in
    let m = c.args.meta.now in
    let absent : lookup (same_meta m) es ≡ None = sym (subst (λ eq. ◌≡◌ {A = Option UseTally} None (lookup (eq m) es)) derived_is c.in-None.ensures.value) in
    sym (absent_use m es absent) ∙ ap (λ (l : OfLayer). use_in l.uses m) c.self.view_is

pub returns-in-Some-clause-value : goal.returns-in-Some-clause-value
returns-in-Some-clause-value c =
    let es = c.self.inside.held.entries in
    let m = c.args.meta.now in
    let found : lookup (same_meta m) es ≡ Some c.in-Some.tally.now = sym (subst (λ eq. Some c.in-Some.tally.now ≡ lookup (eq m) es) derived_is c.in-Some.ensures.value) in
    ap Some c.use_of.ensures ∙ sym (found_use m c.in-Some.tally.now es found) ∙ ap (λ (l : OfLayer). use_in l.uses m) c.self.view_is
