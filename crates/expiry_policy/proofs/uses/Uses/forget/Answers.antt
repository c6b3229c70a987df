use Rattle.std.proofs.Common.{◌≡◌, ◌<◌, length, set, cond, None, Some, IsSome, slice_get, refl, sym, ap, subst, ◌∙◌, arith}
use Rattle.metatile_plan.specs.Keys.{same_meta}
use Rattle.expiry_policy.specs.Victims.{Counts, use_of}
use Rattle.expiry_policy.proofs.Lookups.{slice_get-get_or}
use Rattle.expiry_policy.proofs.Together.{changed_among, found_among, layer_within, still_layers}
use Rattle.expiry_policy.proofs.uses.Uses.forget.Goals as goal

within : (c : goal.After-self-1) → c.args.meta.now.theme.layer < length c.self.inside.layers.items
within c =
    let layers = c.self.inside.layers.items in
    let held = subst (λ (v : Counts). IsSome (use_of v c.args.meta.now)) (sym c.self.view_is) c.requires in
    layer_within layers c.args.meta.now (subst IsSome (found_among layers c.args.meta.now) held)

got : (c : goal.After-self-1) → slice_get c.self.inside.layers.items c.args.meta.now.theme.layer ≡ Some c.index_mut.result.now
got c = slice_get-get_or c.self.inside.layers.items c.args.meta.now.theme.layer c.index_mut.result.now (within c) ∙ ap Some (sym c.index_mut.ensures.value)

pub invariant_of-self : goal.invariant_of-self
invariant_of-self c =
    let at = c.args.meta.now.theme.layer in
    let room = c.self.invariant.room at c.index_mut.result.now (got c) in
    still_layers c.self.inside.layers.items at c.index_mut.result.now c.remove.new.self (got c) (within c) c.self.inside.policy c.self.inside.spare c.self.inside.spare c.self.invariant
    c.remove.ensures.number c.remove.ensures.policy (let kept = c.remove.ensures.spare in omega arith) (omega arith)

pub returns-clause-uses : goal.returns-clause-uses
returns-clause-uses c = λ m.
    let layers = c.self.inside.layers.items in
    let k = c.args.meta.now in
    found_among (set layers k.theme.layer c.remove.new.self) m
    ∙ changed_among layers k.theme.layer c.index_mut.result.now c.remove.new.self (got c) (within c) k None refl c.remove.ensures.uses m
    ∙ ap (cond (same_meta m k) None) (sym (found_among layers m) ∙ ap (λ (v : Counts). use_of v m) c.self.view_is)
