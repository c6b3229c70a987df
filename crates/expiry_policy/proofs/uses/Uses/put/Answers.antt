use Rattle.std.proofs.Common.{◌≡◌, ◌<◌, set, cond, Some, IsSome, slice_get, refl, sym, ap, subst, ◌∙◌, arith}
use Rattle.metatile_plan.specs.Keys.{same_meta}
use Rattle.expiry_policy.specs.Layers.{use_in}
use Rattle.expiry_policy.specs.Victims.{Counts, use_of}
use Rattle.expiry_policy.proofs.FirstOfAll.{use_of_layer}
use Rattle.expiry_policy.proofs.Lookups.{slice_get-get_or}
use Rattle.expiry_policy.proofs.Together.{changed_among, found_among, still_layers}
use Rattle.expiry_policy.proofs.uses.Uses.put.Goals as goal

pub invariant_of-self : goal.invariant_of-self
invariant_of-self c =
    let layers = c.self.inside.layers.items in
    let at = c.args.entry.now.meta.theme.layer in
    let l = c.index_mut.result.now in
    let within = subst (λ (v : Counts). at < v.layers) (sym c.self.view_is) c.requires.layer in
    let got : slice_get layers at ≡ Some l = slice_get-get_or layers at l within ∙ ap Some (sym c.index_mut.ensures.value) in
    let put = c.put_in-self-inside.ensures in
    still_layers layers at l c.put_in-self-inside.new.layer got within c.self.inside.policy c.self.inside.spare c.put_in-self-inside.result c.self.invariant put.number put.policy put.left put.most

pub returns-clause-uses : goal.returns-clause-uses
returns-clause-uses c = λ m.
    let layers = c.self.inside.layers.items in
    let k = c.args.entry.now.meta in
    let l = c.index_mut.result.now in
    let within = subst (λ (v : Counts). k.theme.layer < v.layers) (sym c.self.view_is) c.requires.layer in
    let got : slice_get layers k.theme.layer ≡ Some l = slice_get-get_or layers k.theme.layer l within ∙ ap Some (sym c.index_mut.ensures.value) in
    found_among (set layers k.theme.layer c.put_in-self-inside.new.layer) m
    ∙ changed_among layers k.theme.layer l c.put_in-self-inside.new.layer got within k (Some c.args.entry.now) refl c.put_in-self-inside.ensures.uses m
    ∙ ap (cond (same_meta m k) (Some c.args.entry.now)) (sym (found_among layers m) ∙ ap (λ (v : Counts). use_of v m) c.self.view_is)

pub returns-clause-kept : goal.returns-clause-kept
returns-clause-kept c = λ held.
    let layers = c.self.inside.layers.items in
    let k = c.args.entry.now.meta in
    let l = c.index_mut.result.now in
    let within = subst (λ (v : Counts). k.theme.layer < v.layers) (sym c.self.view_is) c.requires.layer in
    let got : slice_get layers k.theme.layer ≡ Some l = slice_get-get_or layers k.theme.layer l within ∙ ap Some (sym c.index_mut.ensures.value) in
    let there = subst (λ (v : Counts). IsSome (use_of v k)) (sym c.self.view_is) held in
    let here : IsSome (use_in l.uses k) = subst IsSome (found_among layers k ∙ use_of_layer layers l k k.theme.layer got refl) there in
    let spare = ap (λ (v : Counts). v.spare) c.self.view_is in
    omega (arith, c.put_in-self-inside.ensures.kept here, spare)
