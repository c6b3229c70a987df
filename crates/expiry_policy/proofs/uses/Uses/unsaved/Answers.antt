use Rattle.std.proofs.Common.{true, sym, subst}
use Rattle.expiry_policy.specs.declared.order.Ranking.TheVariants.{Unsaved}
use Rattle.expiry_policy.specs.Layers.{use_among}
use Rattle.expiry_policy.specs.Orders.{IsFirst}
use Rattle.expiry_policy.specs.Victims.{Counts, IsUnsaved, use_of}
use Rattle.expiry_policy.proofs.Together.{found_among, unsaved_among}
use Rattle.expiry_policy.proofs.uses.Uses.unsaved.Goals as goal

pub returns : goal.returns
returns c =
    let p = c.self.inside.policy in
    let layers = c.self.inside.layers.items in
    let first = subst (λ ls. IsFirst (record { ranking = Unsaved; policy = p }) (λ _. true) (use_among ls) c.first_of_all.result) c.as_slice.ensures.value c.first_of_all.ensures in
    let least = unsaved_among p layers c.first_of_all.result first in
    subst (λ (v : Counts). IsUnsaved (use_of v) c.unsaved_key.result) c.self.view_is
    (subst (λ f. IsUnsaved f c.unsaved_key.result) (λ i m. sym (found_among layers m) i) (subst (IsUnsaved (use_among layers)) (sym c.unsaved_key.ensures) least))
