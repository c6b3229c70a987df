use Rattle.std.proofs.Common.{◌≡◌, ◌+◌, true, Some, IfSome, slice_get, sym, ap, subst, ◌∙◌, arith}
use Rattle.expiry_policy.specs.Layers.{use_among, use_in}
use Rattle.expiry_policy.specs.Orders.{IsFirst}
use Rattle.expiry_policy.proofs.FirstOfAll.{first_more, first_of_layers, first_of_none, is_below, use_of_layer}
use Rattle.expiry_policy.proofs.Lookups.{slice_get-get_or}
use Rattle.expiry_policy.proofs.leading.first_of_all.Goals as goal

pub looking-init : goal.looking-init
looking-init c = first_of_none c.args.order (use_among c.args.layers.now)

pub looking-preserved : goal.looking-preserved
looking-preserved c =
    let o = c.args.order in
    let layers = c.args.layers.now in
    let i = c.looking.layer-index in
    let l = c.layer-item.result in
    let next = c.first.result in
    let at : slice_get layers i ≡ Some l = slice_get-get_or layers i l c.looking-test.true ∙ ap Some (sym c.layer-item.is) in
    let first = subst (λ p. IsFirst (record { ranking = o.ranking; policy = p }) (λ _. true) (use_in l.uses) next) (c.requires.policy i l at) c.first.ensures.first in
    let number = subst (λ n. IfSome next (λ u. u.meta.theme.layer ≡ n)) (c.requires.number i l at) c.first.ensures.number in
    subst (IsFirst o (is_below (i + 1)) (use_among layers)) (sym c.sooner-first.ensures)
    (first_more o (use_among layers) (use_in l.uses) i (λ n e. use_of_layer layers l n i at e) c.looking.first next c.looking.invariant first number)

pub returns : goal.returns
returns c = first_of_layers c.args.order c.args.layers.now c.looking.layer-index c.looking.first (omega arith) c.looking.invariant
