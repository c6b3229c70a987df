use borrow.Author.Tests.{ltb-true, ltb-false}
use Rattle.std.proofs.Common.{◌≡◌, ◌≤◌, ◌==◌, length, None, Some, true, slice_get, sym, ap, subst, ◌∙◌}
use Rattle.catalog.specs.Scopes.{is_in}
use Rattle.expiry_policy.specs.declared.order.Ranking.TheVariants.{Expiry}
use Rattle.expiry_policy.specs.Layers.{use_among, use_in}
use Rattle.expiry_policy.specs.Orders.{IsFirst}
use Rattle.expiry_policy.specs.Victims.{Counts, IsVictim, use_of}
use Rattle.expiry_policy.proofs.Lookups.{slice_get-get_or}
use Rattle.expiry_policy.proofs.Together.{found_among, layer_first, past_layers, victim_first}
use Rattle.expiry_policy.proofs.uses.Uses.victim.Goals as goal

pub returns-in-All : goal.returns-in-All
returns-in-All c =
    let p = c.self.inside.policy in
    let layers = c.self.inside.layers.items in
    let first = subst (λ ls. IsFirst (record { ranking = Expiry; policy = p }) (λ _. true) (use_among ls) c.first_of_all.result) c.as_slice.ensures.value c.first_of_all.ensures in
    let victim = victim_first p c.args.scope (λ _. true) (use_among layers) (λ n. ap (λ s. is_in s n.theme.layer) c.in-All.is) c.first_of_all.result first in
    subst (λ (v : Counts). IsVictim v.policy c.args.scope (use_of v) c.key_of.result) c.self.view_is
    (subst (λ f. IsVictim p c.args.scope f c.key_of.result) (λ i m. sym (found_among layers m) i) (subst (IsVictim p c.args.scope (use_among layers)) (sym c.key_of.ensures) victim))

pub returns-in-None : goal.returns-in-None
returns-in-None c = λ n h.
    let layers = c.self.inside.layers.items in
    let here = subst (λ s. is_in s n.theme.layer ≡ true) c.in-Layer.is h in
    let past : length c.deref.result.now ≤ c.in-Layer.number = ltb-false c.in-Layer.number (length c.deref.result.now) (sym c.in-None.ensures.lookup.0) in
    subst (λ (v : Counts). use_of v n ≡ None) c.self.view_is
    (found_among layers n ∙ past_layers layers c.in-Layer.number (subst (λ ls. length ls ≤ c.in-Layer.number) c.deref.ensures.value past) n here)

pub returns-in-Some : goal.returns-in-Some
returns-in-Some c =
    let p = c.self.inside.policy in
    let layers = c.self.inside.layers.items in
    let number = c.in-Layer.number in
    let l = c.in-Some.layer.now in
    let within = ltb-true number (length c.deref.result.now) (sym c.in-Some.ensures.lookup.0) in
    let got_there : slice_get c.deref.result.now number ≡ Some l = slice_get-get_or c.deref.result.now number l within ∙ ap Some (sym c.in-Some.ensures.lookup.1) in
    let got = subst (λ ls. slice_get ls number ≡ Some l) c.deref.ensures.value got_there in
    let first = subst (λ q. IsFirst (record { ranking = Expiry; policy = q }) (λ _. true) (use_in l.uses) c.first.result) (c.self.invariant.policy number l got) c.first.ensures.first in
    let of_layer = layer_first (record { ranking = Expiry; policy = p }) layers number l c.first.result got (c.self.invariant.number number l got) first c.first.ensures.number in
    let victim = victim_first p c.args.scope (λ n. n.theme.layer == number) (use_among layers) (λ n. ap (λ s. is_in s n.theme.layer) c.in-Layer.is) c.first.result of_layer in
    subst (λ (v : Counts). IsVictim v.policy c.args.scope (use_of v) c.key_of-in-Some.result) c.self.view_is
    (subst (λ f. IsVictim p c.args.scope f c.key_of-in-Some.result) (λ i m. sym (found_among layers m) i) (subst (IsVictim p c.args.scope (use_among layers)) (sym c.key_of-in-Some.ensures) victim))
