use Rattle.std.proofs.Common.{ℕ, ◌≡◌, map, slice_get, ap, sym, subst, ◌∙◌, arith}
use Rattle.std.proofs.lemmas.List.{with_items_is}
use Rattle.std.specs.Vec.{with_items}
use Rattle.expiry_policy.specs.Layers.{MayGrow, OfLayer}
use Rattle.expiry_policy.specs.Victims.{Counts, use_of}
use Rattle.expiry_policy.proofs.Together.{found_among, found_in, grown_among}
use Rattle.expiry_policy.proofs.uses.Uses.reserve.Goals as goal

pub returns-in_err-reserve_each-clause-uses : goal.returns-in_err-reserve_each-clause-uses
returns-in_err-reserve_each-clause-uses c = λ m.
    let old = c.self.inside.layers in
    let new = c.reserve_each.new.layers in
    let items = old.ok.0 in
    let is : (with_items old new).items ≡ new = with_items_is old new (omega arith) in
    let grown = subst (λ ls. (i : ℕ) → MayGrow (slice_get ls i) (slice_get new i)) c.as_mut_slice.ensures.value c.reserve_each.ensures.grown in
    ap (λ ls. found_in (map (λ (l : OfLayer). l.uses) ls) m) is ∙ found_among new m ∙ grown_among old.items new grown m ∙ sym (found_among old.items m) ∙ ap (λ (v : Counts). use_of v m) c.self.view_is

pub returns-clause-uses : goal.returns-clause-uses
returns-clause-uses c = λ m.
    let old = c.self.inside.layers in
    let new = c.reserve_each.new.layers in
    let items = old.ok.0 in
    let is : (with_items old new).items ≡ new = with_items_is old new (omega arith) in
    let grown = subst (λ ls. (i : ℕ) → MayGrow (slice_get ls i) (slice_get new i)) c.as_mut_slice.ensures.value c.reserve_each.ensures.grown in
    ap (λ ls. found_in (map (λ (l : OfLayer). l.uses) ls) m) is ∙ found_among new m ∙ grown_among old.items new grown m ∙ sym (found_among old.items m) ∙ ap (λ (v : Counts). use_of v m) c.self.view_is
