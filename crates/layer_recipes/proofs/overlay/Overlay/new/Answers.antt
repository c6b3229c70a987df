use Rattle.std.proofs.Common.{◌≡◌, ℕ, ◌-◌, ◌*◌, length, ap, rules}
use Rattle.layer_recipes.proofs.Sheets.{new_sheet, none_lays}
use Rattle.layer_recipes.proofs.overlay.Overlay.new.Goals as goal

pub invariant_of-result : goal.invariant_of-result
invariant_of-result c =
    let count = c.pixel_count-count.result in
    let whole : c.len.result ≡ length c.in_ok-text.text.items = search rules in
    new_sheet c.args.matrix.now (c.len.result - 3 * count) count c.in_ok-text.text.items c.in_ok-clear.clear.items c.requires c.pixel_count-count.ensures.value c.in_ok-text.ensures c.in_ok-clear.ensures
    (ap (λ (n : ℕ). n - 3 * count) whole)

pub returns-clause-none : goal.returns-clause-none
returns-clause-none c =
    none_lays c.args.matrix.now c.pixel_count-count.result c.in_ok-text.text.items c.in_ok-clear.clear.items c.pixel_count-count.ensures.value c.in_ok-text.ensures c.in_ok-clear.ensures
