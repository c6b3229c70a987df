use Rattle.std.proofs.Common.{◌≡◌, ◌∙◌, length, arith}
use Rattle.truncation_list.specs.Contains.{contains_number, contains_numbers}
use Rattle.truncation_list.proofs.Containment.{zip-contains_numbers}
use Rattle.truncation_list.proofs.Decided.{true_and}
use Rattle.truncation_list.proofs.containing.contains_filter.Goals as goal

pub returns-then-contains_number : goal.returns-then-contains_number
returns-then-contains_number c =
    let outer = c.args.outer.now in
    let inner = c.args.inner.now in
    let as_long : length outer.dims ≡ length inner.dims = omega arith in
    let style : contains_number outer.style inner.style ≡ c.contains_number.result = cc in
    c.contains_each.ensures ∙ zip-contains_numbers outer.dims inner.dims as_long ∙ true_and (contains_number outer.style inner.style) (contains_numbers outer.dims inner.dims) (style ∙ c.if-contains_number.true)
