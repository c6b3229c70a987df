use Rattle.std.proofs.Common.{rules, ◌≡◌, ◌+◌, ◌-◌, ◌<◌, get_or, length, take, sym, subst}
use Rattle.extent_map.specs.Parts.{end_of}
use Rattle.extent_map.specs.Holes.{last_end}
use Rattle.extent_map.proofs.Order.{end_within}
use Rattle.extent_map.proofs.Claims.{last_end_at}
use Rattle.extent_map.proofs.holes.end_before.Goals as goal

pub overflow_add-result : goal.overflow_add-result
overflow_add-result c =
    let size = c.ranges.size.fits in
    let some = c.if-index-eq0.false in let upper = c.requires.within in
    let inside : c.args.index - 1 < length c.args.parts.now = search rules in
    let within = end_within 0 c.args.parts.now c.args.size c.requires.ordered (c.args.index - 1) (record { place = 0; length = 0 }) inside in
    search rules

pub returns : goal.returns
returns c =
    let some = c.if-index-eq0.false in let upper = c.requires.within in
    let inside : c.args.index - 1 < length c.args.parts.now = search rules in
    let next : c.args.index - 1 + 1 ≡ c.args.index = search rules in
    let last = last_end_at c.args.parts.now (c.args.index - 1) (record { place = 0; length = 0 }) inside in
    rw c.from.ensures (sym (subst (λ i. last_end 0 (take i c.args.parts.now) ≡ end_of (get_or c.args.parts.now (c.args.index - 1) (record { place = 0; length = 0 }))) next last))
