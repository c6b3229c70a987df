use Rattle.std.proofs.Common.{rules, length, refl}
use Rattle.std.proofs.lemmas.Option.{slice_get_read}
use Rattle.kept_lines.proofs.Joined.{value_added}
use Rattle.kept_lines.proofs.values.add_values.Goals as goal

pub loop-place-preserved : goal.loop-place-preserved
loop-place-preserved c =
    let dims = c.args.dimensions.now in
    let numbers = c.args.numbers.now in
    let found = c.in-Some.ensures.lookup in
    let dimension = slice_get_read dims (length dims) c.loop-place.place c.index-dimensions-place.result refl (search rules) c.index-dimensions-place.is in
    let number = slice_get_read numbers (length numbers) c.loop-place.place c.in-Some.number.now refl found.3.0 found.1 in
    record { rest = value_added dims numbers c.loop-place.place c.loop-place.text.items _ c.loop-place.invariant.rest c.index-dimensions-place.result c.in-Some.number.now c.add_next_value.new.text.items dimension number c.in_ok-add_next_value.ensures }
