use Rattle.http_source.proofs.Named.{all_given}
use Rattle.http_source.proofs.values.theme_values.Goals as goal

pub returns : goal.returns
returns c = all_given _ c.args.dimensions.now c.args.numbers.now c.loop-place.place _ _ c.min-place-end.ensures c.loop-place-test.false c.loop-place.invariant
