use Rattle.std.proofs.Common.{rules, ◌<◌, length, refl}
use Rattle.catalogue_change.proofs.Comparing.{same_list, there_below}
use Rattle.catalogue_change.proofs.texts.are_same_breaks.Goals as goal

pub returns : goal.returns
returns c = (
  λ _. same_list c.args.old.now c.args.new.now (search rules) (λ i x y a b.
      let below : i < length c.args.old.now = there_below c.args.old.now i x a in
      c.comparing.invariant i x y (search (rules, below)) a b),
  λ _. refl,
)
