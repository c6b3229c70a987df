use Rattle.std.proofs.Common.{◌∷◌, slice_index, sym, ap, ◌∙◌, rules}
use Rattle.outbox.proofs.Packing.{parted}
use Rattle.outbox.proofs.reading.body_of.Goals as goal

pub returns : goal.returns
returns c = parted c.args.bytes.now (search rules) ∙ ap (λ l. slice_index c.args.bytes.now 0 ∷ l) (sym c.copy_from_slice.ensures.after)
