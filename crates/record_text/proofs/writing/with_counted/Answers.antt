use Rattle.std.proofs.Common.{ℕ, List, ◌++◌, ap, ◌∙◌, append_assoc}
use Rattle.byteorder.specs.Endian.{big_bytes}
use Rattle.record_text.proofs.writing.with_counted.Goals as goal

pub returns-clause-bytes : goal.returns-clause-bytes
returns-clause-bytes c =
    c.number-2.ensures.bytes
    ∙ ap (λ (l : List ℕ). l ++ big_bytes 8 c.args.uses) c.number.ensures.bytes
    ∙ append_assoc c.args.draft (big_bytes 8 c.args.moment) (big_bytes 8 c.args.uses)
