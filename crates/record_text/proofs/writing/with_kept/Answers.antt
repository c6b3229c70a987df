use Rattle.std.proofs.Common.{ℕ, List, ◌++◌, ap, ◌∙◌, append_assoc}
use Rattle.record_text.specs.Spelling.{blob, counted}
use Rattle.record_text.proofs.writing.with_kept.Goals as goal

pub returns-clause-bytes : goal.returns-clause-bytes
returns-clause-bytes c =
    c.with_counted.ensures.bytes
    ∙ ap (λ (l : List ℕ). l ++ counted c.args.moment c.args.uses) c.with_blob.ensures.bytes
    ∙ append_assoc c.args.draft (blob c.args.place c.args.size) (counted c.args.moment c.args.uses)
