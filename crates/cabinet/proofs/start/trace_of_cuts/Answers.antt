use Rattle.std.proofs.Common.{◌++◌, ◌∷◌, [], sym, ◌∙◌}
use Rattle.cabinet.proofs.Lookups.{taken_next}
use Rattle.cabinet.proofs.start.trace_of_cuts.Goals as goal

pub noting-preserved : goal.noting-preserved
noting-preserved c =
    let cuts = c.args.cuts.now.book.cuts in
    record { entries = c.and-notes.ensures ∙ (λ j. c.noting.invariant.entries j ++ c.cut_of.result ∷ []) ∙ sym (taken_next cuts c.noting.at c.cut_of.result c.cut_of.ensures) }
