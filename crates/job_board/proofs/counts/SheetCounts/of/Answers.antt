use Rattle.job_board.proofs.Cuts.{begins}
use Rattle.job_board.proofs.counts.SheetCounts.of.Goals as goal

pub of_words-requires : goal.of_words-requires
of_words-requires c = begins _
