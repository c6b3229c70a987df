use Rattle.std.proofs.Common.{subst, sym}
use Rattle.truncation_list.specs.declared.book.Book.{Book}
use Rattle.truncation_list.specs.Books.{AnswersForBook}
use Rattle.truncation_list.proofs.Remaining.{purged_answers}
use Rattle.truncation_list.proofs.list.CutList.purge.Goals as goal

pub returns-clause-answers : goal.returns-clause-answers
returns-clause-answers c =
    subst (λ (b : Book). AnswersForBook b c.args.self.now.book) (sym c.let_go.ensures.book) (purged_answers c.args.least c.args.self.now.book c.let_go.ensures.order.by_number)
