use Rattle.std.proofs.Common.{◌++◌, ◌∷◌, [], ◌∙◌, ap, Some, subst, sym, List}
use Rattle.truncation_list.specs.declared.book.Book.{Book}
use Rattle.truncation_list.specs.declared.book.Cut.{Cut}
use Rattle.truncation_list.specs.Books.{AnswersForBook}
use Rattle.truncation_list.specs.Listed.{HasRoomFor, IsSettled, Listed}
use Rattle.truncation_list.specs.Purge.{IsAbove, with_cut}
use Rattle.truncation_list.proofs.Remaining.{above_remaining, added_answers}
use Rattle.truncation_list.proofs.Settled.{added_settled}
use Rattle.truncation_list.proofs.list.CutList.add.Goals as goal

pub push-requires-clause-ready : goal.push-requires-clause-ready
push-requires-clause-ready c =
    subst (λ (l : Listed). HasRoomFor l.room c.args.cover.now) (sym c.self.view_is) (c.let_go.ensures.ready c.args.cover.now c.requires.ready)

pub push-requires-clause-above : goal.push-requires-clause-above
push-requires-clause-above c =
    let left = ap (λ (l : Listed). l.book.cuts) c.self.view_is ∙ ap (λ (b : Book). b.cuts) c.let_go.ensures.book in
    subst (λ (cuts : List Cut). IsAbove c.args.number cuts) (sym left) (above_remaining c.args.number (Some c.args.cover.now) c.args.least c.args.self.now.book.cuts c.requires.above)

pub invariant_of-self : goal.invariant_of-self
invariant_of-self c =
    let cut : Cut = record { number = c.args.number; cover = c.args.cover.now } in
    let left = ap (λ (l : Listed). l.book.cuts) c.self.view_is ∙ ap (λ (b : Book). b.cuts) c.let_go.ensures.book in
    λ _. subst (λ (cuts : List Cut). IsSettled cuts) (sym (c.push.ensures ∙ ap (λ (cuts : List Cut). cuts ++ cut ∷ []) left)) (added_settled cut c.args.least c.args.self.now.book.cuts)

pub returns-clause-answers : goal.returns-clause-answers
returns-clause-answers c =
    let left = ap (λ (l : Listed). l.book) c.self.view_is ∙ c.let_go.ensures.book in
    rw c.push.ensures
    (subst (λ (b : Book). AnswersForBook (with_cut c.args.number c.args.cover.now b) c.args.self.now.book) (sym left)
    (added_answers c.args.number c.args.cover.now c.args.least c.args.self.now.book c.let_go.ensures.order.by_number c.requires.above))
