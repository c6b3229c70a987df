-- The book after an entry answers for the book before it, and its front is no less.
use Rattle.std.proofs.Common.{List, arith}
use Rattle.catalog.specs.declared.catalogue.Catalogue.{Catalogue}
use Rattle.truncation_list.specs.declared.book.Cut.{Cut}
use Rattle.truncation_list.specs.Books.{AnswersForFronted}
use Rattle.truncation_list.proofs.Answering.{answers_itself, fronted_itself}
use Rattle.truncation_list.proofs.Remaining.{added_answers}
use Rattle.cabinet.specs.declared.entry.HistoryEntry.{HistoryEntry}
use Rattle.cabinet.specs.declared.entry.HistoryEntry.TheVariants as entry
use Rattle.cabinet.specs.Fresh.{HoldsAfterCuts, May}
use Rattle.cabinet.specs.History.{CabinetStanding, after, least_of, numbers}
use Rattle.cabinet.specs.State.{fronted}
use Rattle.cabinet.proofs.Holding.{above_listed}

pub fronted_after : (c : Catalogue) (cuts : List Cut) (s : CabinetStanding) (e : HistoryEntry) → HoldsAfterCuts c cuts s → May c s e → AnswersForFronted (fronted (after c s e)) (fronted s)
fronted_after c cuts s (entry.At n) h may = fronted_itself (fronted s)
fronted_after c cuts s (entry.Started k m) h may = record { book = answers_itself s.book; front = omega arith }
fronted_after c cuts s (entry.Cut t cover) h may = record {
  book = added_answers t cover (least_of (numbers s.out s.kept)) s.book h.order.by_number (above_listed c cuts s t h (let e = may.0 in omega arith));
  front = omega arith;
}
fronted_after c cuts s (entry.Missed t) h may = record { book = answers_itself s.book; front = omega arith }
fronted_after c cuts s (entry.Stored k m place length n uses) h may = fronted_itself (fronted s)
fronted_after c cuts s (entry.Counted m u) h may = fronted_itself (fronted s)
fronted_after c cuts s (entry.Ended k) h may = fronted_itself (fronted s)
fronted_after c cuts s (entry.Used m) h may = fronted_itself (fronted s)
fronted_after c cuts s (entry.Dropped m) h may = fronted_itself (fronted s)
