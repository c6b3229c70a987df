use Rattle.truncation_list.proofs.Answering.{answers_for_cut, answers_itself, answers_through, seen_below, seen_grows, seen_of_both}
use Rattle.truncation_list.proofs.laws.laws_of_books.Goals as goal

pub returns : goal.returns
returns c = record { itself = answers_itself; cut = answers_for_cut; transitive = answers_through; seen = seen_grows; above = seen_below; both = seen_of_both }
