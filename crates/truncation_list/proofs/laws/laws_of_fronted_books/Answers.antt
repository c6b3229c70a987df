use Rattle.truncation_list.proofs.Answering.{fronted_itself, fronted_through}
use Rattle.truncation_list.proofs.laws.laws_of_fronted_books.Goals as goal

pub returns : goal.returns
returns c = record { itself = fronted_itself; transitive = fronted_through }
