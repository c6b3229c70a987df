-- What the answer of a reader says of what comes next.
use Rattle.std.proofs.Common.{◌≡◌, ℕ, List, Option, subst}
use Rattle.http_wire.specs.Answers.{AnswersNext, LeavesNext, StaysAt, TakesMessage, next_at}
use Rattle.http_wire.specs.declared.message.Message.{Message}
use Rattle.http_wire.specs.declared.message.Next.{Next}
use Rattle.http_wire.specs.declared.message.Next.TheVariants as nexts
use Rattle.http_wire.specs.declared.message.Stop.{Stop}
use Rattle.http_wire.specs.declared.message.Stop.TheVariants as stop

-- an answer that is a message
pub takes_it : (before after : Option (List ℕ)) {next : Next} {m : Message} → next ≡ nexts.Message m → AnswersNext before after next → TakesMessage before m after
takes_it before after is answers = subst (AnswersNext before after) is answers

-- an answer that is no message stops the stream so
pub stays : (before after : Option (List ℕ)) (k : Stop) {next : Next} → next ≡ next_at k → LeavesNext before after next → StaysAt before after k
stays before after stop.End is leaves = subst (LeavesNext before after) is leaves
stays before after stop.Truncated is leaves = subst (LeavesNext before after) is leaves
stays before after (stop.Bad status) is leaves = subst (LeavesNext before after) is leaves
