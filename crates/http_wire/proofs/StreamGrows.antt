-- One more answer of a reader: a message more of its stream, or the stop after them.
use Rattle.std.proofs.Common.{◌≡◌, ℕ, List, [], ◌∷◌, ◌++◌, Option, Some, None, IfSome, refl, sym, subst}
use Rattle.http_wire.specs.Answers.{TakesMessage, AnswersNext, next_at}
use Rattle.http_wire.specs.Messages.{IsNext, StopsAs}
use Rattle.http_wire.specs.Streams.{Stand, StandIn, Messages}
use Rattle.http_wire.specs.declared.message.Message.{Message}
use Rattle.http_wire.specs.declared.message.Next.{Next}
use Rattle.http_wire.specs.declared.message.Next.TheVariants as nexts
use Rattle.http_wire.specs.declared.message.Stop.{Stop}
use Rattle.http_wire.specs.declared.message.Stop.TheVariants.{End, Truncated, Bad}

pub stand_more : (bytes middle rest : List ℕ) (ms : List Message) (m : Message) → Stand bytes ms middle → IsNext middle m rest → Stand bytes (ms ++ m ∷ []) rest
stand_more bytes middle rest [] m e is = (rest, subst (λ (l : List ℕ). IsNext l m rest) (sym e) is, refl)
stand_more bytes middle rest (x ∷ ms) m s is = (s.0, s.1, stand_more s.0 middle rest ms m s.2 is)

pub stand_in_more : (a b c : Option (List ℕ)) (ms : List Message) (m : Message) → StandIn a ms b → TakesMessage b m c → StandIn a (ms ++ m ∷ []) c
stand_in_more None b c ms m s t = tt
stand_in_more (Some x) None c ms m s t = absurd s
stand_in_more (Some x) (Some y) None ms m s t = absurd t
stand_in_more (Some x) (Some y) (Some z) ms m s t = stand_more x y z ms m s t

-- the same, for a list that took the message
pub message_stands : (a b c : Option (List ℕ)) (ms new : List Message) (next : Next) (m : Message) → StandIn a ms b → AnswersNext b c next → next ≡ nexts.Message m → new ≡ ms ++ m ∷ [] → StandIn a new c
message_stands a b c ms new next m s answer is e =
    let here : TakesMessage b m c = subst (AnswersNext b c) is answer in
    subst (λ (l : List Message). StandIn a l c) (sym e) (stand_in_more a b c ms m s here)

stop_of_answer : (b c : Option (List ℕ)) (stop : Stop) → AnswersNext b c (next_at stop) → IfSome b (λ bytes. StopsAs bytes stop)
stop_of_answer b c End answer = answer
stop_of_answer b c Truncated answer = answer
stop_of_answer b c (Bad status) answer = answer

stops_behind : (a b : Option (List ℕ)) (ms : List Message) (stop : Stop) → StandIn a ms b → IfSome b (λ bytes. StopsAs bytes stop) → IfSome a (λ bytes. Messages bytes ms stop)
stops_behind None b ms stop s is = tt
stops_behind (Some x) None ms stop s is = absurd s
stops_behind (Some x) (Some y) ms stop s is = (y, s, is)

-- messages, and a stop after them, are a whole stream
pub whole_stream : (a b c : Option (List ℕ)) (ms : List Message) (stop : Stop) → StandIn a ms b → AnswersNext b c (next_at stop) → IfSome a (λ bytes. Messages bytes ms stop)
whole_stream a b c ms stop s answer = stops_behind a b ms stop s (stop_of_answer b c stop answer)

-- the same, for an answer that is that stop
pub stop_stands : (a b c : Option (List ℕ)) (ms : List Message) (next : Next) (stop : Stop) → StandIn a ms b → AnswersNext b c next → next ≡ next_at stop → IfSome a (λ bytes. Messages bytes ms stop)
stop_stands a b c ms next stop s answer is = whole_stream a b c ms stop s (subst (AnswersNext b c) is answer)
