-- What is found is what is answered, of the stream before.
use Rattle.std.proofs.Common.{◌≡◌, ℕ, ◌+◌, ◌<◌, ◌≤◌, List, ◌++◌, length, take, drop, Option, IfSome, sym, subst}
use Rattle.std.specs.Io.KnownBytes.{Keeps, IsAtEnd, prepend_known}
use Rattle.httparse.specs.declared.spans.HeaderSpan.{HeaderSpan}
use Rattle.http_wire.specs.Messages.{StopsAs, IsTruncated, IsBad}
use Rattle.http_wire.specs.Looks.{SettlesStream}
use Rattle.http_wire.specs.Outlines.{Outlines, IsOutline}
use Rattle.http_wire.specs.Answers.{next_at, AnswersNext, TakesMessage}
use Rattle.http_wire.specs.declared.message.Stop.{Stop}
use Rattle.http_wire.specs.declared.message.Stop.TheVariants.{End, Truncated, Bad}
use Rattle.http_wire.specs.declared.message.Next.{Next}
use Rattle.http_wire.specs.declared.message.Message.{Message}
use Rattle.http_wire.specs.declared.look.LookOutcome.{LookOutcome}
use Rattle.http_wire.specs.declared.look.LookOutcome.TheVariants.{Stopped}
use Rattle.http_wire.specs.declared.outline.Outline.{Outline}
use Rattle.http_wire.specs.declared.outline.Outlined.{Outlined}
use Rattle.http_wire.specs.declared.outline.Outlined.TheVariants.{Good, Refused}
use Rattle.http_wire.proofs.HeadAtFront.{said_before, whatever_follows, truncated_body, taken_message, takes_before}

answer_of_stop : (before after : Option (List ℕ)) (stop : Stop) → IfSome before (λ bytes. StopsAs bytes stop) → AnswersNext before after (next_at stop)
answer_of_stop before after End h = h
answer_of_stop before after Truncated h = h
answer_of_stop before after (Bad status) h = h

pub stop_answers : (before now after : Option (List ℕ)) (held : List ℕ) (headers : List HeaderSpan) (found : LookOutcome) (stop : Stop) (answer : Next) → Keeps before now → SettlesStream held headers now found → found ≡ Stopped stop → answer ≡ next_at stop
    → AnswersNext before after answer
stop_answers before now after held headers found stop answer k settles is e =
    let here : SettlesStream held headers now (Stopped stop) = subst (SettlesStream held headers now) is settles in
    subst (AnswersNext before after) (sym e) (answer_of_stop before after stop (said_before before now (λ bytes. StopsAs bytes stop) k here))

pub refused_answers : (before left : Option (List ℕ)) (held first : List ℕ) (o : Outlined) (status : ℕ) → Keeps before (prepend_known held left) → Outlines first o → first ≡ held → o ≡ Refused status → IfSome before (λ bytes. StopsAs bytes (Bad status))
refused_answers before left held first o status k says e is =
    let here : (more : List ℕ) → IsBad (first ++ more) status = subst (Outlines first) is says in
    let there : (more : List ℕ) → IsBad (held ++ more) status = subst (λ (l : List ℕ). (more : List ℕ) → IsBad (l ++ more) status) e here in
    said_before before (prepend_known held left) (λ bytes. IsBad bytes status) k (whatever_follows held left (λ bytes. IsBad bytes status) there)

pub good_outline : (held first : List ℕ) (o : Outlined) (outline : Outline) → Outlines first o → first ≡ held → o ≡ Good outline → IsOutline held outline
good_outline held first o outline says e is =
    let here : IsOutline first outline = subst (Outlines first) is says in
    subst (λ (l : List ℕ). IsOutline l outline) e here

pub truncated_answers : (before left after : Option (List ℕ)) (held new : List ℕ) (outline : Outline) → Keeps before (prepend_known held left) → IsOutline held outline → Keeps (prepend_known held left) (prepend_known new after)
    → IsAtEnd after × (length new < outline.start + outline.size) → IfSome before (λ bytes. IsTruncated bytes)
truncated_answers before left after held new outline k is more ends = said_before before (prepend_known held left) IsTruncated k (truncated_body held new left after outline is more ends.0 ends.1)

pub message_answers : (before left after : Option (List ℕ)) (held new last : List ℕ) (outline : Outline) (m : Message) → Keeps before (prepend_known held left) → IsOutline held outline → Keeps (prepend_known held left) (prepend_known new after)
    → outline.start + outline.size ≤ length new → m.body ≡ take outline.size (drop outline.start new) → last ≡ drop outline.size (drop outline.start new) → m.method ≡ outline.method → m.target ≡ outline.target → m.last ≡ outline.last
    → TakesMessage before m (prepend_known last after)
message_answers before left after held new last outline m k is more fits body rest e f g =
    takes_before before (prepend_known held left) (prepend_known last after) m k (taken_message held new last left after outline m is more fits body rest e f g)
