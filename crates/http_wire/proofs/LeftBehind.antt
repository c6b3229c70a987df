-- What an answer that is no message leaves: all the bytes, which stop as it says.
use Rattle.std.proofs.Common.{◌≡◌, ℕ, ◌+◌, ◌<◌, List, [], ◌++◌, length, Option, Some, None, IfSome, sym, ap, subst, ◌∙◌, append_assoc, append-nil}
use Rattle.std.specs.Io.KnownBytes.{Keeps, Consumes, IsAtEnd, prepend_known}
use Rattle.std.proofs.KnownBytes.{Keeps-trans}
use Rattle.httparse.specs.declared.spans.HeaderSpan.{HeaderSpan}
use Rattle.http_wire.specs.Messages.{IsBad, IsTruncated}
use Rattle.http_wire.specs.Lines.{Extends}
use Rattle.http_wire.specs.Looks.{SettlesStream}
use Rattle.http_wire.specs.Outlines.{Outlines, IsOutline}
use Rattle.http_wire.specs.Answers.{next_at, StaysAt, LeavesNext, LeavesFault, Remain}
use Rattle.http_wire.specs.declared.message.Stop.{Stop}
use Rattle.http_wire.specs.declared.message.Stop.TheVariants.{End, Truncated, Bad}
use Rattle.http_wire.specs.declared.message.Next.{Next}
use Rattle.http_wire.specs.declared.message.WireFault.{WireFault}
use Rattle.http_wire.specs.declared.message.WireFault.TheVariants.{ReadFault, OutOfMemory}
use Rattle.http_wire.specs.declared.look.LookOutcome.{LookOutcome}
use Rattle.http_wire.specs.declared.look.LookOutcome.TheVariants.{Stopped}
use Rattle.http_wire.specs.declared.outline.Outline.{Outline}
use Rattle.http_wire.specs.declared.outline.Outlined.{Outlined}
use Rattle.http_wire.specs.declared.outline.Outlined.TheVariants.{Refused}
use Rattle.http_wire.proofs.HeadAtFront.{truncated_body, whatever_follows}

-- FAULTS

-- the bytes that were taken stand before those that are left
pub taken_remain : (left after : Option (List ℕ)) (held bytes : List ℕ) → Consumes left after bytes → Remain (prepend_known held left) after
taken_remain None after held bytes taken = ([], tt)
taken_remain (Some x) None held bytes taken = absurd taken
taken_remain (Some x) (Some y) held bytes taken = (held ++ bytes, append_assoc held bytes y ∙ ap (λ (l : List ℕ). held ++ l) (sym taken))

-- the bytes had stayed up to there
pub fault_before : (before now left : Option (List ℕ)) (held : List ℕ) (fault : WireFault) → Keeps before now → LeavesFault now held left fault → LeavesFault before held left fault
fault_before before now left held ReadFault k stays = Keeps-trans before now (prepend_known held left) k stays
fault_before before now left held OutOfMemory k r = (r.0, Keeps-trans before now (prepend_known r.0 left) k r.1)

-- STOPS

leaves_at : (before after : Option (List ℕ)) (stop : Stop) → StaysAt before after stop → LeavesNext before after (next_at stop)
leaves_at before after End h = h
leaves_at before after Truncated h = h
leaves_at before after (Bad status) h = h

pub stop_leaves : (before now : Option (List ℕ)) (held : List ℕ) (headers : List HeaderSpan) (found : LookOutcome) (stop : Stop) (answer : Next) → Keeps before now → SettlesStream held headers now found → found ≡ Stopped stop → answer ≡ next_at stop
    → LeavesNext before now answer
stop_leaves before now held headers found stop answer k settles is e =
    let here : SettlesStream held headers now (Stopped stop) = subst (SettlesStream held headers now) is settles in
    subst (LeavesNext before now) (sym e) (leaves_at before now stop (k, here))

pub refused_leaves : (before left : Option (List ℕ)) (held first : List ℕ) (o : Outlined) (status : ℕ) → Keeps before (prepend_known held left) → Outlines first o → first ≡ held → o ≡ Refused status → StaysAt before (prepend_known held left) (Bad status)
refused_leaves before left held first o status k says e is =
    let here : (more : List ℕ) → IsBad (first ++ more) status = subst (Outlines first) is says in
    let there : (more : List ℕ) → IsBad (held ++ more) status = subst (λ (l : List ℕ). (more : List ℕ) → IsBad (l ++ more) status) e here in
    (k, whatever_follows held left (λ bytes. IsBad bytes status) there)

-- the stream ended within the body
ended_body : (held new : List ℕ) (after : Option (List ℕ)) (o : Outline) → IsOutline held o → Extends held new → IsAtEnd after → length new < o.start + o.size → IfSome (prepend_known new after) IsTruncated
ended_body held new None o is more at short = tt
ended_body held new (Some none) o is more at short =
    let whole : new ++ none ≡ held ++ more.0 = ap (λ (l : List ℕ). new ++ l) at ∙ append-nil new ∙ more.1 in
    subst IsTruncated (sym whole) (truncated_body held new (Some more.0) (Some none) o is whole at short)

pub truncated_leaves : (before left after : Option (List ℕ)) (held new : List ℕ) (outline : Outline) → Keeps before (prepend_known held left) → IsOutline held outline → Keeps (prepend_known held left) (prepend_known new after) → Extends held new
    → IsAtEnd after × (length new < outline.start + outline.size) → StaysAt before (prepend_known new after) Truncated
truncated_leaves before left after held new outline k is more longer ends =
    (Keeps-trans before (prepend_known held left) (prepend_known new after) k more, ended_body held new after outline is longer ends.0 ends.1)
