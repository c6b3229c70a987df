-- What a fetch of the next message comes to, at each of its ends.
use Rattle.std.proofs.Common.{◌≡◌, ℕ, ◌+◌, ◌<◌, ◌≤◌, ◌⊎◌, List, ◌++◌, length, max, take, drop, Option, Bool, true, false, Result, Ok, Err, refl, sym, ap, subst, ◌∙◌}
use Rattle.std.specs.Io.KnownBytes.{prepend_known}
use Rattle.httparse.specs.declared.spans.HeaderSpan.{HeaderSpan}
use Rattle.http_wire.specs.Answers.{AnswersNext, LeavesNext, IsMessage, next_at}
use Rattle.http_wire.specs.Fetches.{Fetches}
use Rattle.http_wire.specs.Lines.{Extends}
use Rattle.http_wire.specs.Looks.{HadNoHead, HoldsHead, SettlesStream}
use Rattle.http_wire.specs.Messages.{HoldsMessage}
use Rattle.http_wire.specs.Outlines.{Outlines, IsOutline}
use Rattle.http_wire.specs.Side.{Side}
use Rattle.http_wire.specs.Takes.{Takes, BringsUpTo}
use Rattle.http_wire.specs.declared.look.LookOutcome.{LookOutcome}
use Rattle.http_wire.specs.declared.look.LookOutcome.TheVariants.{Stopped}
use Rattle.http_wire.specs.declared.message.Message.{Message}
use Rattle.http_wire.specs.declared.message.Next.{Next}
use Rattle.http_wire.specs.declared.message.Next.TheVariants as nexts
use Rattle.http_wire.specs.declared.message.Stop.{Stop}
use Rattle.http_wire.specs.declared.message.Stop.TheVariants as stops
use Rattle.http_wire.specs.declared.message.WireFault.{WireFault}
use Rattle.http_wire.specs.declared.message.WireFault.TheVariants.{ReadFault, OutOfMemory}
use Rattle.http_wire.specs.declared.outline.Outline.{Outline}
use Rattle.http_wire.specs.declared.outline.Outlined.{Outlined}
use Rattle.http_wire.specs.declared.outline.Outlined.TheVariants.{Good, Refused}
use Rattle.http_wire.proofs.AnswersFound.{good_outline, stop_answers, refused_answers, truncated_answers, message_answers}
use Rattle.http_wire.proofs.HeadAtFront.{whole_message, no_message_short}
use Rattle.http_wire.proofs.LeftBehind.{stop_leaves, refused_leaves, truncated_leaves}
use Rattle.http_wire.proofs.Surplus.{part_of_take}
use Rattle.http_wire.proofs.TakesOn.{takes_same, takes_more, takes_fault}

-- A FAULT

fault_fetched : {T : Type 0} {held new : List ℕ} {left after : Option (List ℕ)} {faults now : ℕ} {beside still : Side} (fault : WireFault) → Takes {T = T} held new left after faults now beside still (Err fault) → (fault ≡ ReadFault → (HoldsMessage new → ⊥))
    → Fetches held new left after faults now beside still (Err fault)
fault_fetched fault takes waits =
    record {
      answers = tt;
      leaves = takes.leaves;
      surplus = λ is. absurd (let e = is.1 in cc);
      waits = λ is. waits (cc);
      cause = (takes_fault fault takes).cause;
      apart = takes.apart;
    }

-- one of a take that is handed on
pub handed_fault : {T : Type 0} {held new : List ℕ} {left after : Option (List ℕ)} {faults now : ℕ} {beside still : Side} {fault told : WireFault} {result : Result Next WireFault} → result ≡ Err told → told ≡ fault
    → Takes {T = T} held new left after faults now beside still (Err fault) → (HoldsMessage new → ⊥) → Fetches held new left after faults now beside still result
handed_fault {held = held} {new} {left} {after} {faults} {now} {beside} {still} {fault} {result = result} is same takes waits =
    let e : result ≡ Err fault = is ∙ ap (λ (f : WireFault). Err f) same in
    subst (Fetches held new left after faults now beside still) (sym e) (fault_fetched fault takes (λ _. waits))

-- out of memory after takes that went well, whatever is held then
pub no_memory : {T : Type 0} {held new last : List ℕ} {left after : Option (List ℕ)} {faults now : ℕ} {beside still : Side} {value : T} → Takes held new left after faults now beside still (Ok value) → Fetches held last left after faults now beside still (Err OutOfMemory)
no_memory {new = new} takes =
    record {
      answers = tt;
      leaves = (new, takes.stream);
      surplus = λ is. absurd (let e = is.1 in cc);
      waits = λ is. absurd (cc);
      cause = record { later = takes.cause.later; fault = λ is. absurd (cc) };
      apart = takes.apart;
    }

-- A STOP

not_message : (answer : Next) (stop : Stop) → answer ≡ next_at stop → IsMessage (Ok answer) → ⊥
not_message answer stops.End e is = let f = is.1 in cc
not_message answer stops.Truncated e is = let f = is.1 in cc
not_message answer (stops.Bad status) e is = let f = is.1 in cc

stop_fetched : {T : Type 0} {held new : List ℕ} {left after : Option (List ℕ)} {faults now : ℕ} {beside still : Side} {value : T} (stop : Stop) (answer : Next) → answer ≡ next_at stop → Takes held new left after faults now beside still (Ok value)
    → AnswersNext (prepend_known held left) (prepend_known new after) answer → LeavesNext (prepend_known held left) (prepend_known new after) answer → Fetches held new left after faults now beside still (Ok answer)
stop_fetched stop answer e takes answers leaves =
    record {
      answers = answers;
      leaves = leaves;
      surplus = λ is. absurd (not_message answer stop e is);
      waits = λ is. absurd (cc);
      cause = (takes_same answer takes).cause;
      apart = takes.apart;
    }

-- the stream stops before a head
pub found_stop : {T : Type 0} {held new : List ℕ} {left after : Option (List ℕ)} {faults now : ℕ} {beside still : Side} {value : T} (headers : List HeaderSpan) (found : LookOutcome) (stop : Stop) (answer : Next) → Takes held new left after faults now beside still (Ok value)
    → SettlesStream new headers (prepend_known new after) found → found ≡ Stopped stop → answer ≡ next_at stop → Fetches held new left after faults now beside still (Ok answer)
found_stop headers found stop answer takes settles is e =
    stop_fetched stop answer e takes (stop_answers _ _ _ _ headers found stop answer takes.stream settles is e) (stop_leaves _ _ _ headers found stop answer takes.stream settles is e)

-- the head is refused
pub refused : {T : Type 0} {held new : List ℕ} {left after : Option (List ℕ)} {faults now : ℕ} {beside still : Side} {value : T} (first : List ℕ) (outlined : Outlined) (status : ℕ) → Takes held new left after faults now beside still (Ok value)
    → Outlines first outlined → first ≡ new → outlined ≡ Refused status → Fetches held new left after faults now beside still (Ok (nexts.Bad status))
refused {new = new} first outlined status takes says same is =
    stop_fetched (stops.Bad status) _ refl takes (refused_answers _ _ new first outlined status takes.stream says same is) (refused_leaves _ _ new first outlined status takes.stream says same is)

-- THE BODY

-- the source ends within it
pub truncated : {T : Type 0} {held middle new : List ℕ} {left between after : Option (List ℕ)} {faults counted now : ℕ} {beside besides still : Side} {value : T} {whole : Bool} (outline : Outline)
    → Takes held middle left between faults counted beside besides (Ok value) → Takes middle new between after counted now besides still (Ok whole) → IsOutline middle outline → Extends middle new
    → whole ≡ false → BringsUpTo (outline.start + outline.size) new after (Ok whole) → Fetches held new left after faults now beside still (Ok nexts.Truncated)
truncated {middle = middle} {new} {left} {between} {after} outline first then is longer went brings =
    let ends : BringsUpTo (outline.start + outline.size) new after (Ok false) = subst (λ (b : Bool). BringsUpTo (outline.start + outline.size) new after (Ok b)) went brings in
    stop_fetched stops.Truncated _ refl (takes_more _ first then) (truncated_answers _ _ _ middle new outline first.stream is then.stream ends) (truncated_leaves _ _ _ middle new outline first.stream is then.stream longer ends)

-- no whole message is held where a take fails within it
pub none_within : (held first new : List ℕ) (outlined : Outlined) (outline : Outline) → first ≡ held → Outlines first outlined → outlined ≡ Good outline → Extends held new → length new < outline.start + outline.size → (HoldsMessage new → ⊥)
none_within held first new outlined outline same says is longer short = no_message_short held first new outline same (good_outline first first outlined outline says refl is) longer short

-- the message
pub message_fetched : {T : Type 0} {held middle new last : List ℕ} {left between after : Option (List ℕ)} {faults counted now : ℕ} {beside besides still : Side} {value : T} {whole : Bool} (outline : Outline) (message : Message)
    → Takes held middle left between faults counted beside besides (Ok value) → (middle ≡ held) ⊎ HadNoHead middle → IsOutline middle outline → Takes middle new between after counted now besides still (Ok whole)
    → whole ≡ true → BringsUpTo (outline.start + outline.size) new after (Ok whole) → length new ≤ max (length middle) (outline.start + outline.size + 4095)
    → message.body ≡ take outline.size (drop outline.start new) → last ≡ drop outline.size (drop outline.start new) → message.method ≡ outline.method → message.target ≡ outline.target → message.last ≡ outline.last
    → Fetches held last left after faults now beside still (Ok (nexts.Message message))
message_fetched {held = held} {middle} {new} {last} {left} {between} {after} outline message first late is then went brings few body rest method target ends =
    let fits : BringsUpTo (outline.start + outline.size) new after (Ok true) = subst (λ (b : Bool). BringsUpTo (outline.start + outline.size) new after (Ok b)) went brings in
    let both = takes_same message (takes_more _ first then) in
    record {
      answers = message_answers _ _ _ middle new last outline message first.stream is then.stream fits body rest method target ends;
      leaves = tt;
      surplus = λ _ part. part_of_take held middle new last outline is late few rest part;
      waits = λ is. absurd (cc);
      cause = record { later = both.cause.later; fault = λ is. absurd (cc) };
      apart = both.apart;
    }

-- WHERE A WHOLE MESSAGE WAS HELD

pub holds_head : {held : List ℕ} → HoldsMessage held → HoldsHead held
holds_head holds = (holds.2.head, holds.0.body ++ holds.1, holds.2.begins)

pub holds_whole : (held new first : List ℕ) (outlined : Outlined) (outline : Outline) → new ≡ held → Outlines first outlined → first ≡ new → outlined ≡ Good outline → HoldsMessage held → outline.start + outline.size ≤ length new
holds_whole held new first outlined outline e says same is holds = whole_message held new outline holds.0 holds.1 e (good_outline new first outlined outline says same is) holds.2

-- the same of bytes that are held under another name
pub fetched_of : {inside held new : List ℕ} {left after : Option (List ℕ)} {faults now : ℕ} {beside still : Side} {result : Result Next WireFault} → inside ≡ held → Fetches inside new left after faults now beside still result → Fetches held new left after faults now beside still result
fetched_of {new = new} {left} {after} {faults} {now} {beside} {still} {result} same fetches = subst (λ (l : List ℕ). Fetches l new left after faults now beside still result) same fetches
