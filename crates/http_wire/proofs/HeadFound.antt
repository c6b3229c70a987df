-- What is found once a head may end in the bytes that were taken last.
use Rattle.std.proofs.Common.{◌≡◌, ℕ, ◌<◌, List, length, Option, Bool, true, false, Result, Ok, Err, IfSome, subst, arith}
use Rattle.std.specs.Io.KnownBytes.{prepend_known}
use Rattle.std.proofs.lemmas.List.{take_all}
use Rattle.httparse.specs.Grammar.{HasNoRequest}
use Rattle.httparse.specs.declared.spans.HeaderSpan.{HeaderSpan}
use Rattle.http_wire.specs.Messages.{StopsAs}
use Rattle.http_wire.specs.Looks.{HadNoHead, MayHaveHead, Settles}
use Rattle.http_wire.specs.Takes.{BringsLine, Finds}
use Rattle.http_wire.specs.declared.look.LookOutcome.{LookOutcome}
use Rattle.http_wire.specs.declared.message.Stop.{Stop}
use Rattle.http_wire.specs.declared.message.WireFault.{WireFault}
use Rattle.http_wire.proofs.FrontGrows.{ended_at_end, settled}
use Rattle.http_wire.proofs.Surplus.{none_now}

-- bytes that may still have a head have none yet
none_yet : (held : List ℕ) → MayHaveHead held → HasNoRequest held
none_yet held unsettled = subst HasNoRequest (take_all 16384 held (omega (arith, unsettled.short))) unsettled.unfinished.none

-- the source ends
pub found_at_end : (held new slice : List ℕ) (after : Option (List ℕ)) (more : Bool) (stop : Stop) → MayHaveHead held → more ≡ false → BringsLine held new after (Ok more) → slice ≡ new → StopsAs slice stop → IfSome (prepend_known new after) (λ stream. StopsAs stream stop) × HadNoHead new
found_at_end held new slice after more stop unsettled went brings same stops =
    let ended : BringsLine held new after (Ok false) = subst (λ (b : Bool). BringsLine held new after (Ok b)) went brings in
    (ended_at_end after new slice stop ended.0 same stops, none_now held new ended.1 (none_yet held unsettled))

-- the bytes settle what comes
pub found_late : (held new slice : List ℕ) (after : Option (List ℕ)) (headers : List HeaderSpan) (more : Bool) (found : LookOutcome) → MayHaveHead held → more ≡ true → BringsLine held new after (Ok more) → slice ≡ new → Settles slice headers found → Finds new after headers (Ok found)
found_late held new slice after headers more found unsettled went brings same settles =
    let line : BringsLine held new after (Ok true) = subst (λ (b : Bool). BringsLine held new after (Ok b)) went brings in
    (settled slice new headers after found same settles, line.1 (none_yet held unsettled))

-- a take fails
pub none_found : (held new : List ℕ) (after : Option (List ℕ)) (headers : List HeaderSpan) (told : WireFault) (result : Result LookOutcome WireFault) → MayHaveHead held → (HasNoRequest held → HasNoRequest new) → result ≡ Err told → Finds new after headers result
none_found held new after headers told result unsettled waits is = rw is (waits (none_yet held unsettled))

-- more bytes than those that were held
pub line_grows : (held new : List ℕ) (after : Option (List ℕ)) (more : Bool) → more ≡ true → BringsLine held new after (Ok more) → length held < length new
line_grows held new after more went brings =
    let line : BringsLine held new after (Ok true) = subst (λ (b : Bool). BringsLine held new after (Ok b)) went brings in line.0
