-- An order that was answered, and one that was not, by the clauses of a twin's calls.
use Rattle.std.proofs.Common.{◌≡◌, ℕ, ◌≤◌, [], ◌∷◌, Option, Some, refl, sym, subst, ap, arith, inl, inr}
use Rattle.cabinet.specs.declared.replies.Asked.TheVariants as asked
use Rattle.cache_file.specs.declared.file.CacheFile.{CacheFile}
use Rattle.catalog.specs.declared.catalogue.Catalogue.{Catalogue}
use Rattle.change_feed.specs.Files as feeds
use Rattle.cut_follower.specs.Lossy as lossy
use Rattle.cut_follower.specs.Lossy.{LinkEvent, Lossy}
use Rattle.disk_model.specs.Content.{Content}
use Rattle.disk_model.specs.Images.{DiskState, Leaves}
use Rattle.disk_model.specs.Moments.{leaves_none}
use Rattle.sessions.specs.Outside.{OutputChange}
use Rattle.matrix_geometry.specs.declared.address.Address.{Address}
use Rattle.outbox.specs.Posts as outboxes
use Rattle.twin_events.specs.declared.carried.CarriedPacket.{CarriedPacket}
use Rattle.twin_events.specs.Carries as carries
use Rattle.twin_events.specs.Gets.{Failures, RunsOut, events_of}
use Rattle.twin_events.specs.Twins.{IsAt, TwinStanding}
use Rattle.twin_lines.specs.declared.line_end.TwinLineEnd.{TwinLineEnd}
use Rattle.twin_lines.specs.declared.line_end.TwinLineEnd.TheVariants as line_end
use Rattle.twin_lines.specs.declared.order.TwinOrder.{TwinOrder}
use Rattle.twin_lines.specs.Ends.{DiskPassage, RunsShort}
use Rattle.twin_lines.specs.OneLine.{IsLineAnswered, IsToldAs, RunsOrder}
use Rattle.twin_lines.specs.Steps.{Starves, TwinAnswer, TwinMoment}
use Rattle.twin_lines.specs.Texts.{answer_text}

-- the answer was told, or a write of it failed
pub told_as : (c : Catalogue) (source : Option ℕ) (outbox : DiskPassage) (read : Option TwinOrder) (n : ℕ) (o : OutputChange) (Stays : Type 0) (s t : TwinMoment) (answer : TwinAnswer) (end : TwinLineEnd)
    → IsLineAnswered c source outbox read s answer t → IsToldAs o (answer_text n answer) end → RunsOrder c source outbox read n o Stays s t end
told_as c source outbox read n o Stays s t answer line_end.Told is told = (answer, is, told)
told_as c source outbox read n o Stays s t answer line_end.WriteFault is told = (answer, is, told)
told_as c source outbox read n o Stays s t answer (line_end.Stop which) is told = absurd told
told_as c source outbox read n o Stays s t answer line_end.Refused is told = absurd told
told_as c source outbox read n o Stays s t answer line_end.OutOfMemory is told = absurd told

-- what was read, by another name
pub reads_as : (c : Catalogue) (source : Option ℕ) (outbox : DiskPassage) (given : TwinOrder) (read : TwinOrder) (n : ℕ) (o : OutputChange) (Stays : Type 0) (s t : TwinMoment) (end : TwinLineEnd)
    → read ≡ given → RunsOrder c source outbox (Some given) n o Stays s t end → RunsOrder c source outbox (Some read) n o Stays s t end
reads_as c source outbox given read n o Stays s t end is runs = subst (λ (x : TwinOrder). RunsOrder c source outbox (Some x) n o Stays s t end) (sym is) runs

-- what was found at a place
pub carries_some : (s : TwinStanding) (before : carries.Counts) (place : ℕ) (found : Option CarriedPacket) (arrival : CarriedPacket) (t : TwinStanding) (after : carries.Counts) → found ≡ Some arrival → carries.Carries s before place found t after → carries.Carries s before place (Some arrival) t after
carries_some s before place found arrival t after is row = subst (λ (x : Option CarriedPacket). carries.Carries s before place x t after) is row

-- a disk that stays leaves what it did
pub leaves_same : (from to : DiskState) (P : Content → Type 0) → to ≡ from → Leaves from to P
leaves_same from to P same = subst (λ (x : DiskState). Leaves from x P) (sym same) (leaves_none from P)

-- parts of an outbox that stays
pub file_same : {D : Type 0} (x y : outboxes.ShownOutbox D) → y ≡ x → y.file ≡ x.file
file_same {D} x y same = ap (λ (z : outboxes.ShownOutbox D). z.file) same

pub disk_same : {D : Type 0} (x y : CacheFile D) → y ≡ x → y.disk ≡ x.disk
disk_same {D} x y same = ap (λ (z : CacheFile D). z.disk) same

-- and the file of a feed that does
pub marks_same : {D : Type 0} (x y : feeds.ShownFeed D) → y ≡ x → y.file ≡ x.file
marks_same {D} x y same = ap (λ (z : feeds.ShownFeed D). z.file) same

-- a count that stays doesn't fall
pub same_below : (a b : ℕ) → b ≡ a → a ≤ b
same_below a b same = omega (arith, same)

-- WANT OF MEMORY

-- nothing happened
pub starves_none : (s t : TwinStanding) → t ≡ s → Starves s t
starves_none s t same = record { events = []; unanswered = tt; leads = λ l at. (l, subst (λ (x : TwinStanding). IsAt x l) (sym same) at, refl) }

pub short_here : (s : TwinMoment) → RunsShort s s
short_here s = record { starves = starves_none s.stands s.stands refl; later = record { source = omega arith; outbox = omega arith; marks = omega arith; cabinet = omega arith } }

-- it did in the follower's call
pub starves_carry : (s t : TwinStanding) (place : ℕ) → carries.RunsOut s place t → Starves s t
starves_carry s t place (inl same) = starves_none s t same
starves_carry s t place (inr is) = record { events = lossy.ran_out is.at is.change ∷ []; unanswered = (tt, tt); leads = is.leads }

-- it did in a render, or before the tile was asked for
pub starves_get : (s t : TwinStanding) (before after : Failures) (address : Address) → RunsOut s before address t after → Starves s t
starves_get s t before after address (inl same) = starves_none s t same
starves_get s t before after address (inr back) = record { events = events_of address (asked.Ticket back.ticket); unanswered = (tt, (tt, tt)); leads = back.leads }
