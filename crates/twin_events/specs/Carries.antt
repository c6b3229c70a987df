-- What carrying a packet comes to, by its place in the list of what was sent, from 1.
use Rattle.std.specs.Prelude.{◌≡◌, ◌⊎◌, ℕ, ◌+◌, ◌<◌, Bool, true, false, List, [], ◌∷◌, ◌++◌, length, slice_get, Option, Some, None, Result, Ok, Err}
use Rattle.std.specs.declared.alloc.AllocError.{AllocError}
use Rattle.change_feed.specs.declared.applied.Applied.{Applied}
use Rattle.change_feed.specs.declared.change.Change.{Change}
use Rattle.change_feed.specs.Applies.{Applies, Pair, decided}
use Rattle.change_feed.specs.Marks.{last_of}
use Rattle.cut_follower.specs.Lossy.{arrived, heard, packet_of, ran_out}
use Rattle.outbox.specs.declared.packet.Packet.{Packet}
use Rattle.outbox.specs.declared.packet.Packet.TheVariants as packets
use Rattle.outbox.specs.Posts.{Hears, Outgoing}
use Rattle.twin_events.specs.declared.carried.CarriedPacket.{CarriedPacket}
use Rattle.twin_events.specs.declared.carried.CarriedPacket.TheVariants as carried
use Rattle.twin_events.specs.Twins.{LeadsBy, TwinStanding}

-- how often the disk of the marks has failed, and that of the cabinet
pub record Counts : Type 0 where
  pub marks : ℕ
  pub cabinet : ℕ

abbrev pub counts : ℕ → ℕ → Counts
counts marks cabinet = record { marks = marks; cabinet = cabinet }

-- the follower, with its counts
abbrev pub follower : TwinStanding → Counts → Pair
follower s n = record { stand = s.stand; faults = n.marks; cabinet = s.cabinet; cabinet_faults = n.cabinet }

-- no packet has the place
abbrev pub IsOutside : ℕ → List Packet → Type 0
IsOutside place sent = (place ≡ 0) ⊎ (length sent < place)

-- this packet has the place, which an event counts from 0
pub record IsThere (sent : List Packet) (place at : ℕ) (packet : Packet) : Type 0 where
  pub counted : place ≡ at + 1
  pub found : slice_get sent at ≡ Some packet

-- the packet that has the place, or none has it
abbrev pub FindsAt : List Packet → ℕ → Option Packet → Type 0
FindsAt sent place None = IsOutside place sent
FindsAt sent place (Some packet) = (at : ℕ) × IsThere sent place at packet

-- the change there came to the follower and was answered by its row, and what is seen then was sent, to this place
pub record IsTakenAt (s : TwinStanding) (before : Counts) (place number : ℕ) (reply : Applied) (seen : ℕ) (t : TwinStanding) (after : Counts) : Type 0 where
  pub at : ℕ
  pub change : Change
  pub there : IsThere s.sent place at (packet_of change)
  pub numbered : number ≡ change.number
  pub row : Applies (follower s before) change reply (follower t after)
  pub seen_is : seen ≡ length t.sent
  pub leads : LeadsBy (arrived at change reply ∷ []) s t

-- the `Seen` there came to the leader, and is news or not
pub record IsHeardAt (s : TwinStanding) (before : Counts) (place i : ℕ) (news : Bool) (t : TwinStanding) (after : Counts) : Type 0 where
  pub at : ℕ
  pub there : IsThere s.sent place at (packets.Seen i)
  pub same_counts : after ≡ before
  pub leads : LeadsBy (heard at i news ∷ []) s t

-- THE ROWS
abbrev pub Carries : TwinStanding → Counts → ℕ → Option CarriedPacket → TwinStanding → Counts → Type 0
Carries s before place None t after = IsOutside place s.sent × (t ≡ s) × (after ≡ before)
Carries s before place (Some (carried.Taken number reply seen)) t after = IsTakenAt s before place number reply seen t after
Carries s before place (Some (carried.Heard i)) t after = IsHeardAt s before place i true t after
Carries s before place (Some carried.Ignored) t after = (i : ℕ) × IsHeardAt s before place i false t after

-- memory ran out in the follower's call for the change there
pub record IsStarvedAt (s : TwinStanding) (place : ℕ) (t : TwinStanding) : Type 0 where
  pub at : ℕ
  pub change : Change
  pub there : IsThere s.sent place at (packet_of change)
  pub leads : LeadsBy (ran_out at change ∷ []) s t

-- where memory ran out: nothing changed, or it did in the follower's call
abbrev pub RunsOut : TwinStanding → ℕ → TwinStanding → Type 0
RunsOut s place t = (t ≡ s) ⊎ IsStarvedAt s place t

-- A TIE between the code and these definitions: the promise can be read without it.

-- what is heard of a `Seen`
abbrev pub HearsAs : Outgoing → ℕ → CarriedPacket → Outgoing → Type 0
HearsAs s i (carried.Taken number reply seen) t = ⊥
HearsAs s i (carried.Heard j) t = (j ≡ i) × Hears s (packets.Seen i) true t
HearsAs s i carried.Ignored t = Hears s (packets.Seen i) false t

-- what a change came to at the follower, and what had been sent before it and then
abbrev pub TakesAs : Pair → Change → List Packet → Result CarriedPacket AllocError → Pair → List Packet → Type 0
TakesAs s change sent (Ok (carried.Taken number reply seen)) t then_sent =
    (number ≡ change.number) × Applies s change reply t × (then_sent ≡ sent ++ packets.Seen (last_of t.stand.mark) ∷ []) × (seen ≡ length then_sent)
TakesAs s change sent (Ok (carried.Heard i)) t then_sent = ⊥
TakesAs s change sent (Ok carried.Ignored) t then_sent = ⊥
TakesAs s change sent (Err fault) t then_sent = (t.cabinet ≡ s.cabinet) × ((t.stand ≡ s.stand) ⊎ (t.stand ≡ decided s.stand)) × (then_sent ≡ sent)
