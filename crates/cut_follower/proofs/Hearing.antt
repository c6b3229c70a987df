-- What the bytes of a packet are to a leader.
use Rattle.std.proofs.Common.{◌≡◌, ◌⊎◌, ◌↔◌, ℕ, ◌≤◌, ◌<◌, Bool, true, false, List, length, Option, Some, None, refl, subst, ap}
use Rattle.cut_follower.specs.Leading.{IsNoAnswer}
use Rattle.cut_follower.specs.Steps.{HearsBytes}
use Rattle.outbox.specs.declared.packet.Packet.{Packet}
use Rattle.outbox.specs.declared.packet.Packet.TheVariants as packets
use Rattle.outbox.specs.Packets.{IsRanged, packet_text}
use Rattle.outbox.specs.Posts.{Hears, Outgoing}

-- what bytes are read as
abbrev IsRead : List ℕ → Option Packet → Type 0
IsRead bytes found = (p : Packet) → (found ≡ Some p) ↔ ((packet_text p ≡ bytes) × IsRanged p)

abbrev or_zero : Option Packet → ℕ
or_zero None = 0
or_zero (Some (packets.Change n cover)) = 0
or_zero (Some (packets.Seen i)) = i

some_seen : (i j : ℕ) → Some (packets.Seen i) ≡ Some (packets.Seen j) → i ≡ j
some_seen i j is = ap or_zero is

no_answer : (s : Outgoing) (bytes : List ℕ) (packet : Packet) (t : Outgoing) → IsRead bytes (Some packet) → length bytes ≡ 64 → Hears s packet false t → IsNoAnswer s bytes × (t ≡ s)
no_answer s bytes (packets.Change n cover) t read size hears = (record { size = size; none = λ i small text. absurd (other ((read (packets.Seen i)).1 (text, small))) }, hears.1)
  where
    other : {i : ℕ} → Some (packets.Change n cover) ≡ Some (packets.Seen i) → ⊥
    other is = cc
no_answer s bytes (packets.Seen j) t read size hears =
    (record { size = size; none = λ i small text. subst (λ (k : ℕ). (k ≤ s.heard) ⊎ (length s.posts < k)) (some_seen j i ((read (packets.Seen i)).1 (text, small))) hears.0 }, hears.1)

pub heard_bytes : (s : Outgoing) (bytes : List ℕ) (packet : Packet) (news : Bool) (t : Outgoing) → IsRead bytes (Some packet) → length bytes ≡ 64 → Hears s packet news t → HearsBytes s bytes news t
heard_bytes s bytes packet true t read size hears = (packet, ((read packet).0 refl).0, hears)
heard_bytes s bytes packet false t read size hears = no_answer s bytes packet t read size hears

pub unheard_bytes : (s : Outgoing) (bytes : List ℕ) → IsRead bytes None → length bytes ≡ 64 → IsNoAnswer s bytes
unheard_bytes s bytes read size = record { size = size; none = λ i small text. absurd (none ((read (packets.Seen i)).1 (text, small))) }
  where
    none : {p : Packet} → None ≡ Some p → ⊥
    none is = cc
