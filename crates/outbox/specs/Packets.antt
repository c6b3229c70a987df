-- Packets: how one is spelled in 64 bytes, and which numbers it may have.
use Rattle.std.specs.Prelude.{◌≡◌, ◌↔◌, ℕ, ◌<◌, ◌≤◌, ◌^◌, List, ◌∷◌, ◌++◌, length, replicate, Option, Some, None, IfSome}
use Rattle.std.specs.List.{AllByRecursion}
use Rattle.byteorder.specs.Endian.{big_bytes}
use Rattle.record_text.specs.declared.entries.Record.{Record}
use Rattle.record_text.specs.declared.entries.Record.TheVariants as record_of
use Rattle.record_text.specs.Fits.{Fits}
use Rattle.record_text.specs.Spelling.{spelling}
use Rattle.truncation_list.specs.Covers.{IsWithinReach}
use Rattle.truncation_list.specs.declared.cover.Cover.{Cover}
use Rattle.outbox.specs.declared.packet.Packet.{Packet}
use Rattle.outbox.specs.declared.packet.Packet.TheVariants as packet

-- a byte for its kind, and for a change the body of the record of a cut with its number and cover, else the number and zeros
abbrev pub packet_text : Packet → List ℕ
packet_text (packet.Change n cover) = 1 ∷ spelling (record_of.Cut n cover)
packet_text (packet.Seen n) = 2 ∷ (big_bytes 8 n ++ replicate 55 0)

-- the number and the cover of a record that is a cut's
abbrev pub cut_in : Option Record → Option (ℕ × Cover)
cut_in None = None
cut_in (Some (record_of.Opened opening floor)) = None
cut_in (Some (record_of.Stored number key place size moment uses)) = None
cut_in (Some (record_of.Dropped number key)) = None
cut_in (Some (record_of.Cut number cover)) = Some (number, cover)
cut_in (Some (record_of.Uses number key uses)) = None

-- its numbers fit their fields
abbrev pub FitsPacket : Packet → Type 0
FitsPacket (packet.Change n cover) = Fits (record_of.Cut n cover)
FitsPacket (packet.Seen n) = n < 2 ^ 64

-- a cover that a catalogue may have, by the limits of catalogues: 64 layers, 16 grids, 30 matrices a grid, 32 styles a layer, 4 dimensions,
-- 1,024 values a dimension, coordinates of 10^8 units
pub record IsRangedCover (cover : Cover) : Type 0 where
  pub layer : cover.layer < 64
  pub grid : cover.grid < 16
  pub z_start : cover.z_start < 30
  pub z_stop : cover.z_stop < 30
  pub style : IfSome cover.filter.style (λ style. style < 32)
  pub four : length cover.filter.dims ≡ 4
  pub values : AllByRecursion (λ wanted. IfSome wanted (λ value. value < 1024)) cover.filter.dims
  pub reach : IsWithinReach cover

-- the numbers of a change are of some catalogue's, from 1 on
abbrev pub IsRanged : Packet → Type 0
IsRanged (packet.Change n cover) = (1 ≤ n) × (n < 2 ^ 64) × IsRangedCover cover
IsRanged (packet.Seen n) = n < 2 ^ 64

-- the packet that bytes spell, where one with such numbers does
abbrev pub IsReadAs : List ℕ → Option Packet → Type 0
IsReadAs bytes found = (p : Packet) → (found ≡ Some p) ↔ ((packet_text p ≡ bytes) × IsRanged p)
