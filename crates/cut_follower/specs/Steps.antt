-- What one exchange of a leader and one arrival at a follower come to.
-- A tie between the code and its definitions: the promise can be read without it.
use Rattle.std.specs.Prelude.{◌≡◌, ◌⊎◌, ℕ, ◌<◌, ◌≤◌, Bool, true, false, IsTrue, List, [], length, Result, Ok, Err, ⊤}
use Rattle.cabinet.specs.State.{IsSound, now}
use Rattle.catalog.specs.declared.catalogue.Catalogue.{Catalogue}
use Rattle.change_feed.specs.declared.applied.Applied.{Applied}
use Rattle.change_feed.specs.declared.change.Change.{Change}
use Rattle.change_feed.specs.Applies.{Applies, Pair}
use Rattle.change_feed.specs.Files.{MayEndIn}
use Rattle.change_feed.specs.Marks.{last_of}
use Rattle.cut_follower.specs.declared.following.Arrived.{Arrived}
use Rattle.cut_follower.specs.declared.following.Arrived.TheVariants as arrived
use Rattle.cut_follower.specs.declared.leading.Exchanged.{Exchanged}
use Rattle.cut_follower.specs.declared.leading.Exchanged.TheVariants as exchanged
use Rattle.cut_follower.specs.declared.taken.Taken.TheVariants as taken
use Rattle.cut_follower.specs.Following.{IsMade, IsNoChange, IsStarved}
use Rattle.cut_follower.specs.Leading.{IsNoAnswer}
use Rattle.cut_follower.specs.Links.{GoesOnto, HasEnded, HasMissed, HasSent, HasTaken, IsPart, LinkAt}
use Rattle.cut_follower.specs.Takes.{IsOfCatalogue, Takes}
use Rattle.disk_model.specs.Images.{DiskState, Leaves}
use Rattle.outbox.specs.declared.packet.Packet.{Packet}
use Rattle.outbox.specs.declared.packet.Packet.TheVariants as packets
use Rattle.outbox.specs.Packets.{packet_text}
use Rattle.outbox.specs.Posts.{Hears, Outgoing}
use Rattle.served_covers.specs.OfCatalogue.{IsCoverOf}
use Rattle.truncation_list.specs.Books.{AnswersForBook}

-- A LEADER

-- 64 bytes are heard: they are news, or no answer
abbrev pub HearsBytes : Outgoing → List ℕ → Bool → Outgoing → Type 0
HearsBytes s bytes true t = (packet : Packet) × (packet_text packet ≡ bytes) × Hears s packet true t
HearsBytes s bytes false t = IsNoAnswer s bytes × (t ≡ s)

-- the post went out, and nothing was heard
pub record IsUnheard (a b : LinkAt) (post : Packet) (s t : Outgoing) (bytes : List ℕ) : Type 0 where
  pub same : t ≡ s
  pub sent : HasSent a b (packet_text post)
  pub taken : HasTaken a b bytes

abbrev pub ExchangesOne : LinkAt → LinkAt → Packet → Outgoing → Exchanged → Outgoing → Type 0
ExchangesOne a b post s exchanged.Heard t = (packet : Packet) × HasSent a b (packet_text post) × HasTaken a b (packet_text packet) × Hears s packet true t
ExchangesOne a b post s exchanged.Truncated t = (part : List ℕ) × IsUnheard a b post s t part × IsPart part × HasEnded b
ExchangesOne a b post s exchanged.BadPacket t = (bytes : List ℕ) × IsUnheard a b post s t bytes × IsNoAnswer s bytes
ExchangesOne a b post s exchanged.ReadFault t = (part : List ℕ) × IsUnheard a b post s t part × IsPart part × HasMissed a b
ExchangesOne a b post s exchanged.WriteFault t = (t ≡ s) × HasTaken a b [] × GoesOnto a b (packet_text post) false

-- A FOLLOWER

-- a packet of the catalogue came, or why none did
abbrev pub ComesAs : Catalogue → LinkAt → LinkAt → Result Packet Arrived → Type 0
ComesAs c a b (Ok packet) = IsOfCatalogue c packet × HasTaken a b (packet_text packet) × (length (packet_text packet) ≡ 64)
ComesAs c a b (Err arrived.AtEnd) = HasTaken a b [] × HasEnded b
ComesAs c a b (Err arrived.Truncated) = (part : List ℕ) × HasTaken a b part × (0 < length part) × IsPart part × HasEnded b
ComesAs c a b (Err arrived.BadPacket) = (bytes : List ℕ) × HasTaken a b bytes × IsNoChange c bytes
ComesAs c a b (Err arrived.ReadFault) = (part : List ℕ) × HasTaken a b part × IsPart part × HasMissed a b
ComesAs c a b (Err arrived.Told) = ⊥
ComesAs c a b (Err arrived.WriteFault) = ⊥
ComesAs c a b (Err (arrived.Stopped stop)) = ⊥
ComesAs c a b (Err arrived.OutOfMemory) = ⊥

-- the packet is a change
abbrev pub IsChange : Packet → Type 0
IsChange (packets.Change n cover) = ⊤
IsChange (packets.Seen i) = ⊥

-- a change that was made or stopped at is told, or not
abbrev pub TellsOf : LinkAt → LinkAt → Applied → Packet → Arrived → Type 0
TellsOf a b reply seen arrived.Told = IsMade reply × HasSent a b (packet_text seen)
TellsOf a b reply seen arrived.WriteFault = IsMade reply × GoesOnto a b (packet_text seen) false
TellsOf a b reply seen (arrived.Stopped stop) = (stop ≡ reply) × (IsMade reply → ⊥) × HasSent a b []
TellsOf a b reply seen arrived.AtEnd = ⊥
TellsOf a b reply seen arrived.Truncated = ⊥
TellsOf a b reply seen arrived.BadPacket = ⊥
TellsOf a b reply seen arrived.ReadFault = ⊥
TellsOf a b reply seen arrived.OutOfMemory = ⊥

-- a packet was taken by its row, and this became of it; nothing more was taken off the link
abbrev pub MakesOne : LinkAt → LinkAt → Pair → Packet → Arrived → Pair → Type 0
MakesOne a b s packet arrived.Told t = (reply : Applied) × (seen : Packet) × Takes s packet (taken.Answer reply seen) t × TellsOf a b reply seen arrived.Told
MakesOne a b s packet arrived.WriteFault t = (reply : Applied) × (seen : Packet) × Takes s packet (taken.Answer reply seen) t × TellsOf a b reply seen arrived.WriteFault
MakesOne a b s packet (arrived.Stopped stop) t = (reply : Applied) × (seen : Packet) × Takes s packet (taken.Answer reply seen) t × TellsOf a b reply seen (arrived.Stopped stop)
MakesOne a b s packet arrived.BadPacket t = Takes s packet taken.NotAChange t × HasSent a b []
MakesOne a b s packet arrived.OutOfMemory t = IsChange packet × IsStarved s t × HasSent a b []
MakesOne a b s packet arrived.AtEnd t = ⊥
MakesOne a b s packet arrived.Truncated t = ⊥
MakesOne a b s packet arrived.ReadFault t = ⊥

-- nothing arrived
pub record IsUntold (a b : LinkAt) (s t : Pair) (bytes : List ℕ) : Type 0 where
  pub same : t ≡ s
  pub sent : HasSent a b []
  pub taken : HasTaken a b bytes

-- a change arrived, was made by its row, and this became of it
pub record IsTold (a b : LinkAt) (s : Pair) (reply : Applied) (t : Pair) (e : Arrived) : Type 0 where
  pub change : Change
  pub cover : IsCoverOf s.cabinet.catalogue change.cover
  pub row : Applies s change reply t
  pub taken : HasTaken a b (packet_text (packets.Change change.number change.cover))
  pub tells : TellsOf a b reply (packets.Seen (last_of t.stand.mark)) e

-- memory ran out, behind a change
pub record IsForgotten (a b : LinkAt) (s t : Pair) : Type 0 where
  pub change : Change
  pub cover : IsCoverOf s.cabinet.catalogue change.cover
  pub starved : IsStarved s t
  pub taken : HasTaken a b (packet_text (packets.Change change.number change.cover))
  pub sent : HasSent a b []

abbrev pub ArrivesOne : LinkAt → LinkAt → Pair → Arrived → Pair → Type 0
ArrivesOne a b s arrived.Told t = (reply : Applied) × IsTold a b s reply t arrived.Told
ArrivesOne a b s arrived.WriteFault t = (reply : Applied) × IsTold a b s reply t arrived.WriteFault
ArrivesOne a b s (arrived.Stopped stop) t = IsTold a b s stop t (arrived.Stopped stop)
ArrivesOne a b s arrived.AtEnd t = IsUntold a b s t [] × HasEnded b
ArrivesOne a b s arrived.Truncated t = (part : List ℕ) × IsUntold a b s t part × (0 < length part) × IsPart part × HasEnded b
ArrivesOne a b s arrived.BadPacket t = (bytes : List ℕ) × IsUntold a b s t bytes × IsNoChange s.cabinet.catalogue bytes
ArrivesOne a b s arrived.ReadFault t = (part : List ℕ) × IsUntold a b s t part × IsPart part × HasMissed a b
ArrivesOne a b s arrived.OutOfMemory t = IsForgotten a b s t

-- From s to t: at every moment an image of the marks ends in a mark of either stand; counts don't fall; and the cabinet has the catalogue
-- of before, answers for its book, and is sound where it was.
pub record GoesTo (told : Bool) (digest : List ℕ) (from to : DiskState) (s t : Pair) : Type 0 where
  pub images : IsTrue told → Leaves from to (λ image. MayEndIn digest s.stand image ⊎ MayEndIn digest t.stand image)
  pub later : s.faults ≤ t.faults
  pub cabinet_later : s.cabinet_faults ≤ t.cabinet_faults
  pub same_catalogue : t.cabinet.catalogue ≡ s.cabinet.catalogue
  pub answers : AnswersForBook (now t.cabinet).book (now s.cabinet).book
  pub still_sound : IsSound s.cabinet → IsSound t.cabinet
