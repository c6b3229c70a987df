-- What a follower's side of a link does: which changes arrive, what becomes of each, what it sends, and how it ends.
use Rattle.std.specs.Prelude.{◌≡◌, ◌⊎◌, ℕ, ◌<◌, ◌≤◌, Bool, IsTrue, List, [], ◌∷◌, ◌++◌, length, flat_map, map, ⊤}
use Rattle.std.specs.List.{AllByRecursion}
use Rattle.cabinet.specs.State.{IsSound, now}
use Rattle.catalog.specs.declared.catalogue.Catalogue.{Catalogue}
use Rattle.change_feed.specs.declared.applied.Applied.{Applied}
use Rattle.change_feed.specs.declared.applied.Applied.TheVariants as applied
use Rattle.change_feed.specs.declared.change.Change.{Change}
use Rattle.change_feed.specs.Applies.{Pair, decided}
use Rattle.change_feed.specs.Files.{MayEndIn, Stand}
use Rattle.change_feed.specs.Marks.{last_of}
use Rattle.change_feed.specs.Runs.{FeedAndCabinet, FeedEvent, Runs, called}
use Rattle.cut_follower.specs.declared.ends.LinkEnd.{LinkEnd}
use Rattle.cut_follower.specs.declared.ends.LinkEnd.TheVariants as link_end
use Rattle.cut_follower.specs.declared.taken.Taken.TheVariants as taken
use Rattle.cut_follower.specs.Links.{HasEnded, HasMissed, HasSent, HasTaken, IsCutShort, IsPart, LinkAt}
use Rattle.cut_follower.specs.Takes.{IsOfCatalogue, Takes}
use Rattle.disk_model.specs.Content.{Content}
use Rattle.disk_model.specs.Images.{DiskState, Leaves}
use Rattle.outbox.specs.declared.packet.Packet.{Packet}
use Rattle.outbox.specs.declared.packet.Packet.TheVariants as packets
use Rattle.outbox.specs.Packets.{IsRanged, packet_text}
use Rattle.served_covers.specs.OfCatalogue.{IsCoverOf}
use Rattle.truncation_list.specs.declared.book.Cut.{Cut}
use Rattle.truncation_list.specs.declared.cover.Cover.{Cover}
use Rattle.truncation_list.specs.Books.{AnswersFor}

-- how many packets a link may bring
abbrev pub most_packets : ℕ
most_packets = 1000000

-- ARRIVALS

-- a change that arrived, what became of it, and the feed and the cabinet after it
pub record Arrival : Type 0 where
  pub change : Change
  pub reply : Applied
  pub after : Pair

-- the packet that it came in, and the one that tells which changes are in force after it
abbrev pub came_in : Arrival → Packet
came_in x = packets.Change x.change.number x.change.cover

abbrev pub seen_of : Arrival → Packet
seen_of x = packets.Seen (last_of x.after.stand.mark)

-- each packet is a change of the cabinet's catalogue, and was taken by its row: from the pair before it to the pair after it
abbrev pub Arrive : Pair → List Arrival → Pair → Type 0
Arrive s [] t = t ≡ s
Arrive s (x ∷ xs) t = IsOfCatalogue s.cabinet.catalogue (came_in x) × Takes s (came_in x) (taken.Answer x.reply (seen_of x)) x.after × Arrive x.after xs t

-- the bytes that they came in, and those that tell of them
abbrev pub bytes_of : List Arrival → List ℕ
bytes_of xs = flat_map (λ x. packet_text (came_in x)) xs

abbrev pub seen_in : List Arrival → List ℕ
seen_in xs = flat_map (λ x. packet_text (seen_of x)) xs

-- the change was made, or had been made before: a link goes on behind it
abbrev pub IsMade : Applied → Type 0
IsMade applied.Repeated = ⊤
IsMade (applied.Gap k) = ⊥
IsMade (applied.FeedFault cut) = ⊥
IsMade applied.Spent = ⊥
IsMade applied.Full = ⊥
IsMade (applied.DiskFault before after) = ⊥
IsMade (applied.Done k) = ⊤

abbrev pub AreMade : List Arrival → Type 0
AreMade xs = AllByRecursion (λ x. IsMade x.reply) xs

-- HOW THEY END

-- All that arrived were made and told, there may be more of them, and these bytes came behind them, and no others.
pub record AreTold (a b : LinkAt) (xs : List Arrival) (bytes : List ℕ) : Type 0 where
  pub made : AreMade xs
  pub few : length xs < most_packets
  pub taken : HasTaken a b (bytes_of xs ++ bytes)
  pub sent : HasSent a b (seen_in xs)

-- What arrived last is this one. All before it were made and told.
pub record EndsWith (a b : LinkAt) (xs before : List Arrival) (last : Arrival) : Type 0 where
  pub whole : xs ≡ before ++ last ∷ []
  pub made : AreMade before
  pub few : length xs ≤ most_packets
  pub taken : HasTaken a b (bytes_of xs)

-- 64 bytes are no change that is in its ranges and of the catalogue
pub record IsNoChange (c : Catalogue) (bytes : List ℕ) : Type 0 where
  pub size : length bytes ≡ 64
  pub none : (n : ℕ) (cover : Cover) → IsRanged (packets.Change n cover) → packet_text (packets.Change n cover) ≡ bytes → IsCoverOf c cover → ⊥

-- what each end says
abbrev pub FollowEnds : Catalogue → LinkAt → LinkAt → List Arrival → LinkEnd → Type 0
FollowEnds c a b xs link_end.Finished = AreTold a b xs [] × HasEnded b
FollowEnds c a b xs link_end.Truncated = (part : List ℕ) × AreTold a b xs part × (0 < length part) × IsPart part × HasEnded b
FollowEnds c a b xs link_end.BadPacket = (bytes : List ℕ) × AreTold a b xs bytes × IsNoChange c bytes
FollowEnds c a b xs link_end.ReadFault = (part : List ℕ) × AreTold a b xs part × IsPart part × HasMissed a b
FollowEnds c a b xs link_end.WriteFault =
    (before : List Arrival) × (last : Arrival) × EndsWith a b xs before last × IsMade last.reply × IsCutShort a b (seen_in before) (packet_text (seen_of last))
FollowEnds c a b xs (link_end.Stopped reply) =
    (before : List Arrival) × (last : Arrival) × EndsWith a b xs before last × (last.reply ≡ reply) × (IsMade reply → ⊥) × HasSent a b (seen_in before)
FollowEnds c a b xs link_end.TooMany = AreMade xs × (length xs ≡ most_packets) × HasTaken a b (bytes_of xs) × HasSent a b (seen_in xs)
FollowEnds c a b xs link_end.OutOfMemory =
    (n : ℕ) × (cover : Cover) × AreTold a b xs (packet_text (packets.Change n cover)) × IsCoverOf c cover

-- memory ran out in a call behind the last arrival: the cabinet and the last change are as they were
pub record IsStarved (last t : Pair) : Type 0 where
  pub cabinet : t.cabinet ≡ last.cabinet
  pub stand : t.stand ≡ decided last.stand
  pub faults : last.faults ≤ t.faults
  pub cabinet_faults : last.cabinet_faults ≤ t.cabinet_faults

-- at each other end the feed and the cabinet are as the last arrival left them
abbrev pub IsLeftAt : Pair → Pair → LinkEnd → Type 0
IsLeftAt last t link_end.Finished = t ≡ last
IsLeftAt last t link_end.Truncated = t ≡ last
IsLeftAt last t link_end.BadPacket = t ≡ last
IsLeftAt last t link_end.ReadFault = t ≡ last
IsLeftAt last t link_end.WriteFault = t ≡ last
IsLeftAt last t (link_end.Stopped reply) = t ≡ last
IsLeftAt last t link_end.TooMany = t ≡ last
IsLeftAt last t link_end.OutOfMemory = IsStarved last t

-- WHAT IS IN FORCE

-- the cut of a change that was done
abbrev pub cut_of : Change → Applied → List Cut
cut_of change applied.Repeated = []
cut_of change (applied.Gap k) = []
cut_of change (applied.FeedFault cut) = []
cut_of change applied.Spent = []
cut_of change applied.Full = []
cut_of change (applied.DiskFault before after) = []
cut_of change (applied.Done k) = record { number = k; cover = change.cover } ∷ []

abbrev pub cuts_of : List Arrival → List Cut
cuts_of xs = flat_map (λ x. cut_of x.change x.reply) xs

-- there is a cut for each change up to the last one that is marked, and the cabinet answers for each of them
pub record AreInForce (s : Pair) (cuts : List Cut) : Type 0 where
  pub counted : length cuts ≡ last_of s.stand.mark
  pub answered : AllByRecursion (AnswersFor (now s.cabinet).book) cuts

-- THE WHOLE

-- at a moment of the arrivals an image of the marks ends in a mark of the stand before them, or of one after an arrival
abbrev pub MayEndAlong : List ℕ → Stand → List Arrival → Content → Type 0
MayEndAlong digest s [] image = MayEndIn digest s image
MayEndAlong digest s (x ∷ xs) image = MayEndIn digest s image ⊎ MayEndAlong digest x.after.stand xs image

-- the arrivals as events of a run of the feed on the cabinet
abbrev pub stores_of : Pair → FeedAndCabinet
stores_of s = record { stand = s.stand; cabinet = s.cabinet }

abbrev pub events_of : List Arrival → List FeedEvent
events_of xs = map (λ x. called x.change x.reply) xs

-- From s the arrivals lead to the last pair, and end so, with t. At every moment an image of the marks ends in a mark of a stand that they
-- led through. Where there were cuts for all changes so far, which the cabinet answers for, there are with those of the changes that were
-- done now; and each `Seen` is of a change that is marked at the end.
pub record FollowsOn (told : Bool) (digest : List ℕ) (from to : DiskState) (a b : LinkAt) (s t : Pair) (e : LinkEnd) : Type 0 where
  pub arrivals : List Arrival
  pub last : Pair
  pub arrive : Arrive s arrivals last
  pub ends : FollowEnds s.cabinet.catalogue a b arrivals e
  pub left : IsLeftAt last t e
  pub runs : Runs (stores_of s) (events_of arrivals) (stores_of last)
  pub images : IsTrue told → Leaves from to (MayEndAlong digest s.stand arrivals)
  pub in_force : (cuts : List Cut) → AreInForce s cuts → AreInForce t (cuts ++ cuts_of arrivals)
  pub acknowledged : AllByRecursion (λ x. last_of x.after.stand.mark ≤ last_of t.stand.mark) arrivals
  pub same_catalogue : t.cabinet.catalogue ≡ s.cabinet.catalogue
  pub still_sound : IsSound s.cabinet → IsSound t.cabinet
