-- A lossy link: a leader's outbox, a follower's feed with its cabinet, and every packet that was ever sent between them.
--
-- A packet that was sent arrives any number of times, in any order, or never: it is named by its place in the list of all that were sent.
-- A stop within a call is a call in which the disks fail from some call of theirs on: it is answered by its row, and behind it either
-- side may be opened from an image that its disks then have. A call of the leader's in which memory runs out changes nothing, and is no
-- event.
use Rattle.std.specs.Prelude.{◌≡◌, ◌⊎◌, ℕ, Bool, List, [], ◌∷◌, ◌++◌, slice_get, Option, Some, None, IsSome}
use Rattle.cabinet.specs.declared.replies.Asked.{Asked}
use Rattle.cabinet.specs.Commands.{Asks}
use Rattle.cabinet.specs.State.{State}
use Rattle.catalog.specs.LookUp.{IsTile}
use Rattle.change_feed.specs.declared.applied.Applied.{Applied}
use Rattle.change_feed.specs.declared.applied.Applied.TheVariants as applied
use Rattle.change_feed.specs.declared.change.Change.{Change}
use Rattle.change_feed.specs.Runs.{FeedAndCabinet}
use Rattle.change_feed.specs.Runs as feeds
use Rattle.matrix_geometry.specs.declared.address.Address.{Address}
use Rattle.outbox.specs.declared.packet.Packet.{Packet}
use Rattle.outbox.specs.declared.packet.Packet.TheVariants as packets
use Rattle.outbox.specs.declared.posted.Posted.{Posted}
use Rattle.outbox.specs.Posts.{Hears, MayBeFound, Outgoing, Posts, next_of}
use Rattle.served_covers.specs.OfCatalogue.{IsCoverOf}
use Rattle.truncation_list.specs.declared.book.Cut.{Cut}
use Rattle.truncation_list.specs.declared.cover.Cover.{Cover}
use Rattle.cut_follower.specs.declared.taken.Taken.{Taken}
use Rattle.cut_follower.specs.declared.taken.Taken.TheVariants as taken
use Rattle.cut_follower.specs.Takes.{IsOfCatalogue, Takes}

-- WHAT STANDS

-- The leader's posts and what it heard; the follower's feed and cabinet; the cuts of the changes that were applied, that of the change 1
-- first: the one that was answered as done, or the one in the mark that was found; the cut of the last change whose mark was left
-- undecided; and all packets that were sent.
pub record Lossy : Type 0 where
  pub out : Outgoing
  pub stores : FeedAndCabinet
  pub applied : List Cut
  pub unsure : Option Cut
  pub sent : List Packet

-- What happens: a cover is posted; the leader sends the first post that it hasn't heard as seen; the `Seen` at a place of what was sent
-- arrives at the leader, and is news or not; the outbox is opened from an image; the change at a place arrives at the follower and is
-- answered, or memory runs out there; the marks, or the cabinet, are opened from an image; another command of the cabinet is called; a
-- tile is asked of the follower
pub data LinkEvent : Type 0 where
  posted : Cover → Posted → LinkEvent
  next_sent : LinkEvent
  heard : ℕ → ℕ → Bool → LinkEvent
  outbox_opened : LinkEvent
  arrived : ℕ → Change → Applied → LinkEvent
  ran_out : ℕ → Change → LinkEvent
  marks_opened : LinkEvent
  cabinet_opened : LinkEvent
  commanded : LinkEvent
  asked : Address → Asked → LinkEvent

-- WHAT CHANGES

abbrev pub with_out : Lossy → Outgoing → Lossy
with_out l out = record { out = out; stores = l.stores; applied = l.applied; unsure = l.unsure; sent = l.sent }

abbrev pub with_stores : Lossy → FeedAndCabinet → Lossy
with_stores l stores = record { out = l.out; stores = stores; applied = l.applied; unsure = l.unsure; sent = l.sent }

abbrev pub with_cuts : Lossy → List Cut → Option Cut → Lossy
with_cuts l applied unsure = record { out = l.out; stores = l.stores; applied = applied; unsure = unsure; sent = l.sent }

abbrev pub with_sent : Lossy → List Packet → Lossy
with_sent l sent = record { out = l.out; stores = l.stores; applied = l.applied; unsure = l.unsure; sent = sent }

-- one more behind the list, where there is one
abbrev pub with_some : {X : Type 0} → List X → Option X → List X
with_some xs None = xs
with_some xs (Some x) = xs ++ x ∷ []

abbrev pub cut_for : Change → ℕ → Cut
cut_for change k = record { number = k; cover = change.cover }

-- the cuts applied after a change was answered: one more after `Done`
abbrev pub applied_after : List Cut → Change → Applied → List Cut
applied_after cuts change applied.Repeated = cuts
applied_after cuts change (applied.Gap k) = cuts
applied_after cuts change (applied.FeedFault cut) = cuts
applied_after cuts change applied.Spent = cuts
applied_after cuts change applied.Full = cuts
applied_after cuts change (applied.DiskFault before after) = cuts
applied_after cuts change (applied.Done k) = cuts ++ cut_for change k ∷ []

-- the cut whose mark was left undecided: that of this change, where the marks failed behind its cut
abbrev pub unsure_after : Option Cut → Change → Applied → Option Cut
unsure_after was change applied.Repeated = was
unsure_after was change (applied.Gap k) = was
unsure_after was change (applied.FeedFault None) = was
unsure_after was change (applied.FeedFault (Some k)) = Some (cut_for change k)
unsure_after was change applied.Spent = was
unsure_after was change applied.Full = was
unsure_after was change (applied.DiskFault before after) = was
unsure_after was change (applied.Done k) = was

-- THE EVENTS

-- a cover of the catalogue was posted, by its row
pub record IsPosted (l : Lossy) (cover : Cover) (reply : Posted) (m : Lossy) : Type 0 where
  pub served : IsCoverOf l.stores.cabinet.catalogue cover
  -- how often the disk had failed, and had then
  pub faults : ℕ
  pub then_faults : ℕ
  pub row : Posts l.out faults cover reply m.out then_faults
  pub rest : m ≡ with_out l m.out

-- what an image of the outbox may open to: the posts, or these and the one that is undecided; nothing is heard then
pub record IsOpenedFrom (s t : Outgoing) : Type 0 where
  pub found : MayBeFound s t.posts
  pub decided : t.undecided ≡ None
  pub silent : t.heard ≡ 0

abbrev pub packet_of : Change → Packet
packet_of change = packets.Change change.number change.cover

-- a packet was taken by its row, where its cover is of the cabinet's catalogue
pub record IsTaken (s : FeedAndCabinet) (packet : Packet) (reply : Taken) (t : FeedAndCabinet) : Type 0 where
  pub cover : IsOfCatalogue s.cabinet.catalogue packet
  -- how often the disks had failed, and had then
  pub faults : ℕ
  pub then_faults : ℕ
  pub cabinet_faults : ℕ
  pub then_cabinet_faults : ℕ
  pub row : Takes (record { stand = s.stand; faults = faults; cabinet = s.cabinet; cabinet_faults = cabinet_faults }) packet reply (record { stand = t.stand; faults = then_faults; cabinet = t.cabinet; cabinet_faults = then_cabinet_faults })

-- the change at this place was taken and answered, and the packet that tells what is seen then was sent
pub record IsArrived (l : Lossy) (n : ℕ) (change : Change) (reply : Applied) (m : Lossy) : Type 0 where
  pub there : slice_get l.sent n ≡ Some (packet_of change)
  pub seen : Packet
  pub takes : IsTaken l.stores (packet_of change) (taken.Answer reply seen) m.stores
  pub rest : m ≡ with_sent (with_cuts (with_stores l m.stores) (applied_after l.applied change reply) (unsure_after l.unsure change reply)) (l.sent ++ seen ∷ [])

-- the marks were opened to the last mark, or to the one that was undecided, whose cut is then applied
pub record IsFound (l m : Lossy) : Type 0 where
  pub opens : feeds.IsEvent l.stores feeds.marks_opened m.stores
  pub rest :
      ((m.stores.stand.mark ≡ l.stores.stand.mark) × (m ≡ with_stores l m.stores))
      ⊎ (IsSome l.stores.stand.undecided × (m.stores.stand.mark ≡ l.stores.stand.undecided) × (m ≡ with_cuts (with_stores l m.stores) (with_some l.applied l.unsure) l.unsure))

-- a tile of the catalogue was asked for, and the reply has its row
pub record IsAsked (l : Lossy) (address : Address) (reply : Asked) (m : Lossy) : Type 0 where
  pub tile : IsTile l.stores.cabinet.catalogue address
  -- how often the disk had failed, and had then
  pub faults : ℕ
  pub then_faults : ℕ
  pub row : Asks faults then_faults l.stores.cabinet address reply m.stores.cabinet
  pub same_stand : m.stores.stand ≡ l.stores.stand
  pub rest : m ≡ with_stores l m.stores

abbrev pub Happens : Lossy → LinkEvent → Lossy → Type 0
Happens l (posted cover reply) m = IsPosted l cover reply m
Happens l next_sent m = m ≡ with_sent l (with_some l.sent (next_of l.out))
Happens l (heard n i news) m = (slice_get l.sent n ≡ Some (packets.Seen i)) × Hears l.out (packets.Seen i) news m.out × (m ≡ with_out l m.out)
Happens l outbox_opened m = IsOpenedFrom l.out m.out × (m ≡ with_out l m.out)
Happens l (arrived n change reply) m = IsArrived l n change reply m
Happens l (ran_out n change) m = (slice_get l.sent n ≡ Some (packet_of change)) × feeds.IsEvent l.stores (feeds.ran_out change) m.stores × (m ≡ with_stores l m.stores)
Happens l marks_opened m = IsFound l m
Happens l cabinet_opened m = feeds.IsEvent l.stores feeds.cabinet_opened m.stores × (m ≡ with_stores l m.stores)
Happens l commanded m = feeds.IsEvent l.stores feeds.commanded m.stores × (m ≡ with_stores l m.stores)
Happens l (asked address reply) m = IsAsked l address reply m

-- these events lead from the one to the other
abbrev pub Passes : Lossy → List LinkEvent → Lossy → Type 0
Passes l [] m = m ≡ l
Passes l (event ∷ events) m = (next : Lossy) × Happens l event next × Passes next events m

-- where a link begins: a leader, a cabinet, and marks with no mark
abbrev pub begun : Outgoing → State → Lossy
begun out cabinet = record { out = out; stores = record { stand = record { mark = None; undecided = None }; cabinet = cabinet }; applied = []; unsure = None; sent = [] }
