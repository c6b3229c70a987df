-- The steps of a twin: what each line comes to, one after the other, each a few events of a lossy link.
use Rattle.std.specs.Prelude.{◌≡◌, ◌⊎◌, ℕ, ◌<◌, ◌≤◌, Bool, IsTrue, List, [], ◌∷◌, Option, Some, None, ⊤}
use Rattle.std.specs.List.{AllByRecursion}
use Rattle.catalog.specs.declared.catalogue.Catalogue.{Catalogue}
use Rattle.change_feed.specs.Files.{MayEndIn, Stand}
use Rattle.cut_follower.specs.Lossy as lossy
use Rattle.cut_follower.specs.Lossy.{LinkEvent}
use Rattle.disk_model.specs.Content.{Content}
use Rattle.matrix_geometry.specs.declared.address.Address.{Address}
use Rattle.outbox.specs.declared.posted.Posted.{Posted}
use Rattle.outbox.specs.Files.{MayOpenTo}
use Rattle.outbox.specs.Posts.{Outgoing, Posts}
use Rattle.raster_field.specs.TileText.{tile_text}
use Rattle.truncation_list.specs.declared.cover.Cover.{Cover}
use Rattle.twin_events.specs.declared.carried.CarriedPacket.{CarriedPacket}
use Rattle.twin_events.specs.declared.got.Got.{Got}
use Rattle.twin_events.specs.declared.got.Got.TheVariants as got
use Rattle.twin_events.specs.Carries.{Carries, counts}
use Rattle.twin_events.specs.Gets.{Gets, failures}
use Rattle.twin_events.specs.Twins.{IsSentTo, LeadsBy, MayOpenBehind, TwinStanding}
use Rattle.twin_lines.specs.declared.order.TwinOrder.{TwinOrder}
use Rattle.twin_lines.specs.declared.order.TwinOrder.TheVariants as order
use Rattle.twin_lines.specs.declared.order.LinkSide.{LinkSide}
use Rattle.twin_lines.specs.declared.order.LinkSide.TheVariants as side

-- ANSWERS

-- What became of an order: a cover was posted; the next packet was sent, and has this place among all that were sent, from 1, or there
-- was none to send; the packet at a place was carried; a side was closed and opened again; a tile was asked for
pub data TwinAnswer : Type 0 where
  posted : Cover → Posted → TwinAnswer
  sent : Option ℕ → TwinAnswer
  carried : ℕ → CarriedPacket → TwinAnswer
  stopped : LinkSide → TwinAnswer
  answered : Address → Got → TwinAnswer

-- the order that it answers
abbrev pub order_of : TwinAnswer → TwinOrder
order_of (posted cover reply) = order.Post cover
order_of (sent place) = order.Send
order_of (carried place arrival) = order.Carry place
order_of (stopped which) = order.Stop which
order_of (answered address reply) = order.Get address

-- MOMENTS

-- how often the source has failed, and the disk of the outbox, that of the marks, and that of the cabinet
pub record Faults : Type 0 where
  pub source : ℕ
  pub outbox : ℕ
  pub marks : ℕ
  pub cabinet : ℕ

abbrev pub faults : ℕ → ℕ → ℕ → ℕ → Faults
faults source outbox marks cabinet = record { source = source; outbox = outbox; marks = marks; cabinet = cabinet }

-- no count falls
pub record IsLater (before after : Faults) : Type 0 where
  pub source : before.source ≤ after.source
  pub outbox : before.outbox ≤ after.outbox
  pub marks : before.marks ≤ after.marks
  pub cabinet : before.cabinet ≤ after.cabinet

-- what stands at a moment, and the faults till then
pub record TwinMoment : Type 0 where
  pub stands : TwinStanding
  pub faults : Faults

abbrev pub moment : TwinStanding → Faults → TwinMoment
moment stands faults = record { stands = stands; faults = faults }

-- STEPS

-- an answer, and the moment after it
pub record TwinStep : Type 0 where
  pub answer : TwinAnswer
  pub after : TwinMoment

-- The leader was closed and opened again: nothing is heard or undecided then, and where its disk is modelled an image of it was opened.
pub record ReopensLeader (told : Bool) (s t : TwinStanding) : Type 0 where
  pub opens : IsTrue told → LeadsBy (lossy.outbox_opened ∷ []) s t
  pub silent : t.out.heard ≡ 0
  pub decided : t.out.undecided ≡ None
  pub same_stand : t.stand ≡ s.stand
  pub same_cabinet : t.cabinet ≡ s.cabinet
  pub same_sent : t.sent ≡ s.sent

-- The follower was closed and opened again, the cabinet and then the marks: no mark is undecided then. Where its disks are modelled
-- images of them were opened, and the number of the cabinet's opening is greater than that of the one before.
pub record ReopensFollower (told : Bool) (s t : TwinStanding) : Type 0 where
  pub opens : IsTrue told → LeadsBy (lossy.cabinet_opened ∷ lossy.marks_opened ∷ []) s t
  pub greater : IsTrue told → s.cabinet.opening.number < t.cabinet.opening.number
  pub same_catalogue : t.cabinet.catalogue ≡ s.cabinet.catalogue
  pub decided : t.stand.undecided ≡ None
  pub same_out : t.out ≡ s.out
  pub same_sent : t.sent ≡ s.sent

-- Each answer comes by the row of its call, and by the events of its order, whatever link stands so. `told` is that the disks are
-- modelled, of which a stop alone speaks; `source` is what is modelled of the source.
abbrev pub Runs : Bool → Option ℕ → TwinMoment → TwinAnswer → TwinMoment → Type 0
Runs told source s (posted cover reply) t =
    Posts s.stands.out s.faults.outbox cover reply t.stands.out t.faults.outbox × LeadsBy (lossy.posted cover reply ∷ []) s.stands t.stands
Runs told source s (sent place) t = IsSentTo s.stands.out s.stands.sent place t.stands.sent × LeadsBy (lossy.next_sent ∷ []) s.stands t.stands
Runs told source s (carried place arrival) t =
    Carries s.stands (counts s.faults.marks s.faults.cabinet) place (Some arrival) t.stands (counts t.faults.marks t.faults.cabinet)
Runs told source s (stopped side.Leader) t = ReopensLeader told s.stands t.stands
Runs told source s (stopped side.Follower) t = ReopensFollower told s.stands t.stands
Runs told source s (answered address reply) t =
    Gets source s.stands (failures s.faults.source s.faults.cabinet) address reply t.stands (failures t.faults.source t.faults.cabinet)

-- steps come one behind the other, and no count falls
abbrev pub Follow : Bool → Option ℕ → TwinMoment → List TwinStep → TwinMoment → Type 0
Follow told source s [] t = t ≡ s
Follow told source s (step ∷ steps) t = Runs told source s step.answer step.after × IsLater s.faults step.after.faults × Follow told source step.after steps t

-- THE PICTURES

-- a tile that was got has the bytes of the picture of its number
abbrev pub IsPicture : Catalogue → Address → Got → Type 0
IsPicture c address (got.Tile tile) = tile.bytes ≡ tile_text c tile.number address
IsPicture c address got.SourceFault = ⊤
IsPicture c address got.Spent = ⊤

abbrev pub IsTrueAnswer : Catalogue → TwinAnswer → Type 0
IsTrueAnswer c (posted cover reply) = ⊤
IsTrueAnswer c (sent place) = ⊤
IsTrueAnswer c (carried place arrival) = ⊤
IsTrueAnswer c (stopped which) = ⊤
IsTrueAnswer c (answered address reply) = IsPicture c address reply

-- so it is in each step
abbrev pub AreTrue : Catalogue → List TwinStep → Type 0
AreTrue c steps = AllByRecursion (λ step. IsTrueAnswer c step.answer) steps

-- WHAT A CRASH LEAVES

-- at a moment of the steps an image of the marks ends in a mark of the stand before them, or of one after a step
abbrev pub MayEndAlong : List ℕ → Stand → List TwinStep → Content → Type 0
MayEndAlong digest s [] image = MayEndIn digest s image
MayEndAlong digest s (step ∷ steps) image = MayEndIn digest s image ⊎ MayEndAlong digest step.after.stands.stand steps image

-- while a cover is posted an image of the outbox may have it
abbrev pub MayOpenWhile : Catalogue → Outgoing → TwinAnswer → Content → Type 0
MayOpenWhile c s (posted cover reply) image = MayOpenBehind c s cover image
MayOpenWhile c s (sent place) image = MayOpenTo c s image
MayOpenWhile c s (carried place arrival) image = MayOpenTo c s image
MayOpenWhile c s (stopped which) image = MayOpenTo c s image
MayOpenWhile c s (answered address reply) image = MayOpenTo c s image

-- at a moment of the steps one opens to the posts before a step, to these and the cover that it posts, or to those after the last
abbrev pub MayOpenAlong : Catalogue → Outgoing → List TwinStep → Content → Type 0
MayOpenAlong c s [] image = MayOpenTo c s image
MayOpenAlong c s (step ∷ steps) image = MayOpenWhile c s step.answer image ⊎ MayOpenAlong c step.after.stands.out steps image

-- WANT OF MEMORY

-- an event of an order that wasn't answered, since memory ran out
abbrev pub IsUnanswered : LinkEvent → Type 0
IsUnanswered (lossy.posted cover reply) = ⊥
IsUnanswered lossy.next_sent = ⊥
IsUnanswered (lossy.heard n i news) = ⊥
IsUnanswered lossy.outbox_opened = ⊥
IsUnanswered (lossy.arrived n change reply) = ⊥
IsUnanswered (lossy.ran_out n change) = ⊤
IsUnanswered lossy.marks_opened = ⊥
IsUnanswered lossy.cabinet_opened = ⊥
IsUnanswered lossy.commanded = ⊤
IsUnanswered (lossy.asked address reply) = ⊤

-- memory ran out in a line: nothing happened in it, or such events
pub record Starves (s t : TwinStanding) : Type 0 where
  pub events : List LinkEvent
  pub unanswered : AllByRecursion IsUnanswered events
  pub leads : LeadsBy events s t
