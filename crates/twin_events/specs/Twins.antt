-- A twin, as it stands: which lossy links stand so, and which events lead from one standing to another.
use Rattle.std.specs.Prelude.{◌≡◌, ◌⊎◌, ℕ, ◌+◌, List, [], ◌∷◌, ◌++◌, length, Option, Some, None}
use Rattle.std.specs.List.{AllByRecursion}
use Rattle.cabinet.specs.State.{State}
use Rattle.catalog.specs.declared.catalogue.Catalogue.{Catalogue}
use Rattle.catalog.specs.Valid.{IsValid}
use Rattle.change_feed.specs.Files.{Stand}
use Rattle.cut_follower.specs.Lossy.{LinkEvent, Lossy, Passes}
use Rattle.cut_follower.specs.Takes.{IsOfCatalogue}
use Rattle.disk_model.specs.Content.{Content}
use Rattle.outbox.specs.declared.packet.Packet.{Packet}
use Rattle.outbox.specs.Files.{MayOpenTo, OpensToPosts}
use Rattle.outbox.specs.Posts.{Outgoing, next_of}
use Rattle.tile_service.specs.Session.{IsAtRest}
use Rattle.truncation_list.specs.declared.cover.Cover.{Cover}

-- the leader's posts, the follower's marks and cabinet, and what was sent
pub record TwinStanding : Type 0 where
  pub out : Outgoing
  pub stand : Stand
  pub cabinet : State
  pub sent : List Packet

abbrev pub standing : Outgoing → Stand → State → List Packet → TwinStanding
standing out stand cabinet sent = record { out = out; stand = stand; cabinet = cabinet; sent = sent }

-- A lossy link stands so. Which cuts were applied in it, and which one is unsure, is known to no file and to no memory.
pub record IsAt (s : TwinStanding) (l : Lossy) : Type 0 where
  pub out : l.out ≡ s.out
  pub stand : l.stores.stand ≡ s.stand
  pub cabinet : l.stores.cabinet ≡ s.cabinet
  pub sent : l.sent ≡ s.sent

-- from each lossy link that stands as before, these events lead to one that stands as after
abbrev pub LeadsBy : List LinkEvent → TwinStanding → TwinStanding → Type 0
LeadsBy events s t = (l : Lossy) → IsAt s l → (m : Lossy) × IsAt t m × Passes l events m

-- what each call needs, and leaves: the cabinet has the catalogue, no render runs in it, and each change that was sent has a cover of it
pub record IsTwinReady (c : Catalogue) (s : TwinStanding) : Type 0 where
  pub valid : IsValid c
  pub same : s.cabinet.catalogue ≡ c
  pub rests : IsAtRest s.cabinet
  pub served : AllByRecursion (IsOfCatalogue c) s.sent

-- an image of an outbox, at a moment of a post: it opens to the posts from before, to these and the undecided one, or to these and this one
abbrev pub MayOpenBehind : Catalogue → Outgoing → Cover → Content → Type 0
MayOpenBehind c s cover image = MayOpenTo c s image ⊎ OpensToPosts c image (s.posts ++ cover ∷ [])

-- the first post that wasn't heard as seen was sent, to this place of what was sent, from 1; or there is none
abbrev pub IsSentTo : Outgoing → List Packet → Option ℕ → List Packet → Type 0
IsSentTo out sent None then_sent = (next_of out ≡ None) × (then_sent ≡ sent)
IsSentTo out sent (Some place) then_sent = (packet : Packet) × (next_of out ≡ Some packet) × (then_sent ≡ sent ++ packet ∷ []) × (place ≡ length sent + 1)
