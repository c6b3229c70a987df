-- What an outbox has posted and heard, and what its calls come to, a row for each reply.
use Rattle.std.specs.Prelude.{◌≡◌, ◌⊎◌, ℕ, ◌+◌, ◌<◌, ◌≤◌, Bool, true, false, List, [], ◌∷◌, ◌++◌, length, slice_get, Option, Some, None}
use Rattle.std.specs.Option.{option_map}
use Rattle.cache_file.specs.declared.file.CacheFile.{CacheFile}
use Rattle.catalog.specs.declared.catalogue.Catalogue.{Catalogue}
use Rattle.base.specs.Causes.{Rose}
use Rattle.served_covers.specs.OfCatalogue.{IsCoverOf}
use Rattle.truncation_list.specs.declared.cover.Cover.{Cover}
use Rattle.outbox.specs.declared.packet.Packet.{Packet}
use Rattle.outbox.specs.declared.packet.Packet.TheVariants as packet
use Rattle.outbox.specs.declared.posted.Posted.{Posted}
use Rattle.outbox.specs.declared.posted.Posted.TheVariants as posted

-- how many posts an outbox holds at most
abbrev pub post_slots : ℕ
post_slots = 65536

-- the covers posted, of which the first is the change 1; the one that a call may have left that failed; and the greatest number heard as seen
pub record Outgoing : Type 0 where
  pub posts : List Cover
  pub undecided : Option Cover
  pub heard : ℕ

-- what contracts see of an outbox
pub record ShownOutbox (D : Type 0) : Type 0 where
  pub catalogue : Catalogue
  pub out : Outgoing
  pub file : CacheFile D

-- the change behind the one of this number
abbrev pub next_behind : List Cover → ℕ → Option Packet
next_behind posts n = option_map (λ cover. packet.Change (n + 1) cover) (slice_get posts n)

-- the first post that wasn't heard as seen
abbrev pub next_of : Outgoing → Option Packet
next_of s = next_behind s.posts s.heard

-- A POST, with the disk's count of faults before and after it
abbrev pub Posts : Outgoing → ℕ → Cover → Posted → Outgoing → ℕ → Type 0
Posts s before cover (posted.Done i) t after = (length s.posts < post_slots) × (i ≡ length s.posts + 1) × (t ≡ record { posts = s.posts ++ cover ∷ []; undecided = None; heard = s.heard })
Posts s before cover posted.Full t after = (length s.posts ≡ post_slots) × (t ≡ s) × (after ≡ before)
Posts s before cover (posted.DiskFault b a) t after =
    (length s.posts < post_slots) × (b ≡ before) × (a ≡ after) × Rose before after × ((t ≡ s) ⊎ (t ≡ record { posts = s.posts; undecided = Some cover; heard = s.heard }))

-- A PACKET THAT IS HEARD: it is news exactly where it says that more is seen than was heard, and no more than was posted
abbrev pub Hears : Outgoing → Packet → Bool → Outgoing → Type 0
Hears s (packet.Change n cover) news t = (news ≡ false) × (t ≡ s)
Hears s (packet.Seen i) true t = (s.heard < i) × (i ≤ length s.posts) × (t ≡ record { posts = s.posts; undecided = s.undecided; heard = i })
Hears s (packet.Seen i) false t = ((i ≤ s.heard) ⊎ (length s.posts < i)) × (t ≡ s)

-- AN OPENING FROM AN IMAGE finds the posts, or these and the undecided one
abbrev pub MayBeFound : Outgoing → List Cover → Type 0
MayBeFound s found = (found ≡ s.posts) ⊎ ((cover : Cover) × (s.undecided ≡ Some cover) × (found ≡ s.posts ++ cover ∷ []))

-- a packet is the change of a cover of the catalogue
abbrev pub IsChangeOf : Catalogue → Packet → Type 0
IsChangeOf c (packet.Change n cover) = IsCoverOf c cover
IsChangeOf c (packet.Seen n) = ⊥
