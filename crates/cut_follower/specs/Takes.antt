-- What a packet comes to that a follower takes: a change is made by its row, and the last change that is marked then is told.
use Rattle.std.specs.Prelude.{◌≡◌, ℕ, List, ⊤}
use Rattle.catalog.specs.declared.catalogue.Catalogue.{Catalogue}
use Rattle.change_feed.specs.Applies.{Applies, MayEndAfter, Pair}
use Rattle.change_feed.specs.Files.{MayEndIn, Stand}
use Rattle.change_feed.specs.Marks.{last_of}
use Rattle.disk_model.specs.Content.{Content}
use Rattle.outbox.specs.declared.packet.Packet.{Packet}
use Rattle.outbox.specs.declared.packet.Packet.TheVariants as packets
use Rattle.served_covers.specs.OfCatalogue.{IsCoverOf}
use Rattle.cut_follower.specs.declared.taken.Taken.{Taken}
use Rattle.cut_follower.specs.declared.taken.Taken.TheVariants as taken

-- where the packet is a change, its cover is of the catalogue
abbrev pub IsOfCatalogue : Catalogue → Packet → Type 0
IsOfCatalogue c (packets.Change n cover) = IsCoverOf c cover
IsOfCatalogue c (packets.Seen i) = ⊤

-- a feed and a cabinet before, the packet, what became of it, and both after
abbrev pub Takes : Pair → Packet → Taken → Pair → Type 0
Takes s (packets.Change n cover) (taken.Answer applied seen) t = Applies s (record { number = n; cover = cover }) applied t × (seen ≡ packets.Seen (last_of t.stand.mark))
Takes s (packets.Change n cover) taken.NotAChange t = ⊥
Takes s (packets.Seen i) (taken.Answer applied seen) t = ⊥
Takes s (packets.Seen i) taken.NotAChange t = t ≡ s

-- where the packet is a `Seen`
abbrev pub WhereSeen : Packet → Type 0 → Type 0
WhereSeen (packets.Change n cover) P = ⊤
WhereSeen (packets.Seen i) P = P

-- at a moment of such a call an image of the marks ends as one may at a moment of the call for the change; for a `Seen`, as one may between calls
abbrev pub MayEndTaken : List ℕ → Stand → Packet → Taken → Content → Type 0
MayEndTaken digest s (packets.Change n cover) (taken.Answer applied seen) image = MayEndAfter digest s (record { number = n; cover = cover }) applied image
MayEndTaken digest s (packets.Change n cover) taken.NotAChange image = MayEndIn digest s image
MayEndTaken digest s (packets.Seen i) reply image = MayEndIn digest s image
