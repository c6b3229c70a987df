-- What a leader's side of a link does: what it sends and hears, and how it ends.
use Rattle.std.specs.Prelude.{◌≡◌, ◌⊎◌, ℕ, ◌<◌, ◌≤◌, ◌^◌, true, List, [], ◌∷◌, ◌++◌, length, flat_map, Some, None}
use Rattle.cut_follower.specs.declared.ends.LinkEnd.{LinkEnd}
use Rattle.cut_follower.specs.declared.ends.LinkEnd.TheVariants as link_end
use Rattle.cut_follower.specs.Links.{HasEnded, HasMissed, HasSent, HasTaken, IsCutShort, IsPart, LinkAt}
use Rattle.outbox.specs.declared.packet.Packet.{Packet}
use Rattle.outbox.specs.declared.packet.Packet.TheVariants as packets
use Rattle.outbox.specs.Packets.{packet_text}
use Rattle.outbox.specs.Posts.{Hears, Outgoing, next_of}

-- EXCHANGES

-- a packet that was sent, the one that came for it, and the outbox that has heard that
pub record PacketExchange : Type 0 where
  pub sent : Packet
  pub heard : Packet
  pub after : Outgoing

-- what is sent is each time the first post that wasn't heard as seen, and what comes for it is news
abbrev pub Exchanges : Outgoing → List PacketExchange → Outgoing → Type 0
Exchanges s [] t = t ≡ s
Exchanges s (x ∷ xs) t = (next_of s ≡ Some x.sent) × Hears s x.heard true x.after × Exchanges x.after xs t

-- the bytes of what was sent, and of what was heard
abbrev pub sent_in : List PacketExchange → List ℕ
sent_in xs = flat_map (λ x. packet_text x.sent) xs

abbrev pub heard_in : List PacketExchange → List ℕ
heard_in xs = flat_map (λ x. packet_text x.heard) xs

-- HOW THEY END

-- The first post that wasn't heard as seen was sent behind the exchanges, and these bytes came behind them, and no others.
pub record IsWaiting (a b : LinkAt) (xs : List PacketExchange) (t : Outgoing) (bytes : List ℕ) : Type 0 where
  pub post : Packet
  pub next : next_of t ≡ Some post
  pub sent : HasSent a b (sent_in xs ++ packet_text post)
  pub taken : HasTaken a b (heard_in xs ++ bytes)

-- 64 bytes are no answer to the first post that wasn't heard as seen: a `Seen` that they are is below that post or above all posts
pub record IsNoAnswer (s : Outgoing) (bytes : List ℕ) : Type 0 where
  pub size : length bytes ≡ 64
  pub none : (i : ℕ) → i < 2 ^ 64 → packet_text (packets.Seen i) ≡ bytes → (i ≤ s.heard) ⊎ (length s.posts < i)

-- what each end says, with the outbox t behind the exchanges; there is no other
abbrev pub LeadEnds : LinkAt → LinkAt → List PacketExchange → Outgoing → LinkEnd → Type 0
LeadEnds a b xs t link_end.Finished = (next_of t ≡ None) × HasSent a b (sent_in xs) × HasTaken a b (heard_in xs)
LeadEnds a b xs t link_end.Truncated = (part : List ℕ) × IsWaiting a b xs t part × IsPart part × HasEnded b
LeadEnds a b xs t link_end.BadPacket = (bytes : List ℕ) × IsWaiting a b xs t bytes × IsNoAnswer t bytes
LeadEnds a b xs t link_end.ReadFault = (part : List ℕ) × IsWaiting a b xs t part × IsPart part × HasMissed a b
LeadEnds a b xs t link_end.WriteFault = (post : Packet) × (next_of t ≡ Some post) × IsCutShort a b (sent_in xs) (packet_text post) × HasTaken a b (heard_in xs)
LeadEnds a b xs t (link_end.Stopped reply) = ⊥
LeadEnds a b xs t link_end.TooMany = ⊥
LeadEnds a b xs t link_end.OutOfMemory = ⊥

-- from the outbox s the exchanges lead to t, and end so
pub record LeadsLink (a b : LinkAt) (s t : Outgoing) (e : LinkEnd) : Type 0 where
  pub exchanges : List PacketExchange
  pub follow : Exchanges s exchanges t
  pub ends : LeadEnds a b exchanges t e
