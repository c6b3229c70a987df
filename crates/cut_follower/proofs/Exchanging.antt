-- How far a leader has come on a link, one exchange more, and its ends.
use Rattle.std.proofs.Common.{◌≡◌, ◌<◌, ◌≤◌, ℕ, ◌-◌, ◌^◌, length, take, drop, true, flat_map, List, [], ◌∷◌, ◌++◌, Some, None, refl, sym, subst, ap, ◌∙◌, arith, append-nil}
use Rattle.std.proofs.KnownBytes.{Appends-nil, Appends-trans, Consumes-nil, Consumes-trans}
use Rattle.std.proofs.lemmas.Bool.{false≢true}
use Rattle.std.proofs.lemmas.Grind.{flat_map-append}
use Rattle.std.proofs.lemmas.List.{length-drop, take-append-drop}
use Rattle.base.specs.Causes.{Rose}
use Rattle.http_wire.proofs.TakesOn.{rose_before}
use Rattle.cut_follower.specs.declared.ends.LinkEnd.{LinkEnd}
use Rattle.cut_follower.specs.declared.ends.LinkEnd.TheVariants as link_end
use Rattle.cut_follower.specs.declared.leading.Exchanged.TheVariants as exchanged
use Rattle.cut_follower.specs.Leading.{Exchanges, IsWaiting, LeadEnds, LeadsLink, PacketExchange, heard_in, sent_in}
use Rattle.cut_follower.specs.Links.{HasSent, HasTaken, IsCutShort, LinkAt}
use Rattle.cut_follower.specs.Steps.{ExchangesOne, IsUnheard}
use Rattle.outbox.specs.declared.packet.Packet.{Packet}
use Rattle.outbox.specs.declared.packet.Packet.TheVariants as packets
use Rattle.outbox.specs.Packets.{packet_text}
use Rattle.outbox.specs.Posts.{Hears, Outgoing, next_of}

-- ONE MORE

follow_more : (s m : Outgoing) (xs : List PacketExchange) (x : PacketExchange) → Exchanges s xs m → next_of m ≡ Some x.sent → Hears m x.heard true x.after → Exchanges s (xs ++ x ∷ []) x.after
follow_more s m [] x follow next hears = subst (λ (o : Outgoing). (next_of o ≡ Some x.sent) × Hears o x.heard true x.after × (x.after ≡ x.after)) follow (next, hears, refl)
follow_more s m (y ∷ ys) x follow next hears = (follow.0, follow.1, follow_more y.after m ys x follow.2 next hears)

-- one text behind several
pub joined : {X : Type 0} (f : X → List ℕ) (xs : List X) (x : X) → flat_map f (xs ++ x ∷ []) ≡ flat_map f xs ++ f x
joined f xs x = flat_map-append f xs (x ∷ []) ∙ ap (λ (l : List ℕ). flat_map f xs ++ l) (append-nil (f x))

-- what is heard leaves the posts
hears_posts : (s t : Outgoing) (packet : Packet) → Hears s packet true t → t.posts ≡ s.posts
hears_posts s t (packets.Change n cover) h = absurd (false≢true (sym h.0))
hears_posts s t (packets.Seen i) h = ap (λ (o : Outgoing). o.posts) h.2

hears_undecided : (s t : Outgoing) (packet : Packet) → Hears s packet true t → t.undecided ≡ s.undecided
hears_undecided s t (packets.Change n cover) h = absurd (false≢true (sym h.0))
hears_undecided s t (packets.Seen i) h = ap (λ (o : Outgoing). o.undecided) h.2

-- HOW FAR

pub record SoFar (a m : LinkAt) (s u : Outgoing) : Type 0 where
  pub exchanges : List PacketExchange
  pub follow : Exchanges s exchanges u
  pub sent : HasSent a m (sent_in exchanges)
  pub taken : HasTaken a m (heard_in exchanges)
  pub posts : u.posts ≡ s.posts
  pub undecided : u.undecided ≡ s.undecided
  pub read_later : a.read_faults ≤ m.read_faults
  pub write_later : a.write_faults ≤ m.write_faults

pub far_start : (a : LinkAt) (s : Outgoing) → SoFar a a s s
far_start a s = record {
  exchanges = [];
  follow = refl;
  sent = Appends-nil a.taken;
  taken = Consumes-nil a.left;
  posts = refl;
  undecided = refl;
  read_later = omega arith;
  write_later = omega arith;
}

-- each post was seen
pub far_done : (a b : LinkAt) (s t : Outgoing) → SoFar a b s t → next_of t ≡ None → LeadsLink a b s t link_end.Finished
far_done a b s t f none = record { exchanges = f.exchanges; follow = f.follow; ends = (none, f.sent, f.taken) }

-- the first so many bytes of a text went out
pub cut_at : (a b : LinkAt) (bytes : List ℕ) (n : ℕ) → n < length bytes → HasSent a b (take n bytes) → Rose a.write_faults b.write_faults → IsCutShort a b [] bytes
cut_at a b bytes n within sent failed = record { front = take n bytes; rest = drop n bytes; whole = sym (take-append-drop n bytes); short = let e = length-drop n bytes in omega (arith, e, within); sent = sent; failed = failed }

-- a text that was cut short, behind texts that went out whole
pub cut_behind : (a m b : LinkAt) (first second : List ℕ) → a.write_faults ≤ m.write_faults → HasSent a m first → IsCutShort m b [] second → IsCutShort a b first second
cut_behind a m b first second later sent cut = record {
  front = cut.front;
  rest = cut.rest;
  whole = cut.whole;
  short = cut.short;
  sent = Appends-trans a.taken m.taken b.taken first cut.front sent cut.sent;
  failed = rose_before (2 ^ 64 - 1) a.write_faults m.write_faults b.write_faults later cut.failed;
}

module _ (a m b : LinkAt) (s u t : Outgoing) (post : Packet) (f : SoFar a m s u) (next : next_of u ≡ Some post) where
  pub far_next : ExchangesOne m b post u exchanged.Heard t → m.read_faults ≤ b.read_faults → m.write_faults ≤ b.write_faults → SoFar a b s t
  far_next one reads writes =
      let x : PacketExchange = record { sent = post; heard = one.0; after = t } in
      record {
        exchanges = f.exchanges ++ x ∷ [];
        follow = follow_more s u f.exchanges x f.follow next one.3;
        sent = subst (HasSent a b) (sym (joined (λ (y : PacketExchange). packet_text y.sent) f.exchanges x)) (Appends-trans a.taken m.taken b.taken (sent_in f.exchanges) (packet_text post) f.sent one.1);
        taken = subst (HasTaken a b) (sym (joined (λ (y : PacketExchange). packet_text y.heard) f.exchanges x)) (Consumes-trans a.left m.left b.left (heard_in f.exchanges) (packet_text one.0) f.taken one.2);
        posts = hears_posts u t one.0 one.3 ∙ f.posts;
        undecided = hears_undecided u t one.0 one.3 ∙ f.undecided;
        read_later = omega (arith, f.read_later, reads);
        write_later = omega (arith, f.write_later, writes);
      }

  -- where the post went out, and nothing was heard for it
  waiting : (bytes : List ℕ) → IsUnheard m b post u t bytes → IsWaiting a b f.exchanges u bytes
  waiting bytes is = record {
    post = post;
    next = next;
    sent = Appends-trans a.taken m.taken b.taken (sent_in f.exchanges) (packet_text post) f.sent is.sent;
    taken = Consumes-trans a.left m.left b.left (heard_in f.exchanges) bytes f.taken is.taken;
  }

  leads_by : (e : LinkEnd) → t ≡ u → LeadEnds a b f.exchanges u e → LeadsLink a b s t e
  leads_by e same ends = subst (λ (o : Outgoing). LeadsLink a b s o e) (sym same) (record { exchanges = f.exchanges; follow = f.follow; ends = ends })

  pub far_truncated : ExchangesOne m b post u exchanged.Truncated t → LeadsLink a b s t link_end.Truncated
  far_truncated one = leads_by link_end.Truncated one.1.same (one.0, waiting one.0 one.1, one.2, one.3)

  pub far_bad : ExchangesOne m b post u exchanged.BadPacket t → LeadsLink a b s t link_end.BadPacket
  far_bad one = leads_by link_end.BadPacket one.1.same (one.0, waiting one.0 one.1, one.2)

  pub far_unread : ExchangesOne m b post u exchanged.ReadFault t → LeadsLink a b s t link_end.ReadFault
  far_unread one = leads_by link_end.ReadFault one.1.same (one.0, waiting one.0 one.1, one.2, rose_before (2 ^ 64 - 1) a.read_faults m.read_faults b.read_faults f.read_later one.3)

  pub far_unsent : ExchangesOne m b post u exchanged.WriteFault t → LeadsLink a b s t link_end.WriteFault
  far_unsent one = leads_by link_end.WriteFault one.0 (
    post,
    next,
    cut_behind a m b (sent_in f.exchanges) (packet_text post) f.write_later f.sent one.2,
    subst (HasTaken a b) (append-nil (heard_in f.exchanges)) (Consumes-trans a.left m.left b.left (heard_in f.exchanges) [] f.taken one.1),
  )

-- some post is left to be seen
pub not_none : (t : Outgoing) (post : Packet) → next_of t ≡ Some post → next_of t ≡ None → ⊥
not_none t post some none = absurd (cc)
