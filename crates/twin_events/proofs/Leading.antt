-- From whichever lossy link stands as a twin does, an event leads to one that stands as the twin does behind it.
use Rattle.std.proofs.Common.{◌≡◌, ℕ, Bool, List, [], ◌∷◌, ◌++◌, Some, Result, Ok, Err, refl, sym, subst, ap, ◌∙◌}
use Rattle.std.specs.Prelude.{IfOk, slice_get}
use Rattle.std.specs.declared.alloc.AllocError.{AllocError}
use Rattle.cabinet.specs.declared.replies.Asked.{Asked}
use Rattle.cabinet.specs.Commands.{Asks}
use Rattle.cabinet.specs.State.{IsKnownAs, State}
use Rattle.catalog.specs.declared.catalogue.Catalogue.{Catalogue}
use Rattle.catalog.specs.LookUp.{IsTile}
use Rattle.change_feed.specs.declared.applied.Applied.{Applied}
use Rattle.change_feed.specs.declared.change.Change.{Change}
use Rattle.change_feed.specs.Applies.{decided}
use Rattle.change_feed.specs.Files.{Stand}
use Rattle.change_feed.specs.Runs.{CabinetGoesOn, FeedAndCabinet}
use Rattle.cut_follower.specs.declared.taken.Taken.TheVariants as taken
use Rattle.cut_follower.specs.Lossy.{Happens, IsAsked, IsTaken, LinkEvent, Lossy, Passes, applied_after, arrived, asked, commanded, heard, next_sent, packet_of, posted, ran_out, unsure_after, with_cuts, with_out, with_sent, with_some, with_stores}
use Rattle.matrix_geometry.specs.declared.address.Address.{Address}
use Rattle.outbox.specs.declared.packet.Packet.{Packet}
use Rattle.outbox.specs.declared.packet.Packet.TheVariants as packets
use Rattle.outbox.specs.declared.posted.Posted.{Posted}
use Rattle.outbox.specs.Posts.{Hears, Outgoing, Posts, next_of}
use Rattle.served_covers.specs.OfCatalogue.{IsCoverOf}
use Rattle.truncation_list.specs.declared.cover.Cover.{Cover}
use Rattle.twin_events.specs.Twins.{IsAt, IsTwinReady, LeadsBy, TwinStanding, standing}

-- the follower of a standing
abbrev pub stores_of : TwinStanding → FeedAndCabinet
stores_of s = record { stand = s.stand; cabinet = s.cabinet }

stores_are : (s : TwinStanding) (l : Lossy) → IsAt s l → l.stores ≡ stores_of s
stores_are s l h = ap (λ (x : Stand). (let r : FeedAndCabinet = record { stand = x; cabinet = l.stores.cabinet } in r)) h.stand ∙ ap (λ (x : State). (let r : FeedAndCabinet = record { stand = s.stand; cabinet = x } in r)) h.cabinet

-- one event
leads_one : (l m : Lossy) (t : TwinStanding) (event : LinkEvent) → IsAt t m → Happens l event m → (n : Lossy) × IsAt t n × Passes l (event ∷ []) n
leads_one l m t event is happens = (m, is, (m, happens, refl))

got_at : (sent there : List Packet) (n : ℕ) (p : Packet) → there ≡ sent → slice_get sent n ≡ Some p → slice_get there n ≡ Some p
got_at sent there n p same found = subst (λ (x : List Packet). slice_get x n ≡ Some p) (sym same) found

-- THE LEADER

posted_leads : (c : Catalogue) (s : TwinStanding) (out : Outgoing) (cover : Cover) (reply : Posted) (before after : ℕ) → IsTwinReady c s → IsCoverOf c cover → Posts s.out before cover reply out after
    → LeadsBy (posted cover reply ∷ []) s (standing out s.stand s.cabinet s.sent)
posted_leads c s out cover reply before after ready served row l h =
    leads_one l (with_out l out) (standing out s.stand s.cabinet s.sent) (posted cover reply)
    (record { out = refl; stand = h.stand; cabinet = h.cabinet; sent = h.sent })
    (record {
      served = subst (λ (x : State). IsCoverOf x.catalogue cover) (sym h.cabinet) (subst (λ (x : Catalogue). IsCoverOf x cover) (sym ready.same) served);
      faults = before;
      then_faults = after;
      row = subst (λ (x : Outgoing). Posts x before cover reply out after) (sym h.out) row;
      rest = refl;
    })

pub posts_lead : (c : Catalogue) (s : TwinStanding) (out : Outgoing) (cover : Cover) (before after : ℕ) (result : Result Posted AllocError) → IsTwinReady c s → IsCoverOf c cover → IfOk result (λ reply. Posts s.out before cover reply out after)
    → IfOk result (λ reply. LeadsBy (posted cover reply ∷ []) s (standing out s.stand s.cabinet s.sent))
posts_lead c s out cover before after (Ok reply) ready served row = posted_leads c s out cover reply before after ready served row
posts_lead c s out cover before after (Err fault) ready served row = tt

-- what the leader's calls leave ready
pub still_ready : (c then_c : Catalogue) (s : TwinStanding) (out : Outgoing) → then_c ≡ c → IsTwinReady c s → IsTwinReady then_c (standing out s.stand s.cabinet s.sent)
still_ready c then_c s out same ready = subst (λ (x : Catalogue). IsTwinReady x (standing out s.stand s.cabinet s.sent)) (sym same) (record { valid = ready.valid; same = ready.same; rests = ready.rests; served = ready.served })

sends_at : (s : TwinStanding) (l : Lossy) → IsAt s l → with_some l.sent (next_of l.out) ≡ with_some s.sent (next_of s.out)
sends_at s l h = ap (λ (x : List Packet). with_some x (next_of l.out)) h.sent ∙ ap (λ (x : Outgoing). with_some s.sent (next_of x)) h.out

sent_leads_as : (s : TwinStanding) (sent : List Packet) → sent ≡ with_some s.sent (next_of s.out) → LeadsBy (next_sent ∷ []) s (standing s.out s.stand s.cabinet sent)
sent_leads_as s sent is l h =
    leads_one l (with_sent l (with_some l.sent (next_of l.out))) (standing s.out s.stand s.cabinet sent) next_sent
    (record { out = h.out; stand = h.stand; cabinet = h.cabinet; sent = sends_at s l h ∙ sym is }) refl

pub next_leads : (s : TwinStanding) (room sent : List Packet) (p : Packet) → Some p ≡ next_of s.out → room ≡ s.sent → sent ≡ room ++ p ∷ [] → LeadsBy (next_sent ∷ []) s (standing s.out s.stand s.cabinet sent)
next_leads s room sent p first same grown = sent_leads_as s sent (grown ∙ ap (λ (x : List Packet). x ++ p ∷ []) same ∙ ap (with_some s.sent) first)

pub heard_leads : (s : TwinStanding) (out : Outgoing) (n i : ℕ) (news : Bool) → slice_get s.sent n ≡ Some (packets.Seen i) → Hears s.out (packets.Seen i) news out
    → LeadsBy (heard n i news ∷ []) s (standing out s.stand s.cabinet s.sent)
heard_leads s out n i news there hears l h =
    leads_one l (with_out l out) (standing out s.stand s.cabinet s.sent) (heard n i news)
    (record { out = refl; stand = h.stand; cabinet = h.cabinet; sent = h.sent })
    (got_at s.sent l.sent n (packets.Seen i) h.sent there, subst (λ (x : Outgoing). Hears x (packets.Seen i) news out) (sym h.out) hears, refl)

-- THE FOLLOWER

pub arrived_leads : (s : TwinStanding) (stand : Stand) (cabinet : State) (n : ℕ) (change : Change) (reply : Applied) (seen : Packet) → slice_get s.sent n ≡ Some (packet_of change)
    → IsTaken (stores_of s) (packet_of change) (taken.Answer reply seen) (record { stand = stand; cabinet = cabinet })
    → LeadsBy (arrived n change reply ∷ []) s (standing s.out stand cabinet (s.sent ++ seen ∷ []))
arrived_leads s stand cabinet n change reply seen there takes l h =
    let after : FeedAndCabinet = record { stand = stand; cabinet = cabinet } in
    leads_one l (with_sent (with_cuts (with_stores l after) (applied_after l.applied change reply) (unsure_after l.unsure change reply)) (l.sent ++ seen ∷ []))
    (standing s.out stand cabinet (s.sent ++ seen ∷ [])) (arrived n change reply)
    (record { out = h.out; stand = refl; cabinet = refl; sent = ap (λ (x : List Packet). x ++ seen ∷ []) h.sent })
    (record {
      there = got_at s.sent l.sent n (packet_of change) h.sent there;
      seen = seen;
      takes = subst (λ (x : FeedAndCabinet). IsTaken x (packet_of change) (taken.Answer reply seen) after) (sym (stores_are s l h)) takes;
      rest = refl;
    })

pub starved_leads : (s : TwinStanding) (stand : Stand) (cabinet : State) (n : ℕ) (change : Change) → slice_get s.sent n ≡ Some (packet_of change) → stand ≡ decided s.stand → cabinet ≡ s.cabinet
    → LeadsBy (ran_out n change ∷ []) s (standing s.out stand cabinet s.sent)
starved_leads s stand cabinet n change there stands same l h =
    leads_one l (with_stores l (record { stand = stand; cabinet = cabinet })) (standing s.out stand cabinet s.sent) (ran_out n change)
    (record { out = h.out; stand = refl; cabinet = refl; sent = h.sent })
    (got_at s.sent l.sent n (packet_of change) h.sent there, (stands ∙ sym (ap decided h.stand), same ∙ sym h.cabinet), refl)

-- A TILE

module _ (c : Catalogue) (s : TwinStanding) (a : Address) (reply : Asked) (before between : ℕ) (mid : State) (ready : IsTwinReady c s) (tile : IsTile c a) (row : Asks before between s.cabinet a reply mid) where
  asked_at : (l : Lossy) → IsAt s l → IsAsked l a reply (with_stores l (record { stand = l.stores.stand; cabinet = mid }))
  asked_at l h = record {
    tile = subst (λ (x : State). IsTile x.catalogue a) (sym h.cabinet) (subst (λ (x : Catalogue). IsTile x a) (sym ready.same) tile);
    faults = before;
    then_faults = between;
    row = subst (λ (x : State). Asks before between x a reply mid) (sym h.cabinet) row;
    same_stand = refl;
    rest = refl;
  }

  pub asked_leads : LeadsBy (asked a reply ∷ []) s (standing s.out s.stand mid s.sent)
  asked_leads l h =
      leads_one l (with_stores l (record { stand = l.stores.stand; cabinet = mid })) (standing s.out s.stand mid s.sent) (asked a reply)
      (record { out = h.out; stand = h.stand; cabinet = refl; sent = h.sent }) (asked_at l h)

  pub commanded_leads : (t : State) → CabinetGoesOn mid t → LeadsBy (asked a reply ∷ (commanded ∷ [])) s (standing s.out s.stand t s.sent)
  commanded_leads t goes l h =
      let m : Lossy = with_stores l (record { stand = l.stores.stand; cabinet = mid }) in
      let n : Lossy = with_stores m (record { stand = m.stores.stand; cabinet = t }) in
      (n, record { out = h.out; stand = h.stand; cabinet = refl; sent = h.sent }, (m, asked_at l h, (n, ((refl, goes), refl), refl)))

pub goes_known : (s t : State) → IsKnownAs s t → CabinetGoesOn s t
goes_known s t k = record { known = k.known; same_catalogue = k.same_catalogue; answers = k.answers.book }
