-- A packet that is carried, as an event of a twin.
use Rattle.std.proofs.Common.{◌≡◌, ℕ, true, false, List, [], ◌∷◌, Some, Result, Ok, Err, refl, sym, subst, ap, ◌∙◌, inl, inr}
use Rattle.std.specs.declared.alloc.AllocError.{AllocError}
use Rattle.std.specs.List.{AllByRecursion}
use Rattle.cabinet.proofs.Lists.{all_push}
use Rattle.cabinet.specs.State.{State}
use Rattle.catalog.specs.declared.catalogue.Catalogue.{Catalogue}
use Rattle.change_feed.specs.declared.change.Change.{Change}
use Rattle.change_feed.specs.Applies.{Pair, decided}
use Rattle.change_feed.specs.Files.{Stand}
use Rattle.change_feed.specs.Marks.{last_of}
use Rattle.cut_follower.specs.Lossy.{arrived, packet_of, ran_out}
use Rattle.cut_follower.specs.Takes.{IsOfCatalogue}
use Rattle.cut_follower.proofs.Fronts.{got_all}
use Rattle.outbox.specs.declared.packet.Packet.{Packet}
use Rattle.outbox.specs.declared.packet.Packet.TheVariants as packets
use Rattle.outbox.specs.Posts.{Outgoing}
use Rattle.served_covers.specs.OfCatalogue.{IsCoverOf}
use Rattle.tile_service.specs.Session.{IsAtRest}
use Rattle.truncation_list.specs.declared.cover.Cover.{Cover}
use Rattle.twin_events.specs.declared.carried.CarriedPacket.{CarriedPacket}
use Rattle.twin_events.specs.declared.carried.CarriedPacket.TheVariants as carried
use Rattle.twin_events.specs.Carries.{Carries, Counts, FindsAt, HearsAs, IsHeardAt, IsStarvedAt, IsThere, RunsOut, TakesAs, follower}
use Rattle.twin_events.specs.Twins.{IsTwinReady, LeadsBy, TwinStanding, standing}
use Rattle.twin_events.proofs.Leading.{arrived_leads, heard_leads, starved_leads}
use Rattle.twin_events.proofs.Resting.{applied_rests}

-- WHAT WAS SENT IS OF THE CATALOGUE

-- and a change that has a place can be taken
pub served_at : (c : Catalogue) (s : TwinStanding) (place at number : ℕ) (cover : Cover) → IsTwinReady c s → IsThere s.sent place at (packets.Change number cover) → IsCoverOf s.cabinet.catalogue cover
served_at c s place at number cover ready there = subst (λ (x : Catalogue). IsCoverOf x cover) (sym ready.same) (got_all (IsOfCatalogue c) s.sent at (packets.Change number cover) ready.served there.found)

pub found_as : (sent seen : List Packet) (place : ℕ) (p q : Packet) → seen ≡ sent → p ≡ q → FindsAt seen place (Some p) → (at : ℕ) × IsThere sent place at q
found_as sent seen place p q same is found = (found.0, subst (λ (x : List Packet). IsThere x place found.0 q) same (subst (IsThere seen place found.0) is found.1))

-- A `Seen`

pub hears_row : (s : TwinStanding) (n : Counts) (place at i : ℕ) (out : Outgoing) (reply : CarriedPacket) → IsThere s.sent place at (packets.Seen i) → HearsAs s.out i reply out → Carries s n place (Some reply) (standing out s.stand s.cabinet s.sent) n
hears_row s n place at i out (carried.Taken number reply seen) there h = absurd h
hears_row s n place at i out (carried.Heard j) there h =
    subst (λ (x : ℕ). IsHeardAt s n place x true (standing out s.stand s.cabinet s.sent) n) (sym h.0)
    (record { at = at; there = there; same_counts = refl; leads = heard_leads s out at i true there.found h.1 })
hears_row s n place at i out carried.Ignored there h = (i, record { at = at; there = there; same_counts = refl; leads = heard_leads s out at i false there.found h })

-- A CHANGE

-- the pair of a standing and its counts
abbrev pub pair_of : Stand → State → Counts → Pair
pair_of stand cabinet n = record { stand = stand; faults = n.marks; cabinet = cabinet; cabinet_faults = n.cabinet }

module _ (c : Catalogue) (s : TwinStanding) (before : Counts) (place at : ℕ) (change : Change) (stand : Stand) (cabinet : State) (then_sent : List Packet) (after : Counts)
    (ready : IsTwinReady c s) (there : IsThere s.sent place at (packet_of change)) where
  abbrev behind : TwinStanding
  behind = standing s.out stand cabinet then_sent

  pub takes_row : (reply : CarriedPacket) → TakesAs (follower s before) change s.sent (Ok reply) (pair_of stand cabinet after) then_sent → Carries s before place (Some reply) behind after
  takes_row (carried.Taken number reply seen) h = record {
    at = at;
    change = change;
    there = there;
    numbered = h.0;
    row = h.1;
    seen_is = h.3;
    leads =
        subst (λ (x : List Packet). LeadsBy (arrived at change reply ∷ []) s (standing s.out stand cabinet x)) (sym h.2)
        (arrived_leads s stand cabinet at change reply (packets.Seen (last_of stand.mark)) there.found
        (record {
          cover = served_at c s place at change.number change.cover ready there;
          faults = before.marks;
          then_faults = after.marks;
          cabinet_faults = before.cabinet;
          then_cabinet_faults = after.cabinet;
          row = (h.1, refl);
        }));
  }
  takes_row (carried.Heard i) h = absurd h
  takes_row carried.Ignored h = absurd h

  unmoved : stand ≡ s.stand → cabinet ≡ s.cabinet → then_sent ≡ s.sent → behind ≡ s
  unmoved a b d = ap (λ (x : Stand). standing s.out x cabinet then_sent) a ∙ ap (λ (x : State). standing s.out s.stand x then_sent) b ∙ ap (λ (x : List Packet). standing s.out s.stand s.cabinet x) d

  starved : stand ≡ decided s.stand → cabinet ≡ s.cabinet → then_sent ≡ s.sent → IsStarvedAt s place behind
  starved a b d = record {
    at = at;
    change = change;
    there = there;
    leads = subst (λ (x : List Packet). LeadsBy (ran_out at change ∷ []) s (standing s.out stand cabinet x)) (sym d) (starved_leads s stand cabinet at change there.found a b);
  }

  pub takes_none : (fault : AllocError) → TakesAs (follower s before) change s.sent (Err fault) (pair_of stand cabinet after) then_sent → RunsOut s place behind
  takes_none fault h = elim h.1 [
    | inl same ↦ inl (unmoved same h.0 h.2)
    | inr one ↦ inr (starved one h.0 h.2)
  ]

  pub takes_ready : (result : Result CarriedPacket AllocError) → TakesAs (follower s before) change s.sent result (pair_of stand cabinet after) then_sent → cabinet.catalogue ≡ s.cabinet.catalogue → IsTwinReady c behind
  takes_ready (Ok (carried.Taken number reply seen)) h same = record {
    valid = ready.valid;
    same = same ∙ ready.same;
    rests = applied_rests (follower s before) (pair_of stand cabinet after) change reply h.1 ready.rests;
    served = subst (AllByRecursion (IsOfCatalogue c)) (sym h.2) (all_push (IsOfCatalogue c) s.sent (packets.Seen (last_of stand.mark)) ready.served tt);
  }
  takes_ready (Ok (carried.Heard i)) h same = absurd h
  takes_ready (Ok carried.Ignored) h same = absurd h
  takes_ready (Err fault) h same = record {
    valid = ready.valid;
    same = same ∙ ready.same;
    rests = subst IsAtRest (sym h.0) ready.rests;
    served = subst (AllByRecursion (IsOfCatalogue c)) (sym h.2) ready.served;
  }
