-- A tile that was got in a cabinet, as events of a twin.
use Rattle.std.proofs.Common.{◌≡◌, ℕ, ◌≤◌, [], ◌∷◌, length, Option, Some, Result, Ok, Err, refl, sym, subst, ap, ◌∙◌, arith, inl, inr}
use Rattle.std.specs.Prelude.{IfOk, OnErr}
use Rattle.std.specs.declared.alloc.AllocError.{AllocError}
use Rattle.std.proofs.lemmas.List.{append_assoc, length-append}
use Rattle.cabinet.specs.Commands.{Asks, IsFreshReply}
use Rattle.cabinet.specs.declared.entry.HistoryEntry.TheVariants as entry
use Rattle.cabinet.specs.declared.replies.Asked.{Asked}
use Rattle.cabinet.specs.declared.replies.Asked.TheVariants as asked
use Rattle.cabinet.specs.Fresh.{IsFresh}
use Rattle.cabinet.specs.History.{History}
use Rattle.cabinet.specs.State.{IsKnown, IsKnownAs, IsSound, State}
use Rattle.cabinet.proofs.Rows.{abandons_known, asks_known, finishes_known}
use Rattle.cache_core.specs.declared.outcome.Tile.{Tile}
use Rattle.cache_core.specs.Fits.{ExtendsHistory, IsTicketFor}
use Rattle.cache_core.proofs.Endings.{extends_fresh, finishes_grow}
use Rattle.catalog.specs.declared.catalogue.Catalogue.{Catalogue}
use Rattle.catalog.specs.LookUp.{IsTile}
use Rattle.matrix_geometry.specs.declared.address.Address.{Address}
use Rattle.metatile_locks.specs.Tickets.{Ticketed}
use Rattle.raster_field.specs.Blocks.{block_of}
use Rattle.raster_field.specs.TileText.{tile_text}
use Rattle.tile_service.specs.Session.{IsAtRest}
use Rattle.twin_events.specs.declared.got.Got.{Got}
use Rattle.twin_events.specs.declared.got.Got.TheVariants as got
use Rattle.twin_events.specs.Gets.{EndsRender, Failures, Gets, GetsIn, IsGivenBack, IsMissed, IsTileAnswered, RunsOut, events_of, failures}
use Rattle.twin_events.specs.Twins.{IsTwinReady, LeadsBy, TwinStanding, standing}
use Rattle.twin_events.proofs.Leading.{asked_leads, commanded_leads, goes_known}
use Rattle.twin_events.proofs.Resting.{abandoned_rests, finished_rests, given_alone, hit_rests, spent_rests}

longer : (h g : History) → ExtendsHistory h g → length h ≤ length g
longer h g more = omega (arith, length-append h more.0, ap length more.1)

-- A RENDER THAT IS GIVEN

module _ (s mid : State) (a : Address) (ticket : Ticketed) (before between : ℕ) (known : IsKnown s) (tile : IsTile s.catalogue a) (row : Asks before between s a (asked.Ticket ticket) mid) where
  given_known : IsKnownAs s mid
  given_known = asks_known before between s mid a (asked.Ticket ticket) known tile row

  pub tile_then : IsTile mid.catalogue a
  tile_then = subst (λ (c : Catalogue). IsTile c a) (sym given_known.same_catalogue) tile

  pub ticket_then : IsTicketFor mid.catalogue a ticket
  ticket_then = subst (λ (c : Catalogue). IsTicketFor c a ticket) (sym given_known.same_catalogue) row.1.meta

  given_grows : ExtendsHistory s.history mid.history
  given_grows = (
    entry.At mid.clock.moment ∷ entry.Started ticket.number (block_of s.catalogue a) ∷ [],
    ap (λ (x : State). x.history) row.1.state ∙ append_assoc s.history (entry.At mid.clock.moment ∷ []) (entry.Started ticket.number (block_of s.catalogue a) ∷ []),
  )

  module _ (told : Option ℕ) (source : ℕ) (after : Failures) (t : State) where
    pub ticket_gets : IsFreshReply s a (asked.Ticket ticket) mid → (result : Result Got AllocError) → EndsRender told mid (failures source between) a ticket result t after → GetsIn told s (failures source before) a result t after
    ticket_gets fresh (Ok (got.Tile x)) ends = (
      asked.Ticket ticket,
      record {
        numbered = ap (λ (n : ℕ). Some n) (sym ends.1);
        mid = mid;
        between = between;
        row = row;
        gives = ends.0;
        fresh =
            subst (λ (n : ℕ). IsFresh s.catalogue t.history (length s.history) a n) (sym ends.1)
            (extends_fresh s.catalogue mid.history t.history (length s.history) a ticket.number (finishes_grow mid t ticket ends.0.blob ends.0.ended ends.0.row) (longer s.history mid.history given_grows) fresh);
        truth = λ tells sound. subst (λ (c : Catalogue). (told ≡ Some c.source → x.bytes ≡ tile_text c x.number a)) given_known.same_catalogue ends.2 tells;
      },
    )
    ticket_gets fresh (Ok got.SourceFault) ends = ((ticket, record { mid = mid; row = subst (λ (n : ℕ). Asks before n s a (asked.Ticket ticket) mid) (sym ends.1) row; abandons = ends.0 }), ends.2)
    ticket_gets fresh (Ok got.Spent) ends = absurd ends
    ticket_gets fresh (Err fault) ends = inr (ticket, record { mid = mid; row = subst (λ (n : ℕ). Asks before n s a (asked.Ticket ticket) mid) (sym ends.1) row; abandons = ends.0 })

    pub ticket_sound : (IsSound s → IsSound mid) → (told ≡ Some mid.catalogue.source → IsSound mid → IsSound t) → told ≡ Some s.catalogue.source → IsSound s → IsSound t
    ticket_sound first next tells sound = next (tells ∙ ap (λ (c : Catalogue). Some c.source) (sym given_known.same_catalogue)) (first sound)

-- WHAT A TWIN DID

-- the cabinet has the catalogue of before, and no render runs in it
pub record Keeps (s t : State) : Type 0 where
  pub same : t.catalogue ≡ s.catalogue
  pub rests : IsAtRest t

module _ (told : Option ℕ) (s : State) (before after : Failures) (a : Address) (t : State) (known : IsKnown s) (tile : IsTile s.catalogue a) (rest : IsAtRest s) where
  answered_keeps : (reply : Asked) (x : Tile) → IsTileAnswered told s before a reply x t after → Keeps s t
  answered_keeps (asked.Hit k bytes) x h = record {
    same = ap (λ (u : State). u.catalogue) h.gives.1 ∙ (asks_known before.cabinet h.between s h.mid a (asked.Hit k bytes) known tile h.row).same_catalogue;
    rests = subst IsAtRest (sym h.gives.1) (hit_rests before.cabinet h.between s h.mid a k bytes rest h.row);
  }
  answered_keeps (asked.Busy k) x h = absurd h.gives
  answered_keeps asked.Spent x h = absurd h.gives
  answered_keeps (asked.Ticket ticket) x h =
      let m = asks_known before.cabinet h.between s h.mid a (asked.Ticket ticket) known tile h.row in
      record {
        same = (finishes_known h.mid t ticket h.gives.blob h.gives.ended m.known h.gives.long h.gives.row).same_catalogue ∙ m.same_catalogue;
        rests = finished_rests h.mid ticket (given_alone before.cabinet h.between s h.mid a ticket rest h.row) h.gives.blob h.gives.ended t h.gives.row;
      }

  given_back_keeps : (ticket : Ticketed) → IsGivenBack s before a ticket t after → Keeps s t
  given_back_keeps ticket h =
      let m = asks_known before.cabinet after.cabinet s h.mid a (asked.Ticket ticket) known tile h.row in
      record {
        same = (abandons_known h.mid t ticket m.known h.abandons).same_catalogue ∙ m.same_catalogue;
        rests = abandoned_rests h.mid ticket (given_alone before.cabinet after.cabinet s h.mid a ticket rest h.row) t h.abandons;
      }

  same_keeps : t ≡ s → Keeps s t
  same_keeps is = subst (Keeps s) (sym is) (record { same = refl; rests = rest })

  pub gets_keeps : (result : Result Got AllocError) → GetsIn told s before a result t after → Keeps s t
  gets_keeps (Ok (got.Tile x)) h = answered_keeps h.0 x h.1
  gets_keeps (Ok got.SourceFault) h = given_back_keeps h.0.0 h.0.1
  gets_keeps (Ok got.Spent) h = record {
    same = (asks_known before.cabinet after.cabinet s t a asked.Spent known tile h).same_catalogue;
    rests = spent_rests before.cabinet after.cabinet s t a rest h;
  }
  gets_keeps (Err fault) h = elim h [
    | inl same ↦ same_keeps same
    | inr back ↦ given_back_keeps back.0 back.1
  ]

module _ (told : Option ℕ) (c : Catalogue) (s : TwinStanding) (before after : Failures) (a : Address) (t : State) (known : IsKnown s.cabinet) (ready : IsTwinReady c s) (tile : IsTile c a) where
  abbrev behind : TwinStanding
  behind = standing s.out s.stand t s.sent

  tile_here : IsTile s.cabinet.catalogue a
  tile_here = subst (λ (x : Catalogue). IsTile x a) (sym ready.same) tile

  mid_known : (mid : State) (between : ℕ) (reply : Asked) → Asks before.cabinet between s.cabinet a reply mid → IsKnown mid
  mid_known mid between reply row = (asks_known before.cabinet between s.cabinet mid a reply known tile_here row).known

  answered_leads : (reply : Asked) (x : Tile) → IsTileAnswered told s.cabinet before a reply x t after → LeadsBy (events_of a reply) s behind
  answered_leads (asked.Hit k bytes) x h =
      subst (λ (u : State). LeadsBy (events_of a (asked.Hit k bytes)) s (standing s.out s.stand u s.sent)) (sym h.gives.1) (asked_leads c s a (asked.Hit k bytes) before.cabinet h.between h.mid ready tile h.row)
  answered_leads (asked.Busy k) x h = absurd h.gives
  answered_leads asked.Spent x h = absurd h.gives
  answered_leads (asked.Ticket ticket) x h =
      commanded_leads c s a (asked.Ticket ticket) before.cabinet h.between h.mid ready tile h.row t
      (goes_known h.mid t (finishes_known h.mid t ticket h.gives.blob h.gives.ended (mid_known h.mid h.between (asked.Ticket ticket) h.row) h.gives.long h.gives.row))

  missed : (ticket : Ticketed) → IsGivenBack s.cabinet before a ticket t after → IsMissed s before a behind after
  missed ticket h = record {
    ticket = ticket;
    given_back = h;
    leads =
        commanded_leads c s a (asked.Ticket ticket) before.cabinet after.cabinet h.mid ready tile h.row t
        (goes_known h.mid t (abandons_known h.mid t ticket (mid_known h.mid after.cabinet (asked.Ticket ticket) h.row) h.abandons));
  }

  pub gets_of : (result : Result Got AllocError) → GetsIn told s.cabinet before a result t after → IfOk result (λ reply. Gets told s before a reply behind after)
  gets_of (Ok (got.Tile x)) h = record { reply = h.0; answered = h.1; leads = answered_leads h.0 x h.1 }
  gets_of (Ok got.SourceFault) h = (missed h.0.0 h.0.1, h.1)
  gets_of (Ok got.Spent) h = (h, asked_leads c s a asked.Spent before.cabinet after.cabinet t ready tile h)
  gets_of (Err fault) h = tt

  pub runs_out : (result : Result Got AllocError) → GetsIn told s.cabinet before a result t after → OnErr result (RunsOut s before a behind after)
  runs_out (Ok x) h = tt
  runs_out (Err fault) h = elim h [
    | inl same ↦ inl (ap (λ (u : State). standing s.out s.stand u s.sent) same)
    | inr back ↦ inr (missed back.0 back.1)
  ]

  pub gets_ready : (result : Result Got AllocError) → GetsIn told s.cabinet before a result t after → IsTwinReady c behind
  gets_ready result h =
      let k = gets_keeps told s.cabinet before after a t known tile_here ready.rests result h in
      record { valid = ready.valid; same = k.same ∙ ready.same; rests = k.rests; served = ready.served }
