-- The openings and the steps of a twin as events of a lossy link, which stays in step.
use Rattle.std.specs.Prelude.{IsTrue, true, false, IfSome, slice_get}
use Rattle.std.proofs.Common.{◌≡◌, ◌<◌, ℕ, List, [], ◌∷◌, Option, Some, None, refl, sym, subst, ap, ◌∙◌, inl, inr}
use Rattle.cabinet.specs.declared.replies.Asked.{Asked}
use Rattle.cabinet.specs.declared.replies.Asked.TheVariants as asked
use Rattle.cabinet.specs.Hits.{covers_in}
use Rattle.cabinet.specs.State.{State}
use Rattle.change_feed.specs.Files.{Stand}
use Rattle.change_feed.specs.Runs.{CabinetGoesOn, IsEither}
use Rattle.change_feed.specs.declared.mark.Mark.{Mark}
use Rattle.cut_follower.specs.InStep.{IsInStep, IsNextIn, tile_number}
use Rattle.cut_follower.specs.Lossy as lossy
use Rattle.cut_follower.specs.Lossy.{Happens, IsFound, IsOpenedFrom, LinkEvent, Lossy, Passes, with_cuts, with_out, with_some, with_stores}
use Rattle.matrix_geometry.specs.declared.address.Address.{Address}
use Rattle.outbox.specs.Posts.{Outgoing}
use Rattle.truncation_list.specs.declared.book.Cut.{Cut}
use Rattle.twin_events.specs.declared.carried.CarriedPacket.TheVariants as arrivals
use Rattle.twin_events.specs.declared.got.Got.TheVariants as got
use Rattle.twin_events.specs.Gets.{events_of}
use Rattle.twin_events.specs.Twins.{IsAt, LeadsBy, TwinStanding}
use Rattle.twin_lines.specs.declared.order.LinkSide.TheVariants as side
use Rattle.twin_lines.specs.Steps.{Follow, Runs, TwinAnswer, TwinMoment, TwinStep, answered, carried, posted, sent, stopped}
use Rattle.twin_words.specs.Promised.{AreKept, IsAboveCuts, IsKept, without_packets}

-- OPENINGS

-- the marks of a link were opened
found_marks : (l : Lossy) (stand : Stand) → IsEither l.stores.stand stand.mark → stand.undecided ≡ None → (m : Lossy) × IsFound l m × (m.out ≡ l.out) × (m.stores ≡ record { stand = stand; cabinet = l.stores.cabinet }) × (m.sent ≡ l.sent)
found_marks l stand (inl same) sure = (
  with_stores l (record { stand = stand; cabinet = l.stores.cabinet }),
  record { opens = (inl same, sure, refl); rest = inl (same, refl) },
  refl,
  refl,
  refl,
)
found_marks l stand (inr undecided) sure = (
  with_cuts (with_stores l (record { stand = stand; cabinet = l.stores.cabinet })) (with_some l.applied l.unsure) l.unsure,
  record { opens = (inr undecided, sure, refl); rest = inr (undecided.0, undecided.1, refl) },
  refl,
  refl,
  refl,
)

-- the follower's files were opened, the cache first
pub opens_follower : (s t : TwinStanding) → CabinetGoesOn s.cabinet t.cabinet → IsEither s.stand t.stand.mark → t.stand.undecided ≡ None → t.out ≡ s.out → t.sent ≡ s.sent → LeadsBy (lossy.cabinet_opened ∷ lossy.marks_opened ∷ []) s t
opens_follower s t goes either sure same_out same_sent l at =
    let mid : Lossy = with_stores l (record { stand = l.stores.stand; cabinet = t.cabinet }) in
    let f = found_marks mid t.stand (subst (λ (x : Stand). IsEither x t.stand.mark) (sym at.stand) either) sure in (
      f.0,
      record { out = f.2 ∙ at.out ∙ sym same_out; stand = ap (λ x. x.stand) f.3; cabinet = ap (λ x. x.cabinet) f.3; sent = f.4 ∙ at.sent ∙ sym same_sent },
      (mid, ((refl, subst (λ (x : State). CabinetGoesOn x t.cabinet) (sym at.cabinet) goes), refl), (f.0, f.1, refl)),
    )

-- the leader's file was
pub opens_leader : (s t : TwinStanding) → IsOpenedFrom s.out t.out → t.stand ≡ s.stand → t.cabinet ≡ s.cabinet → t.sent ≡ s.sent → LeadsBy (lossy.outbox_opened ∷ []) s t
opens_leader s t opened same_stand same_cabinet same_sent l at = (
  with_out l t.out,
  record { out = refl; stand = at.stand ∙ sym same_stand; cabinet = at.cabinet ∙ sym same_cabinet; sent = at.sent ∙ sym same_sent },
  (with_out l t.out, (subst (λ (x : Outgoing). IsOpenedFrom x t.out) (sym at.out) opened, refl), refl),
)

-- all three were, behind a stop of both sides
pub opens_all : (l : Lossy) (s : TwinStanding) → CabinetGoesOn l.stores.cabinet s.cabinet → IsEither l.stores.stand s.stand.mark → s.stand.undecided ≡ None → IsOpenedFrom l.out s.out → s.sent ≡ []
    → (m : Lossy) × IsAt s m × Passes (without_packets l) (lossy.cabinet_opened ∷ lossy.marks_opened ∷ lossy.outbox_opened ∷ []) m
opens_all l s goes either sure opened nothing =
    let first : Lossy = with_stores (without_packets l) (record { stand = l.stores.stand; cabinet = s.cabinet }) in
    let f = found_marks first s.stand either sure in
    let last : Lossy = with_out f.0 s.out in (
      last,
      record { out = refl; stand = ap (λ x. x.stand) f.3; cabinet = ap (λ x. x.cabinet) f.3; sent = f.4 ∙ sym nothing },
      (first, ((refl, goes), refl), (f.0, f.1, (last, (subst (λ (x : Outgoing). IsOpenedFrom x s.out) (sym f.2) opened, refl), refl))),
    )

next_alone : (l : Lossy) (undecided : Option Mark) → IfSome undecided (IsNextIn l) → IfSome undecided (IsNextIn (without_packets l))
next_alone l None next = next
next_alone l (Some mark) next = record { next = next.next; cover = next.cover; is_posted = next.is_posted; is_cut = next.is_cut; answers = next.answers }

pub in_step_alone : (l : Lossy) → IsInStep l → IsInStep (without_packets l)
in_step_alone l is = record {
  known = is.known;
  served = is.served;
  served_too = is.served_too;
  counted = is.counted;
  marked = is.marked;
  posted = is.posted;
  answers = is.answers;
  undecided = next_alone l l.stores.stand.undecided is.undecided;
  sent = tt;
  heard = is.heard;
}

-- STEPS

abbrev pub AllInStep : Type 0
AllInStep = (l m : Lossy) (events : List LinkEvent) → IsInStep l → Passes l events m → IsInStep m

abbrev pub TilesAbove : Type 0
TilesAbove =
    (l mid before m : Lossy) (events more : List LinkEvent) (i k : ℕ) (cut : Cut) (address : Address) (reply : Asked) → IsInStep l → Passes l events mid → slice_get mid.applied i ≡ Some cut → Passes mid more before
    → Happens before (lossy.asked address reply) m → tile_number reply ≡ Some k → IsTrue (covers_in before.stores.cabinet.catalogue cut.cover address) → cut.number < k

-- the ask is the first event of a tile that is got
first_asked : (address : Address) (reply : Asked) (l m : Lossy) → Passes l (events_of address reply) m → (next : Lossy) × Happens l (lossy.asked address reply) next
first_asked address (asked.Hit k bytes) l m passes = (passes.0, passes.1)
first_asked address (asked.Busy k) l m passes = (passes.0, passes.1)
first_asked address asked.Spent l m passes = (passes.0, passes.1)
first_asked address (asked.Ticket t) l m passes = (passes.0, passes.1)

module _ (all : AllInStep) (tiles : TilesAbove) where
  kept_by : (answer : TwinAnswer) (events : List LinkEvent) (after : TwinMoment) (l : Lossy) → (m : Lossy) × IsAt after.stands m × Passes l events m → ((m : Lossy) → Passes l events m → IsInStep l → IsAboveCuts l answer)
      → (m : Lossy) × IsKept l (record { answer = answer; after = after }) m
  kept_by answer events after l led above = (
    led.0,
    record { events = events; passes = led.2; stands = led.1; in_step = λ st. all l led.0 events st led.2; above = λ st. above led.0 led.2 st },
  )

  step_kept : (source : Option ℕ) (s : TwinMoment) (answer : TwinAnswer) (t : TwinMoment) → Runs true source s answer t → (l : Lossy) → IsAt s.stands l → (m : Lossy) × IsKept l (record { answer = answer; after = t }) m
  step_kept source s (posted cover reply) t runs l at = kept_by (posted cover reply) (lossy.posted cover reply ∷ []) t l (runs.1 l at) (λ m p st. tt)
  step_kept source s (sent place) t runs l at = kept_by (sent place) (lossy.next_sent ∷ []) t l (runs.1 l at) (λ m p st. tt)
  step_kept source s (carried place (arrivals.Taken number reply seen)) t runs l at = kept_by (carried place (arrivals.Taken number reply seen)) (lossy.arrived runs.at runs.change reply ∷ []) t l (runs.leads l at) (λ m p st. tt)
  step_kept source s (carried place (arrivals.Heard i)) t runs l at = kept_by (carried place (arrivals.Heard i)) (lossy.heard runs.at i true ∷ []) t l (runs.leads l at) (λ m p st. tt)
  step_kept source s (carried place arrivals.Ignored) t runs l at = kept_by (carried place arrivals.Ignored) (lossy.heard runs.1.at runs.0 false ∷ []) t l (runs.1.leads l at) (λ m p st. tt)
  step_kept source s (stopped side.Leader) t runs l at = kept_by (stopped side.Leader) (lossy.outbox_opened ∷ []) t l (runs.opens refl l at) (λ m p st. tt)
  step_kept source s (stopped side.Follower) t runs l at = kept_by (stopped side.Follower) (lossy.cabinet_opened ∷ lossy.marks_opened ∷ []) t l (runs.opens refl l at) (λ m p st. tt)
  step_kept source s (answered address (got.Tile tile)) t runs l at =
      kept_by (answered address (got.Tile tile)) (events_of address runs.reply) t l (runs.leads l at)
      (λ m p st i cut found covers. let first = first_asked address runs.reply l m p in tiles l l l first.0 [] [] i tile.number cut address runs.reply st refl found refl first.1 runs.answered.numbered covers)
  step_kept source s (answered address got.SourceFault) t runs l at = kept_by (answered address got.SourceFault) (events_of address (asked.Ticket runs.0.ticket)) t l (runs.0.leads l at) (λ m p st. tt)
  step_kept source s (answered address got.Spent) t runs l at = kept_by (answered address got.Spent) (events_of address asked.Spent) t l (runs.1 l at) (λ m p st. tt)

  pub steps_kept : (source : Option ℕ) (s : TwinMoment) (steps : List TwinStep) (t : TwinMoment) → Follow true source s steps t → (l : Lossy) → IsAt s.stands l → (m : Lossy) × IsAt t.stands m × AreKept l steps m
  steps_kept source s [] t follow l at = (l, subst (λ (x : TwinMoment). IsAt x.stands l) (sym follow) at, refl)
  steps_kept source s (step ∷ steps) t follow l at =
      let k = step_kept source s step.answer step.after follow.0 l at in
      let rest = steps_kept source step.after steps t follow.2 k.0 k.1.stands in
      (rest.0, rest.1, (k.0, k.1, rest.2))
