-- A lossy link as a run of its follower's feed.
use Rattle.std.proofs.Common.{◌≡◌, ℕ, ◌<◌, ◌≤◌, List, [], ◌∷◌, ◌++◌, Some, None, IsSome, refl, sym, subst, ◌∙◌, ap}
use Rattle.std.proofs.lemmas.List.{append_assoc}
use Rattle.cabinet.specs.declared.replies.CutReply.TheVariants as cut
use Rattle.cabinet.specs.State.{IsKnown, IsKnownAs, State, now}
use Rattle.cabinet.proofs.Rows.{asks_known, cuts_known}
use Rattle.truncation_list.proofs.Answering.{answers_itself}
use Rattle.change_feed.specs.declared.applied.Applied.{Applied}
use Rattle.change_feed.specs.declared.applied.Applied.TheVariants as applied
use Rattle.change_feed.specs.declared.change.Change.{Change}
use Rattle.change_feed.specs.Applies.{Pair, marked_cut}
use Rattle.change_feed.specs.Runs.{CabinetGoesOn, FeedAndCabinet, IsCalled, MayBegin, Runs}
use Rattle.change_feed.specs.Runs as feeds
use Rattle.change_feed.proofs.Lawful.{cut_above, cut_again}
use Rattle.change_feed.proofs.Running.{runs_begin}
use Rattle.outbox.specs.declared.packet.Packet.{Packet}
use Rattle.cut_follower.specs.declared.taken.Taken.TheVariants as taken
use Rattle.cut_follower.specs.Lossy.{Happens, IsTaken, LinkEvent, Lossy, Passes, arrived, asked, cabinet_opened, commanded, heard, marks_opened, next_sent, outbox_opened, packet_of, posted, ran_out}

-- WHAT A CABINET GOES ON AS

pub goes_same : (s t : State) → t ≡ s → IsKnown s → CabinetGoesOn s t
goes_same s t is known = subst (CabinetGoesOn s) (sym is) (record { known = known; same_catalogue = refl; answers = answers_itself (now s).book })

goes_known : (s t : State) → IsKnownAs s t → CabinetGoesOn s t
goes_known s t k = record { known = k.known; same_catalogue = k.same_catalogue; answers = k.answers.book }

pub goes_called : (s t : FeedAndCabinet) (change : Change) (reply : Applied) → IsKnown s.cabinet → IsCalled s change reply t → CabinetGoesOn s.cabinet t.cabinet
goes_called s t change applied.Repeated known is = goes_same s.cabinet t.cabinet (ap (λ (x : Pair). x.cabinet) is.row.1) known
goes_called s t change (applied.Gap k) known is = goes_same s.cabinet t.cabinet (ap (λ (x : Pair). x.cabinet) is.row.2) known
goes_called s t change (applied.FeedFault None) known is = goes_same s.cabinet t.cabinet is.row.3 known
goes_called s t change (applied.FeedFault (Some k)) known is = goes_known s.cabinet t.cabinet (cuts_known s.cabinet t.cabinet change.cover (cut.Done k) known is.cover is.row.0.cuts)
goes_called s t change applied.Spent known is = goes_known s.cabinet t.cabinet (cuts_known s.cabinet t.cabinet change.cover cut.Spent known is.cover is.row.cuts)
goes_called s t change applied.Full known is = goes_known s.cabinet t.cabinet (cuts_known s.cabinet t.cabinet change.cover cut.Full known is.cover is.row.cuts)
goes_called s t change (applied.DiskFault b a) known is = goes_known s.cabinet t.cabinet (cuts_known s.cabinet t.cabinet change.cover (cut.DiskFault b a) known is.cover is.row.cuts)
goes_called s t change (applied.Done k) known is = goes_known s.cabinet t.cabinet (cuts_known s.cabinet t.cabinet change.cover (cut.Done k) known is.cover is.row.cuts)

pub goes_asked : (l m : Lossy) (address : _) (reply : _) → IsKnown l.stores.cabinet → Happens l (asked address reply) m → CabinetGoesOn l.stores.cabinet m.stores.cabinet
goes_asked l m address reply known is = goes_known l.stores.cabinet m.stores.cabinet (asks_known is.faults is.then_faults l.stores.cabinet m.stores.cabinet address reply known is.tile is.row)

-- a change that was taken was called for
pub called_of : (s t : FeedAndCabinet) (change : Change) (reply : Applied) (seen : Packet) → IsTaken s (packet_of change) (taken.Answer reply seen) t → IsCalled s change reply t
called_of s t change reply seen is = record {
  cover = is.cover;
  faults = is.faults;
  then_faults = is.then_faults;
  cabinet_faults = is.cabinet_faults;
  then_cabinet_faults = is.then_cabinet_faults;
  row = is.row.0;
}

-- WHAT HAPPENS TO THE FEED

abbrev pub event_of : LinkEvent → List feeds.FeedEvent
event_of (posted cover reply) = []
event_of next_sent = []
event_of (heard n i news) = []
event_of outbox_opened = []
event_of (arrived n change reply) = feeds.called change reply ∷ []
event_of (ran_out n change) = feeds.ran_out change ∷ []
event_of marks_opened = feeds.marks_opened ∷ []
event_of cabinet_opened = feeds.cabinet_opened ∷ []
event_of commanded = feeds.commanded ∷ []
event_of (asked address reply) = feeds.commanded ∷ []

abbrev pub events_of : List LinkEvent → List feeds.FeedEvent
events_of [] = []
events_of (event ∷ events) = event_of event ++ events_of events

stores_of : (l m : Lossy) → m ≡ l → m.stores ≡ l.stores
stores_of l m is = ap (λ (x : Lossy). x.stores) is

one : (s t : FeedAndCabinet) (event : feeds.FeedEvent) → feeds.IsEvent s event t → Runs s (event ∷ []) t
one s t event is = (t, is, refl)

happens_runs : (l m : Lossy) (event : LinkEvent) → MayBegin l.stores → Happens l event m → Runs l.stores (event_of event) m.stores
happens_runs l m (posted cover reply) begins is = ap (λ (x : Lossy). x.stores) is.rest
happens_runs l m next_sent begins is = ap (λ (x : Lossy). x.stores) is
happens_runs l m (heard n i news) begins is = ap (λ (x : Lossy). x.stores) is.2
happens_runs l m outbox_opened begins is = ap (λ (x : Lossy). x.stores) is.1
happens_runs l m (arrived n change reply) begins is = one l.stores m.stores (feeds.called change reply) (called_of l.stores m.stores change reply is.seen is.takes)
happens_runs l m (ran_out n change) begins is = one l.stores m.stores (feeds.ran_out change) is.1
happens_runs l m marks_opened begins is = one l.stores m.stores feeds.marks_opened is.opens
happens_runs l m cabinet_opened begins is = one l.stores m.stores feeds.cabinet_opened is.0
happens_runs l m commanded begins is = one l.stores m.stores feeds.commanded is.0
happens_runs l m (asked address reply) begins is = one l.stores m.stores feeds.commanded (is.same_stand, goes_asked l m address reply begins.known is)

runs_join : (s m t : FeedAndCabinet) (es fs : List feeds.FeedEvent) → Runs s es m → Runs m fs t → Runs s (es ++ fs) t
runs_join s m t [] fs first next = subst (λ x. Runs x fs t) first next
runs_join s m t (e ∷ es) fs first next = (first.0, first.1, runs_join first.0 m t es fs first.2 next)

pub passes_run : (l m : Lossy) (events : List LinkEvent) → MayBegin l.stores → Passes l events m → Runs l.stores (events_of events) m.stores
passes_run l m [] begins is = stores_of l m is
passes_run l m (e ∷ es) begins is =
    let first = happens_runs l is.0 e begins is.1 in
    let begun = runs_begin l.stores is.0.stores (event_of e) begins first in
    runs_join l.stores is.0.stores m.stores (event_of e) (events_of es) first (passes_run is.0 m es begun is.2)

events_join : (es fs : List LinkEvent) → events_of (es ++ fs) ≡ events_of es ++ events_of fs
events_join [] fs = refl
events_join (e ∷ es) fs = ap (λ l. event_of e ++ l) (events_join es fs) ∙ sym (append_assoc (event_of e) (events_of es) (events_of fs))

-- a list with two arrivals in it, as a run with two calls
module _ (l m : Lossy) (before between after : List LinkEvent) (p q : ℕ) (c d : Change) (first reply : Applied) (begins : MayBegin l.stores)
    (is : Passes l (before ++ (arrived p c first ∷ (between ++ (arrived q d reply ∷ after)))) m) where
  runs_two : Runs l.stores (events_of before ++ (feeds.called c first ∷ (events_of between ++ (feeds.called d reply ∷ events_of after)))) m.stores
  runs_two =
      subst (λ es. Runs l.stores es m.stores)
      (events_join before (arrived p c first ∷ (between ++ (arrived q d reply ∷ after))) ∙ ap (λ es. events_of before ++ (feeds.called c first ∷ es)) (events_join between (arrived q d reply ∷ after)))
      (passes_run l m (before ++ (arrived p c first ∷ (between ++ (arrived q d reply ∷ after)))) begins is)

  pub arrives_again : IsSome (marked_cut first) → IsSome (marked_cut reply) → d.number ≤ c.number → (k : ℕ) × (first ≡ applied.FeedFault (Some k))
  arrives_again cuts again same = cut_again l.stores m.stores (events_of before) (events_of between) (events_of after) c d first reply begins runs_two cuts again same

pub arrives_above : (l m : Lossy) (before between after : List LinkEvent) (p q k : ℕ) (c d : Change) (reply : Applied) → MayBegin l.stores
    → Passes l (before ++ (arrived p c (applied.Done k) ∷ (between ++ (arrived q d reply ∷ after)))) m → IsSome (marked_cut reply) → c.number < d.number
arrives_above l m before between after p q k c d reply begins is cuts =
    cut_above l.stores m.stores (events_of before) (events_of between) (events_of after) c d k reply begins (runs_two l m before between after p q c d (applied.Done k) reply begins is) cuts
