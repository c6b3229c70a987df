-- What a list of arrivals comes to: events of a run, what is in force behind them, and the images of the marks.
use Rattle.std.proofs.Common.{◌≡◌, ℕ, ◌≤◌, List, [], ◌∷◌, ◌++◌, Some, None, refl, sym, subst, ap, ◌∙◌, arith, append_assoc, append-nil, length-append, inl, inr}
use Rattle.std.specs.List.{AllByRecursion}
use Rattle.std.proofs.lemmas.Bool.{false≢true}
use Rattle.cabinet.specs.State.{now}
use Rattle.change_feed.proofs.Running.{begins_next, called_answers, runs_answer, runs_grow}
use Rattle.change_feed.specs.declared.applied.Applied.{Applied}
use Rattle.change_feed.specs.declared.applied.Applied.TheVariants as applied
use Rattle.change_feed.specs.declared.change.Change.{Change}
use Rattle.change_feed.specs.Applies.{Applies, Pair, decided}
use Rattle.change_feed.specs.Files.{MayEndIn, Stand}
use Rattle.change_feed.specs.Marks.{last_of}
use Rattle.change_feed.specs.Runs.{IsCalled, MayBegin, Runs, called}
use Rattle.cut_follower.specs.Following.{AreInForce, Arrival, Arrive, MayEndAlong, cut_of, cuts_of, events_of, stores_of}
use Rattle.disk_model.specs.Content.{Content}
use Rattle.metatile_locks.proofs.Lists.{all_weaker}
use Rattle.served_covers.specs.OfCatalogue.{IsCoverOf}
use Rattle.truncation_list.proofs.Answering.{answers_for_cut}
use Rattle.truncation_list.specs.Books.{AnswersFor, AnswersForBook}
use Rattle.truncation_list.specs.declared.book.Cut.{Cut}

-- EVENTS

pub is_called : (s t : Pair) (change : Change) (reply : Applied) → IsCoverOf s.cabinet.catalogue change.cover → Applies s change reply t → IsCalled (stores_of s) change reply (stores_of t)
is_called s t change reply cover row = record {
  cover = cover;
  faults = s.faults;
  then_faults = t.faults;
  cabinet_faults = s.cabinet_faults;
  then_cabinet_faults = t.cabinet_faults;
  row = row;
}

-- an arrival as an event
arrival_called : (s : Pair) (x : Arrival) (xs : List Arrival) (t : Pair) → Arrive s (x ∷ xs) t → IsCalled (stores_of s) x.change x.reply (stores_of x.after)
arrival_called s x xs t arrive = is_called s x.after x.change x.reply arrive.0 arrive.1.0

pub arrive_runs : (s t : Pair) (xs : List Arrival) → Arrive s xs t → Runs (stores_of s) (events_of xs) (stores_of t)
arrive_runs s t [] arrive = ap stores_of arrive
arrive_runs s t (x ∷ xs) arrive = (stores_of x.after, arrival_called s x xs t arrive, arrive_runs x.after t xs arrive.2)

pub arrive_more : (s m : Pair) (xs : List Arrival) (x : Arrival) → Arrive s xs m → Arrive m (x ∷ []) x.after → Arrive s (xs ++ x ∷ []) x.after
arrive_more s m [] x arrive one = subst (λ (p : Pair). Arrive p (x ∷ []) x.after) arrive one
arrive_more s m (y ∷ ys) x arrive one = (arrive.0, arrive.1, arrive_more y.after m ys x arrive.2 one)

-- WHAT IS ACKNOWLEDGED

pub acknowledged : (s t : Pair) (xs : List Arrival) → MayBegin (stores_of s) → Arrive s xs t → AllByRecursion (λ x. last_of x.after.stand.mark ≤ last_of t.stand.mark) xs
acknowledged s t [] begins arrive = tt
acknowledged s t (x ∷ xs) begins arrive =
    let then : MayBegin (stores_of x.after) = begins_next (stores_of s) (stores_of x.after) (called x.change x.reply) begins (arrival_called s x xs t arrive) in
    (runs_grow (stores_of x.after) (stores_of t) (events_of xs) then (arrive_runs x.after t xs arrive.2), acknowledged x.after t xs then arrive.2)

-- WHAT IS IN FORCE

all_one_more : (P : Cut → Type 0) (ks : List Cut) (k : Cut) → AllByRecursion P ks → P k → AllByRecursion P (ks ++ k ∷ [])
all_one_more P [] k all one = (one, tt)
all_one_more P (x ∷ xs) k all one = (all.0, all_one_more P xs k all.1 one)

still_answered : (s t : Pair) (cuts : List Cut) → AnswersForBook (now t.cabinet).book (now s.cabinet).book → AllByRecursion (AnswersFor (now s.cabinet).book) cuts → AllByRecursion (AnswersFor (now t.cabinet).book) cuts
still_answered s t cuts answers all = all_weaker (AnswersFor (now s.cabinet).book) (AnswersFor (now t.cabinet).book) (λ k h. answers_for_cut (now t.cabinet).book (now s.cabinet).book k answers h) cuts all

-- no cut more
still_in_force : (s t : Pair) (cuts : List Cut) → AnswersForBook (now t.cabinet).book (now s.cabinet).book → last_of t.stand.mark ≡ last_of s.stand.mark → AreInForce s cuts → AreInForce t (cuts ++ [])
still_in_force s t cuts answers same are = subst (AreInForce t) (sym (append-nil cuts)) (record { counted = are.counted ∙ sym same; answered = still_answered s t cuts answers are.answered })

mark_same : (s t : Stand) → t ≡ s → last_of t.mark ≡ last_of s.mark
mark_same s t is = ap (λ (x : Stand). last_of x.mark) is

pub more_in_force : (s t : Pair) (change : Change) (reply : Applied) (cuts : List Cut) → MayBegin (stores_of s) → IsCalled (stores_of s) change reply (stores_of t) → Applies s change reply t → AreInForce s cuts → AreInForce t (cuts ++ cut_of change reply)
more_in_force s t change reply cuts begins is row are = by reply is row
  where
    answers_by : (r : Applied) → IsCalled (stores_of s) change r (stores_of t) → AnswersForBook (now t.cabinet).book (now s.cabinet).book
    answers_by r c = runs_answer (stores_of s) (stores_of t) (called change r ∷ []) begins (stores_of t, c, refl)

    by : (r : Applied) → IsCalled (stores_of s) change r (stores_of t) → Applies s change r t → AreInForce t (cuts ++ cut_of change r)
    by applied.Repeated c row = still_in_force s t cuts (answers_by applied.Repeated c) (ap (λ (x : Pair). last_of x.stand.mark) row.1) are
    by (applied.Gap k) c row = still_in_force s t cuts (answers_by (applied.Gap k) c) (ap (λ (x : Pair). last_of x.stand.mark) row.2) are
    by (applied.FeedFault None) c row = still_in_force s t cuts (answers_by (applied.FeedFault None) c) (mark_same s.stand t.stand row.2) are
    by (applied.FeedFault (Some k)) c row = still_in_force s t cuts (answers_by (applied.FeedFault (Some k)) c) (ap (λ (x : Stand). last_of x.mark) row.0.stands) are
    by applied.Spent c row = still_in_force s t cuts (answers_by applied.Spent c) (ap (λ (x : Stand). last_of x.mark) row.stands) are
    by applied.Full c row = still_in_force s t cuts (answers_by applied.Full c) (ap (λ (x : Stand). last_of x.mark) row.stands) are
    by (applied.DiskFault b a) c row = still_in_force s t cuts (answers_by (applied.DiskFault b a) c) (ap (λ (x : Stand). last_of x.mark) row.stands) are
    by (applied.Done k) c row =
        let new : Cut = record { number = k; cover = change.cover } in
        let last : last_of t.stand.mark ≡ change.number = ap (λ (x : Stand). last_of x.mark) row.stands in
        record {
          counted = omega (arith, length-append cuts (new ∷ []), are.counted, row.next, last);
          answered = all_one_more (AnswersFor (now t.cabinet).book) cuts new (still_answered s t cuts (answers_by (applied.Done k) c) are.answered) (called_answers (stores_of s) (stores_of t) change (applied.Done k) k refl c);
        }

pub all_in_force : (s t : Pair) (xs : List Arrival) (cuts : List Cut) → MayBegin (stores_of s) → Arrive s xs t → AreInForce s cuts → AreInForce t (cuts ++ cuts_of xs)
all_in_force s t [] cuts begins arrive are = subst (AreInForce t) (sym (append-nil cuts)) (subst (λ (p : Pair). AreInForce p cuts) (sym arrive) are)
all_in_force s t (x ∷ xs) cuts begins arrive are =
    let is = arrival_called s x xs t arrive in
    let then : MayBegin (stores_of x.after) = begins_next (stores_of s) (stores_of x.after) (called x.change x.reply) begins is in
    let one : AreInForce x.after (cuts ++ cut_of x.change x.reply) = more_in_force s x.after x.change x.reply cuts begins is arrive.1.0 are in
    subst (AreInForce t) (append_assoc cuts (cut_of x.change x.reply) (cuts_of xs)) (all_in_force x.after t xs (cuts ++ cut_of x.change x.reply) then arrive.2 one)

-- IMAGES

pub along_more : (digest : List ℕ) (s : Stand) (xs : List Arrival) (x : Arrival) (image : Content) → MayEndAlong digest s xs image → MayEndAlong digest s (xs ++ x ∷ []) image
along_more digest s [] x image may = inl may
along_more digest s (y ∷ ys) x image (inl may) = inl may
along_more digest s (y ∷ ys) x image (inr may) = inr (along_more digest y.after.stand ys x image may)

pub along_here : (digest : List ℕ) (s m : Pair) (xs : List Arrival) (image : Content) → Arrive s xs m → MayEndIn digest m.stand image → MayEndAlong digest s.stand xs image
along_here digest s m [] image arrive may = subst (λ (p : Pair). MayEndIn digest p.stand image) arrive may
along_here digest s m (y ∷ ys) image arrive may = inr (along_here digest y.after m ys image arrive.2 may)

pub along_next : (digest : List ℕ) (s : Stand) (xs : List Arrival) (x : Arrival) (image : Content) → MayEndIn digest x.after.stand image → MayEndAlong digest s (xs ++ x ∷ []) image
along_next digest s [] x image may = inr may
along_next digest s (y ∷ ys) x image may = inr (along_next digest y.after.stand ys x image may)

pub decided_in : (digest : List ℕ) (s t : Stand) (image : Content) → t ≡ decided s → MayEndIn digest t image → MayEndIn digest s image
decided_in digest s t image same may = elim (subst (λ (x : Stand). MayEndIn digest x image) same may) [
  | inl ends ↦ inl ends
  | inr ends ↦ absurd (false≢true ends.0)
]
