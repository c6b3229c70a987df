-- What the events of a run do to a feed and to a cabinet.
use Rattle.std.proofs.Common.{◌≡◌, ◌⊎◌, ℕ, ◌+◌, ◌<◌, ◌≤◌, List, [], ◌∷◌, ◌++◌, Option, Some, None, IsSome, refl, sym, subst, ◌∙◌, ap, arith, inl, inr}
use Rattle.std.proofs.lemmas.Bool.{cases_lt, false≢true}
use Rattle.cabinet.specs.declared.replies.CutReply.{CutReply}
use Rattle.cabinet.specs.declared.replies.CutReply.TheVariants as cut
use Rattle.cabinet.specs.declared.entry.HistoryEntry.TheVariants as entry
use Rattle.cabinet.specs.Commands.{Cuts}
use Rattle.cabinet.specs.History.{CabinetStanding, least_of, numbers}
use Rattle.cabinet.specs.State.{IsKnown, IsKnownAs, State, blobs_spared, now, with_cut}
use Rattle.cabinet.proofs.Rows.{cuts_known, now_more}
use Rattle.std.specs.Option.{option_map}
use Rattle.truncation_list.specs.Books.{AnswersFor, AnswersForBook}
use Rattle.truncation_list.specs.declared.cover.Cover.{Cover}
use Rattle.truncation_list.specs.Purge.{purged}
use Rattle.truncation_list.proofs.Answering.{answers_for_cut, answers_itself, answers_through}
use Rattle.truncation_list.proofs.Remaining.{lists_new}
use Rattle.change_feed.specs.declared.applied.Applied.{Applied}
use Rattle.change_feed.specs.declared.applied.Applied.TheVariants as applied
use Rattle.change_feed.specs.declared.change.Change.{Change}
use Rattle.change_feed.specs.declared.mark.Mark.{Mark}
use Rattle.change_feed.specs.Applies.{Pair, decided, mark_for, marked_cut}
use Rattle.change_feed.specs.Files.{IsBehind, Stand}
use Rattle.change_feed.specs.Marks.{last_of}
use Rattle.change_feed.proofs.Following.{some_mark}
use Rattle.change_feed.specs.Runs.{CutsNumber, FeedEvent, CabinetGoesOn, IsCalled, IsCutIn, IsEither, IsEvent, IsMadeIn, MakesMark, MayBegin, Runs, FeedAndCabinet, called, cabinet_opened, commanded, marks_opened, ran_out}

-- an event made this mark, and its cut is answered for then
abbrev pub IsMadeBy : Mark → FeedEvent → FeedAndCabinet → Type 0
IsMadeBy m event t = (cover : Cover) × MakesMark m cover event × AnswersFor (now t.cabinet).book (record { number = m.cut; cover = cover })

-- WHAT AN EVENT DOES TO A FEED

-- nothing changes; or the mark stays or the undecided one is found, and none is undecided
abbrev pub Keeps : Stand → Stand → Type 0
Keeps s t = (t ≡ s) ⊎ (IsEither s t.mark × (t.undecided ≡ None))

-- the next change was cut for, and its mark is the last one or is undecided
pub record CutsNext (s : Stand) (event : FeedEvent) (t : Stand) : Type 0 where
  pub change : Change
  pub cut : ℕ
  pub reply : Applied
  pub is_called : event ≡ called change reply
  pub makes : marked_cut reply ≡ Some cut
  pub next : change.number ≡ last_of s.mark + 1
  pub stands : (t ≡ record { mark = Some (mark_for change cut); undecided = None }) ⊎ (t ≡ record { mark = s.mark; undecided = Some (mark_for change cut) })

abbrev pub Steps : Stand → FeedEvent → Stand → Type 0
Steps s event t = Keeps s t ⊎ CutsNext s event t

keeps_decided : (s t : Stand) → t ≡ decided s → Keeps s t
keeps_decided s t is = inr (inl (ap (λ (x : Stand). x.mark) is), ap (λ (x : Stand). x.undecided) is)

step_called : (s t : FeedAndCabinet) (change : Change) (reply : Applied) → IsCalled s change reply t → Steps s.stand (called change reply) t.stand
step_called s t change applied.Repeated is = inl (inl (ap (λ (x : Pair). x.stand) is.row.1))
step_called s t change (applied.Gap k) is = inl (inl (ap (λ (x : Pair). x.stand) is.row.2))
step_called s t change (applied.FeedFault None) is = inl (inl is.row.2)
step_called s t change (applied.FeedFault (Some k)) is = inr (record { change = change; cut = k; reply = applied.FeedFault (Some k); is_called = refl; makes = refl; next = is.row.0.next; stands = inr is.row.0.stands })
step_called s t change applied.Spent is = inl (keeps_decided s.stand t.stand is.row.stands)
step_called s t change applied.Full is = inl (keeps_decided s.stand t.stand is.row.stands)
step_called s t change (applied.DiskFault b a) is = inl (keeps_decided s.stand t.stand is.row.stands)
step_called s t change (applied.Done k) is = inr (record { change = change; cut = k; reply = applied.Done k; is_called = refl; makes = refl; next = is.row.next; stands = inl is.row.stands })

step : (s t : FeedAndCabinet) (event : FeedEvent) → IsEvent s event t → Steps s.stand event t.stand
step s t (called change reply) is = step_called s t change reply is
step s t (ran_out change) is = inl (keeps_decided s.stand t.stand is.0)
step s t marks_opened is = inl (inr (is.0, is.1))
step s t cabinet_opened is = inl (inl is.0)
step s t commanded is = inl (inl is.0)

abbrev or_zero : Option ℕ → ℕ
or_zero None = 0
or_zero (Some n) = n

some_same : (m n : ℕ) → Some m ≡ Some n → m ≡ n
some_same m n is = ap or_zero is

-- an undecided mark has the next number
undecided_number : (mark undecided : Option Mark) → IsBehind mark undecided → IsSome undecided → last_of undecided ≡ last_of mark + 1
undecided_number mark None behind some = absurd (false≢true some)
undecided_number mark (Some u) behind some = behind

pub either_grows : (s : Stand) (found : Option Mark) → IsBehind s.mark s.undecided → IsEither s found → last_of s.mark ≤ last_of found
either_grows s found behind (inl is) = omega (arith, ap last_of is)
either_grows s found behind (inr is) = omega (arith, ap last_of is.1, undecided_number s.mark s.undecided behind is.0)

step_grows : (s t : Stand) (event : FeedEvent) → IsBehind s.mark s.undecided → Steps s event t → last_of s.mark ≤ last_of t.mark
step_grows s t event behind (inl (inl is)) = omega (arith, ap (λ (x : Stand). last_of x.mark) is)
step_grows s t event behind (inl (inr is)) = either_grows s t.mark behind is.0
step_grows s t event behind (inr cuts) = elim cuts.stands [
  | inl is ↦ omega (arith, cuts.next, ap (λ (x : Stand). last_of x.mark) is)
  | inr is ↦ omega (arith, ap (λ (x : Stand). last_of x.mark) is)
]

behind_of : (s t : Stand) → t ≡ s → IsBehind s.mark s.undecided → IsBehind t.mark t.undecided
behind_of s t is behind = subst (λ (x : Stand). IsBehind x.mark x.undecided) (sym is) behind

step_behind : (s t : Stand) (event : FeedEvent) → IsBehind s.mark s.undecided → Steps s event t → IsBehind t.mark t.undecided
step_behind s t event behind (inl (inl is)) = behind_of s t is behind
step_behind s t event behind (inl (inr is)) = subst (IsBehind t.mark) (sym is.1) tt
step_behind s t event behind (inr cuts) = elim cuts.stands [
  | inl is ↦ behind_of (record { mark = Some (mark_for cuts.change cuts.cut); undecided = None }) t is tt
  | inr is ↦ behind_of (record { mark = s.mark; undecided = Some (mark_for cuts.change cuts.cut) }) t is cuts.next
]

-- WHAT AN EVENT DOES TO A CABINET

goes_same : (s t : State) → t ≡ s → IsKnown s → CabinetGoesOn s t
goes_same s t is known = subst (CabinetGoesOn s) (sym is) (record { known = known; same_catalogue = refl; answers = answers_itself (now s).book })

goes_known : (s t : State) → IsKnownAs s t → CabinetGoesOn s t
goes_known s t k = record { known = k.known; same_catalogue = k.same_catalogue; answers = k.answers.book }

goes_called : (s t : FeedAndCabinet) (change : Change) (reply : Applied) → IsKnown s.cabinet → IsCalled s change reply t → CabinetGoesOn s.cabinet t.cabinet
goes_called s t change applied.Repeated known is = goes_same s.cabinet t.cabinet (ap (λ (x : Pair). x.cabinet) is.row.1) known
goes_called s t change (applied.Gap k) known is = goes_same s.cabinet t.cabinet (ap (λ (x : Pair). x.cabinet) is.row.2) known
goes_called s t change (applied.FeedFault None) known is = goes_same s.cabinet t.cabinet is.row.3 known
goes_called s t change (applied.FeedFault (Some k)) known is = goes_known s.cabinet t.cabinet (cuts_known s.cabinet t.cabinet change.cover (cut.Done k) known is.cover is.row.0.cuts)
goes_called s t change applied.Spent known is = goes_known s.cabinet t.cabinet (cuts_known s.cabinet t.cabinet change.cover cut.Spent known is.cover is.row.cuts)
goes_called s t change applied.Full known is = goes_known s.cabinet t.cabinet (cuts_known s.cabinet t.cabinet change.cover cut.Full known is.cover is.row.cuts)
goes_called s t change (applied.DiskFault b a) known is = goes_known s.cabinet t.cabinet (cuts_known s.cabinet t.cabinet change.cover (cut.DiskFault b a) known is.cover is.row.cuts)
goes_called s t change (applied.Done k) known is = goes_known s.cabinet t.cabinet (cuts_known s.cabinet t.cabinet change.cover (cut.Done k) known is.cover is.row.cuts)

goes : (s t : FeedAndCabinet) (event : FeedEvent) → IsKnown s.cabinet → IsEvent s event t → CabinetGoesOn s.cabinet t.cabinet
goes s t (called change reply) known is = goes_called s t change reply known is
goes s t (ran_out change) known is = goes_same s.cabinet t.cabinet is.1 known
goes s t marks_opened known is = goes_same s.cabinet t.cabinet is.2 known
goes s t cabinet_opened known is = is.1
goes s t commanded known is = is.1

-- a truncation that was just done is answered for
done_answers : (s t : State) (cover : Cover) (k : ℕ) → Cuts s cover (cut.Done k) t → AnswersFor (now t).book (record { number = k; cover = cover })
done_answers s t cover k is =
    subst (λ (x : State). AnswersFor (now x).book (record { number = k; cover = cover })) (sym is.2)
    (subst (λ (x : CabinetStanding). AnswersFor x.book (record { number = k; cover = cover })) (sym (now_more s (entry.Cut k cover) (option_map (blobs_spared s.catalogue cover) s.blobs)))
    (lists_new k cover (purged (Some cover) (least_of (numbers (now s).out (now s).kept)) (now s).book)))

pub called_answers : (s t : FeedAndCabinet) (change : Change) (reply : Applied) (k : ℕ) → marked_cut reply ≡ Some k → IsCalled s change reply t → AnswersFor (now t.cabinet).book (record { number = k; cover = change.cover })
called_answers s t change applied.Repeated k cuts is = absurd (cc)
called_answers s t change (applied.Gap n) k cuts is = absurd (cc)
called_answers s t change (applied.FeedFault None) k cuts is = absurd (cc)
called_answers s t change (applied.FeedFault (Some n)) k cuts is = done_answers s.cabinet t.cabinet change.cover k (subst (λ (x : ℕ). Cuts s.cabinet change.cover (cut.Done x) t.cabinet) (some_same n k cuts) is.row.0.cuts)
called_answers s t change applied.Spent k cuts is = absurd (cc)
called_answers s t change applied.Full k cuts is = absurd (cc)
called_answers s t change (applied.DiskFault b a) k cuts is = absurd (cc)
called_answers s t change (applied.Done n) k cuts is = done_answers s.cabinet t.cabinet change.cover k (subst (λ (x : ℕ). Cuts s.cabinet change.cover (cut.Done x) t.cabinet) (some_same n k cuts) is.row.cuts)

-- the number that an event cut for
cuts_it : (s t : Stand) (event : FeedEvent) (cuts : CutsNext s event t) (i : ℕ) → cuts.change.number ≡ i → CutsNumber i event
cuts_it s t event cuts i is = subst (CutsNumber i) (sym cuts.is_called) (is, subst IsSome (sym cuts.makes) refl)

-- where a number comes from that is undecided after an event
undecided_from : (s t : Stand) (event : FeedEvent) (i : ℕ) → Steps s event t → IsSome t.undecided → last_of t.undecided ≡ i → CutsNumber i event ⊎ (IsSome s.undecided × (last_of s.undecided ≡ i))
undecided_from s t event i (inl (inl is)) some number = inr (subst (λ (x : Stand). IsSome x.undecided × (last_of x.undecided ≡ i)) is (some, number))
undecided_from s t event i (inl (inr is)) some number = absurd (false≢true (subst (λ (u : Option Mark). IsSome u) is.1 some))
undecided_from s t event i (inr cuts) some number = elim cuts.stands [
  | inl is ↦ absurd (false≢true (subst (λ (x : Stand). IsSome x.undecided) is some))
  | inr is ↦ inl (cuts_it s t event cuts i (ap (λ (x : Stand). last_of x.undecided) (sym is) ∙ number))
]

-- where a number comes from that is reached by an event
raised_by : (s t : Stand) (event : FeedEvent) (i : ℕ) → IsBehind s.mark s.undecided → Steps s event t → last_of s.mark < i → i ≤ last_of t.mark → CutsNumber i event ⊎ (IsSome s.undecided × (last_of s.undecided ≡ i))
raised_by s t event i behind (inl (inl is)) above upto = absurd (omega (arith, above, upto, ap (λ (x : Stand). last_of x.mark) is))
raised_by s t event i behind (inl (inr (inl is, none))) above upto = absurd (omega (arith, above, upto, ap last_of is))
raised_by s t event i behind (inl (inr (inr is, none))) above upto = inr (is.0, omega (arith, above, upto, ap last_of is.1, undecided_number s.mark s.undecided behind is.0))
raised_by s t event i behind (inr cuts) above upto = elim cuts.stands [
  | inl is ↦ inl (cuts_it s t event cuts i (omega (arith, cuts.next, above, upto, ap (λ (x : Stand). last_of x.mark) is)))
  | inr is ↦ absurd (omega (arith, above, upto, ap (λ (x : Stand). last_of x.mark) is))
]

-- a change that is cut for is the next
pub next_number : (s t : FeedAndCabinet) (change : Change) (reply : Applied) → IsSome (marked_cut reply) → IsCalled s change reply t → change.number ≡ last_of s.stand.mark + 1
next_number s t change applied.Repeated cuts is = absurd (false≢true cuts)
next_number s t change (applied.Gap n) cuts is = absurd (false≢true cuts)
next_number s t change (applied.FeedFault None) cuts is = absurd (false≢true cuts)
next_number s t change (applied.FeedFault (Some n)) cuts is = is.row.0.next
next_number s t change applied.Spent cuts is = absurd (false≢true cuts)
next_number s t change applied.Full cuts is = absurd (false≢true cuts)
next_number s t change (applied.DiskFault b a) cuts is = absurd (false≢true cuts)
next_number s t change (applied.Done n) cuts is = is.row.next

-- WHAT EVENTS DO

pub begins_next : (s t : FeedAndCabinet) (event : FeedEvent) → MayBegin s → IsEvent s event t → MayBegin t
begins_next s t event begins is = record { behind = step_behind s.stand t.stand event begins.behind (step s t event is); known = (goes s t event begins.known is).known }

pub runs_begin : (s t : FeedAndCabinet) (es : List FeedEvent) → MayBegin s → Runs s es t → MayBegin t
runs_begin s t [] begins is = subst MayBegin (sym is) begins
runs_begin s t (e ∷ es) begins runs = runs_begin runs.0 t es (begins_next s runs.0 e begins runs.1) runs.2

pub runs_grow : (s t : FeedAndCabinet) (es : List FeedEvent) → MayBegin s → Runs s es t → last_of s.stand.mark ≤ last_of t.stand.mark
runs_grow s t [] begins is = omega (arith, ap (λ (x : FeedAndCabinet). last_of x.stand.mark) is)
runs_grow s t (e ∷ es) begins runs = omega (arith, step_grows s.stand runs.0.stand e begins.behind (step s runs.0 e runs.1), runs_grow runs.0 t es (begins_next s runs.0 e begins runs.1) runs.2)

pub runs_answer : (s t : FeedAndCabinet) (es : List FeedEvent) → MayBegin s → Runs s es t → AnswersForBook (now t.cabinet).book (now s.cabinet).book
runs_answer s t [] begins is = subst (λ (x : FeedAndCabinet). AnswersForBook (now x.cabinet).book (now s.cabinet).book) (sym is) (answers_itself (now s.cabinet).book)
runs_answer s t (e ∷ es) begins runs =
    answers_through (now t.cabinet).book (now runs.0.cabinet).book (now s.cabinet).book (runs_answer runs.0 t es (begins_next s runs.0 e begins runs.1) runs.2) (goes s runs.0 e begins.known runs.1).answers

-- where a mark comes from that is the last or undecided after an event
made_at : (s t : FeedAndCabinet) (event : FeedEvent) (m : Mark) → Keeps s.stand t.stand → IsEither t.stand (Some m) → IsEither s.stand (Some m)
made_at s t event m (inl is) found = subst (λ (x : Stand). IsEither x (Some m)) is found
made_at s t event m (inr (either, none)) (inl is) = subst (IsEither s.stand) (sym is) either
made_at s t event m (inr (either, none)) (inr is) = absurd (false≢true (subst (λ (u : Option Mark). IsSome u) none is.0))

made_by : (s t : FeedAndCabinet) (event : FeedEvent) (m : Mark) → IsEvent s event t → CutsNext s.stand event t.stand → IsEither t.stand (Some m) → IsEither s.stand (Some m) ⊎ IsMadeBy m event t
made_by s t event m is cuts found = elim cuts.stands [
  | inl stands ↦ elim (subst (λ (x : Stand). IsEither x (Some m)) stands found) [
    | inl last ↦ inr (made (some_mark m (mark_for cuts.change cuts.cut) last))
    | inr none ↦ absurd (false≢true none.0)
  ]
  | inr stands ↦ elim (subst (λ (x : Stand). IsEither x (Some m)) stands found) [
    | inl last ↦ inl (inl last)
    | inr new ↦ inr (made (some_mark m (mark_for cuts.change cuts.cut) new.1))
  ]
]
  where
    made : m ≡ mark_for cuts.change cuts.cut → IsMadeBy m event t
    made same =
        let called_is : IsCalled s cuts.change cuts.reply t = subst (λ (e : FeedEvent). IsEvent s e t) cuts.is_called is in (
          cuts.change.cover,
          subst (MakesMark m cuts.change.cover) (sym cuts.is_called) (ap (λ (x : Mark). x.number) (sym same), refl, cuts.makes ∙ ap (λ (x : Mark). Some x.cut) (sym same)),
          subst (λ (n : ℕ). AnswersFor (now t.cabinet).book (record { number = n; cover = cuts.change.cover })) (ap (λ (x : Mark). x.cut) (sym same)) (called_answers s t cuts.change cuts.reply cuts.cut cuts.makes called_is),
        )

pub runs_make : (s t : FeedAndCabinet) (es : List FeedEvent) (m : Mark) → MayBegin s → Runs s es t → IsEither t.stand (Some m) → IsEither s.stand (Some m) ⊎ ((cover : Cover) × IsMadeIn m cover es × AnswersFor (now t.cabinet).book (record { number = m.cut; cover = cover }))
runs_make s t [] m begins is found = inl (subst (λ (x : FeedAndCabinet). IsEither x.stand (Some m)) is found)
runs_make s t (e ∷ es) m begins runs found =
    let mid = runs.0 in
    let begun = begins_next s mid e begins runs.1 in
    elim (runs_make mid t es m begun runs.2 found) [
      | inr later ↦ inr (later.0, inr later.1, later.2)
      | inl was ↦ elim (step s mid e runs.1) [
        | inl keeps ↦ inl (made_at s mid e m keeps was)
        | inr cuts ↦ elim (made_by s mid e m runs.1 cuts was) [
          | inl before ↦ inl before
          | inr here ↦ inr (here.0, inl here.1, answers_for_cut (now t.cabinet).book (now mid.cabinet).book (record { number = m.cut; cover = here.0 }) (runs_answer mid t es begun runs.2) here.2)
        ]
      ]
    ]

-- a run of two lists goes by a place between them
pub runs_split : (s t : FeedAndCabinet) (es fs : List FeedEvent) → Runs s (es ++ fs) t → (m : FeedAndCabinet) × Runs s es m × Runs m fs t
runs_split s t [] fs runs = (s, refl, runs)
runs_split s t (e ∷ es) fs runs = let rest = runs_split runs.0 t es fs runs.2 in (rest.0, (runs.0, runs.1, rest.1), rest.2)

-- each number up to the last one was cut for, or was undecided at first
pub runs_rise : (s t : FeedAndCabinet) (es : List FeedEvent) (i : ℕ) → MayBegin s → Runs s es t → last_of s.stand.mark < i → i ≤ last_of t.stand.mark → IsCutIn i es ⊎ (IsSome s.stand.undecided × (last_of s.stand.undecided ≡ i))
runs_rise s t [] i begins is above upto = absurd (omega (arith, above, upto, ap (λ (x : FeedAndCabinet). last_of x.stand.mark) is))
runs_rise s t (e ∷ es) i begins runs above upto =
    let m = runs.0 in
    let steps = step s m e runs.1 in
    elim (cases_lt (last_of m.stand.mark) i) [
      | inl below ↦ elim (runs_rise m t es i (begins_next s m e begins runs.1) runs.2 below upto) [
        | inl there ↦ inl (inr there)
        | inr was ↦ elim (undecided_from s.stand m.stand e i steps was.0 was.1) [ inl here ↦ inl (inl here) | inr before ↦ inr before ]
      ]
      | inr reached ↦ elim (raised_by s.stand m.stand e i begins.behind steps above reached) [ inl here ↦ inl (inl here) | inr before ↦ inr before ]
    ]
