-- What holds of each run.
use Rattle.std.proofs.Common.{◌≡◌, ◌⊎◌, ℕ, ◌+◌, ◌<◌, ◌≤◌, List, [], ◌∷◌, ◌++◌, Option, Some, None, IsSome, refl, sym, subst, ap, arith, inl, inr}
use Rattle.std.proofs.lemmas.Bool.{false≢true}
use Rattle.cabinet.specs.State.{now}
use Rattle.truncation_list.specs.Books.{AnswersFor}
use Rattle.truncation_list.proofs.Answering.{answers_for_cut}
use Rattle.change_feed.specs.declared.applied.Applied.{Applied}
use Rattle.change_feed.specs.declared.applied.Applied.TheVariants as applied
use Rattle.change_feed.specs.declared.change.Change.{Change}
use Rattle.change_feed.specs.declared.mark.Mark.{Mark}
use Rattle.change_feed.specs.Applies.{marked_cut}
use Rattle.change_feed.specs.Files.{Stand}
use Rattle.change_feed.specs.Marks.{last_of}
use Rattle.change_feed.specs.Runs.{FeedAndCabinet, FeedEvent, IsCalled, IsCutIn, IsEither, MayBegin, Runs, called}
use Rattle.change_feed.proofs.Running.{begins_next, called_answers, either_grows, next_number, runs_answer, runs_begin, runs_grow, runs_rise, runs_split}

-- a run in which a change is answered as done
module _ (s t : FeedAndCabinet) (before rest : List FeedEvent) (c : Change) (k : ℕ) (begins : MayBegin s) (runs : Runs s (before ++ (called c (applied.Done k) ∷ rest)) t) where
  abbrev at : (m : FeedAndCabinet) × Runs s before m × Runs m (called c (applied.Done k) ∷ rest) t
  at = runs_split s t before (called c (applied.Done k) ∷ rest) runs

  begins_at : MayBegin at.0
  begins_at = runs_begin s at.0 before begins at.1

  begins_then : MayBegin at.2.0
  begins_then = begins_next at.0 at.2.0 (called c (applied.Done k)) begins_at at.2.1

  last_then : last_of at.2.0.stand.mark ≡ c.number
  last_then = ap (λ (x : Stand). last_of x.mark) at.2.1.row.stands

  pub kept_after : (found : Option Mark) → IsEither t.stand found → c.number ≤ last_of found
  kept_after found is = omega (arith, last_then, runs_grow at.2.0 t rest begins_then at.2.2, either_grows t.stand found (runs_begin at.2.0 t rest begins_then at.2.2).behind is)

  none_undecided : IsSome at.2.0.stand.undecided → ⊥
  none_undecided some = false≢true (subst (λ (x : Stand). IsSome x.undecided) at.2.1.row.stands some)

-- and a further one is cut for behind it
module _ (s t : FeedAndCabinet) (before between after : List FeedEvent) (c d : Change) (k : ℕ) (reply : Applied) (begins : MayBegin s)
    (runs : Runs s (before ++ (called c (applied.Done k) ∷ (between ++ (called d reply ∷ after)))) t) (cuts : IsSome (marked_cut reply)) where
  abbrev rest : List FeedEvent
  rest = between ++ (called d reply ∷ after)

  abbrev first : FeedAndCabinet
  first = (at s t before rest c k begins runs).2.0

  first_begins : MayBegin first
  first_begins = begins_then s t before rest c k begins runs

  first_last : last_of first.stand.mark ≡ c.number
  first_last = last_then s t before rest c k begins runs

  abbrev second : (m : FeedAndCabinet) × Runs first between m × Runs m (called d reply ∷ after) t
  second = runs_split first t between (called d reply ∷ after) (at s t before rest c k begins runs).2.2

  next : d.number ≡ last_of second.0.stand.mark + 1
  next = next_number second.0 second.2.0 d reply cuts second.2.1

  pub cut_above : c.number < d.number
  cut_above = omega (arith, first_last, next, runs_grow first second.0 between first_begins second.1)

  pub cut_between : (i : ℕ) → c.number < i → i < d.number → IsCutIn i between
  cut_between i above below = elim (runs_rise first second.0 between i first_begins second.1 (omega (arith, first_last, above)) (omega (arith, next, below))) [
    | inl there ↦ there
    | inr was ↦ absurd (none_undecided s t before rest c k begins runs was.0)
  ]

-- what was cut for is answered for
pub cut_stands : (s t : FeedAndCabinet) (before after : List FeedEvent) (c : Change) (k : ℕ) (reply : Applied) → MayBegin s → Runs s (before ++ (called c reply ∷ after)) t → marked_cut reply ≡ Some k
    → AnswersFor (now t.cabinet).book (record { number = k; cover = c.cover })
cut_stands s t before after c k reply begins runs cuts =
    let at = runs_split s t before (called c reply ∷ after) runs in
    let m = at.2.0 in
    let begun = begins_next at.0 m (called c reply) (runs_begin s at.0 before begins at.1) at.2.1 in
    answers_for_cut (now t.cabinet).book (now m.cabinet).book (record { number = k; cover = c.cover }) (runs_answer m t after begun at.2.2) (called_answers at.0 m c reply k cuts at.2.1)

-- where two are cut for of one number, the first call told a fault of the marks
pub cut_again : (s t : FeedAndCabinet) (before between after : List FeedEvent) (c d : Change) (first reply : Applied) → MayBegin s → Runs s (before ++ (called c first ∷ (between ++ (called d reply ∷ after)))) t → IsSome (marked_cut first) → IsSome (marked_cut reply) → d.number ≤ c.number
    → (k : ℕ) × (first ≡ applied.FeedFault (Some k))
cut_again s t before between after c d applied.Repeated reply begins runs cuts again same = absurd (false≢true cuts)
cut_again s t before between after c d (applied.Gap n) reply begins runs cuts again same = absurd (false≢true cuts)
cut_again s t before between after c d (applied.FeedFault None) reply begins runs cuts again same = absurd (false≢true cuts)
cut_again s t before between after c d (applied.FeedFault (Some k)) reply begins runs cuts again same = (k, refl)
cut_again s t before between after c d applied.Spent reply begins runs cuts again same = absurd (false≢true cuts)
cut_again s t before between after c d applied.Full reply begins runs cuts again same = absurd (false≢true cuts)
cut_again s t before between after c d (applied.DiskFault b a) reply begins runs cuts again same = absurd (false≢true cuts)
cut_again s t before between after c d (applied.Done k) reply begins runs cuts again same = absurd (omega (arith, same, cut_above s t before between after c d k reply begins runs again))
