-- No render runs behind a call of a twin, where none ran before it.
use Rattle.std.proofs.Common.{◌≡◌, ℕ, List, [], ◌∷◌, ◌++◌, length, Some, None, refl, sym, ap, ◌∙◌, subst, inl, inr}
use Rattle.std.proofs.lemmas.Bool.{eq-eqb}
use Rattle.cabinet.specs.Commands.{Abandons, Asks, Cuts, Finishes, kept_at}
use Rattle.cabinet.specs.declared.entry.HistoryEntry.{HistoryEntry}
use Rattle.cabinet.specs.declared.entry.HistoryEntry.TheVariants as entry
use Rattle.cabinet.specs.declared.replies.Asked.TheVariants as asked
use Rattle.cabinet.specs.declared.replies.CutReply.{CutReply}
use Rattle.cabinet.specs.declared.replies.CutReply.TheVariants as cut
use Rattle.cabinet.specs.declared.replies.Finished.{Finished}
use Rattle.cabinet.specs.declared.replies.Finished.TheVariants as finished
use Rattle.cabinet.specs.Hits.{hits_of}
use Rattle.cabinet.specs.History.{after, stored_entry}
use Rattle.cabinet.specs.State.{State, asked_at, grown, now, with_entry}
use Rattle.cabinet.proofs.Rows.{now_more}
use Rattle.change_feed.specs.declared.applied.Applied.{Applied}
use Rattle.change_feed.specs.declared.applied.Applied.TheVariants as applied
use Rattle.change_feed.specs.declared.change.Change.{Change}
use Rattle.change_feed.specs.Applies.{Applies, Pair}
use Rattle.matrix_geometry.specs.declared.address.Address.{Address}
use Rattle.metatile_locks.specs.Running.{overtaken, render_of, running_for, unmarked, without}
use Rattle.metatile_locks.specs.Tickets.{Ticketed}
use Rattle.metatile_plan.specs.declared.metatile.MetaKey.{MetaKey}
use Rattle.metatile_plan.proofs.Same.{same_meta_self}
use Rattle.raster_field.specs.Blocks.{block_of}
use Rattle.tile_service.specs.Session.{IsAtRest}
use Rattle.truncation_list.specs.declared.cover.Cover.{Cover}

-- the renders that run after one entry more
runs_after : (s : State) (e : HistoryEntry) → (now (grown s e None)).out ≡ (after s.catalogue (now s) e).out
runs_after s e = ap (λ x. x.out) (now_more s e None)

same_rests : (s t : State) → t ≡ s → IsAtRest s → IsAtRest t
same_rests s t is rest = subst IsAtRest (sym is) rest

-- A CHANGE

cuts_rest : (s t : State) (cover : Cover) (reply : CutReply) → Cuts s cover reply t → IsAtRest s → IsAtRest t
cuts_rest s t cover (cut.Done n) row rest = subst IsAtRest (sym row.2) (runs_after s (entry.Cut n cover) ∙ ap (overtaken (hits_of s.catalogue cover) n) rest)
cuts_rest s t cover (cut.DiskFault b a) row rest = subst IsAtRest (sym row.4) (runs_after s (entry.Missed row.0) ∙ rest)
cuts_rest s t cover cut.Full row rest = same_rests s t row.2 rest
cuts_rest s t cover cut.Spent row rest = same_rests s t row.1 rest

pub applied_rests : (s t : Pair) (change : Change) (reply : Applied) → Applies s change reply t → IsAtRest s.cabinet → IsAtRest t.cabinet
applied_rests s t change applied.Repeated row rest = same_rests s.cabinet t.cabinet (ap (λ (x : Pair). x.cabinet) row.1) rest
applied_rests s t change (applied.Gap k) row rest = same_rests s.cabinet t.cabinet (ap (λ (x : Pair). x.cabinet) row.2) rest
applied_rests s t change (applied.FeedFault None) row rest = same_rests s.cabinet t.cabinet row.3 rest
applied_rests s t change (applied.FeedFault (Some k)) row rest = cuts_rest s.cabinet t.cabinet change.cover (cut.Done k) row.0.cuts rest
applied_rests s t change applied.Spent row rest = cuts_rest s.cabinet t.cabinet change.cover cut.Spent row.cuts rest
applied_rests s t change applied.Full row rest = cuts_rest s.cabinet t.cabinet change.cover cut.Full row.cuts rest
applied_rests s t change (applied.DiskFault b a) row rest = cuts_rest s.cabinet t.cabinet change.cover (cut.DiskFault b a) row.cuts rest
applied_rests s t change (applied.Done k) row rest = cuts_rest s.cabinet t.cabinet change.cover (cut.Done k) row.cuts rest

-- AN ASK

asked_rests : (s : State) (n : ℕ) → IsAtRest s → IsAtRest (asked_at n s)
asked_rests s n rest = runs_after s (entry.At n) ∙ rest

-- the ticket's render is the only one that runs
pub record RunsAlone (s : State) (t : Ticketed) : Type 0 where
  pub moment : ℕ
  pub alone : (now s).out ≡ unmarked t.number t.meta moment ∷ []

started_runs : (s : State) (k : ℕ) (m : MetaKey) → IsAtRest s → (now (with_entry s (entry.Started k m))).out ≡ unmarked k m (now s).moment ∷ []
started_runs s k m rest = runs_after s (entry.Started k m) ∙ ap (λ rs. rs ++ unmarked k m (now s).moment ∷ []) rest

-- none runs of which another could be asked to wait
pub not_busy : (before between : ℕ) (s mid : State) (a : Address) (k : ℕ) → IsAtRest s → Asks before between s a (asked.Busy k) mid → ⊥
not_busy before between s mid a k rest row =
    let none = ap (running_for (block_of s.catalogue a)) (asked_rests s mid.clock.moment rest) in
    let runs = row.1.0 in
    absurd (cc)

pub hit_rests : (before between : ℕ) (s mid : State) (a : Address) (k : ℕ) (bytes : List ℕ) → IsAtRest s → Asks before between s a (asked.Hit k bytes) mid → IsAtRest mid
hit_rests before between s mid a k bytes rest row =
    let x = asked_at mid.clock.moment s in
    subst IsAtRest (sym row.state) (runs_after x (entry.Used (block_of s.catalogue a)) ∙ asked_rests s mid.clock.moment rest)

pub spent_rests : (before between : ℕ) (s mid : State) (a : Address) → IsAtRest s → Asks before between s a asked.Spent mid → IsAtRest mid
spent_rests before between s mid a rest row = subst IsAtRest (sym row.1.2) (asked_rests s mid.clock.moment rest)

pub given_alone : (before between : ℕ) (s mid : State) (a : Address) (t : Ticketed) → IsAtRest s → Asks before between s a (asked.Ticket t) mid → RunsAlone mid t
given_alone before between s mid a t rest row =
    let x = asked_at mid.clock.moment s in
    let m = block_of s.catalogue a in
    record {
      moment = (now x).moment;
      alone = ap (λ (y : State). (now y).out) row.1.state ∙ started_runs x t.number m (asked_rests s mid.clock.moment rest) ∙ ap (λ (y : MetaKey). unmarked t.number y (now x).moment ∷ []) (sym row.1.meta);
    }

-- THE END OF A RENDER

taken_off : (k : ℕ) (m : MetaKey) (n : ℕ) → without k (unmarked k m n ∷ []) ≡ []
taken_off k m n = rw (eq-eqb k k refl) refl

found : (t : Ticketed) (n : ℕ) → render_of t (unmarked t.number t.meta n ∷ []) ≡ Some (unmarked t.number t.meta n)
found t n = rw (eq-eqb t.number t.number refl, same_meta_self t.meta) refl

module _ (s : State) (t : Ticketed) (runs : RunsAlone s t) where
  none_left : without t.number (now s).out ≡ []
  none_left = ap (without t.number) runs.alone ∙ taken_off t.number t.meta runs.moment

  it_runs : render_of t (now s).out ≡ Some (unmarked t.number t.meta runs.moment)
  it_runs = ap (render_of t) runs.alone ∙ found t runs.moment

  ended_rests : IsAtRest (with_entry s (entry.Ended t.number))
  ended_rests = runs_after s (entry.Ended t.number) ∙ none_left

  not_strange : render_of t (now s).out ≡ None → ⊥
  not_strange none = let is = it_runs in absurd (cc)

  pub abandoned_rests : (u : State) → Abandons s t u → IsAtRest u
  abandoned_rests u row = elim row [
    | inl strange ↦ absurd (not_strange strange.0)
    | inr ends ↦ subst IsAtRest (sym ends.1) ended_rests
  ]

  pub finished_rests : (blob : List ℕ) (reply : Finished) (u : State) → Finishes s t blob reply u → IsAtRest u
  finished_rests blob finished.Stranger u row = absurd (not_strange row.0)
  finished_rests blob (finished.Overtaken n) u row = subst IsAtRest (sym row.2) ended_rests
  finished_rests blob finished.Full u row = subst IsAtRest (sym row.3) ended_rests
  finished_rests blob finished.NoRoom u row = subst IsAtRest (sym row.4) ended_rests
  finished_rests blob (finished.DiskFault b a) u row = subst IsAtRest (sym row.5) ended_rests
  finished_rests blob finished.Kept u row = subst IsAtRest (sym row.3.2) (runs_after s (stored_entry (kept_at t row.0 row.3.0 (length blob))) ∙ none_left)
