-- Which renders run after a command, of a thread that has a cabinet for itself.
use Rattle.std.proofs.Common.{ℕ, ◌≡◌, List, [], ◌∷◌, ◌++◌, length, Option, Some, None, Ok, inl, inr, refl, sym, ap, subst, ◌∙◌}
use Rattle.std.specs.Prelude.{⊤}
use Rattle.std.proofs.lemmas.Bool.{eq-eqb}
use Rattle.cabinet.specs.Commands.{Abandons, Asks, Cuts, Expires, Finishes, Forces, IsBusy, IsTicketGiven, Saves, kept_at}
use Rattle.cabinet.specs.Counted.{uses}
use Rattle.cabinet.specs.declared.entry.HistoryEntry.{HistoryEntry}
use Rattle.cabinet.specs.declared.entry.HistoryEntry.TheVariants as entry
use Rattle.cabinet.specs.declared.kept.KeptBlob.{KeptBlob}
use Rattle.cabinet.specs.declared.replies.Asked.{Asked}
use Rattle.cabinet.specs.declared.replies.Asked.TheVariants as asked
use Rattle.cabinet.specs.declared.replies.CutReply.{CutReply}
use Rattle.cabinet.specs.declared.replies.CutReply.TheVariants as cut
use Rattle.cabinet.specs.declared.replies.Expired.{Expired}
use Rattle.cabinet.specs.declared.replies.Expired.TheVariants as expired
use Rattle.cabinet.specs.declared.replies.Finished.{Finished}
use Rattle.cabinet.specs.declared.replies.Finished.TheVariants as finished
use Rattle.cabinet.specs.declared.replies.Forced.{Forced}
use Rattle.cabinet.specs.declared.replies.Forced.TheVariants as forced
use Rattle.cabinet.specs.declared.replies.Saved.{Saved}
use Rattle.cabinet.specs.declared.replies.Saved.TheVariants as saved
use Rattle.cabinet.specs.Hits.{hits_of}
use Rattle.cabinet.specs.History.{after, stored_entry}
use Rattle.cabinet.specs.State.{State, asked_at, grown, now, with_blob, with_counted, with_cut, with_dropped, with_entry}
use Rattle.cabinet.proofs.Rows.{now_more}
use Rattle.matrix_geometry.specs.declared.address.Address.{Address}
use Rattle.metatile_locks.specs.Running.{overtaken, render_of, running_for, unmarked, without}
use Rattle.metatile_locks.specs.Tickets.{Ticketed}
use Rattle.metatile_plan.specs.declared.metatile.MetaKey.{MetaKey}
use Rattle.metatile_plan.proofs.Same.{same_meta_self}
use Rattle.raster_field.specs.Blocks.{block_of}
use Rattle.truncation_list.specs.declared.cover.Cover.{Cover}
use Rattle.cache_access.specs.Alone.{IsAtRest, IsOnlyRender}
use Rattle.cache_access.specs.Turned.{RunsAfterAsk, RunsAfterForce}
use Rattle.cache_access.specs.Waits.{IsForceSettled, IsSettled}

-- ENTRIES

-- the renders that run after one entry more
pub runs_after : (s : State) (e : HistoryEntry) (blobs : Option (List KeptBlob)) → (now (grown s e blobs)).out ≡ (after s.catalogue (now s) e).out
runs_after s e blobs = ap (λ x. x.out) (now_more s e blobs)

pub asked_rests : (s : State) (n : ℕ) → IsAtRest s → IsAtRest (asked_at n s)
asked_rests s n rest = runs_after s (entry.At n) None ∙ rest

entry_rests : (s t : State) (e : HistoryEntry) → (after s.catalogue (now s) e).out ≡ (now s).out → t ≡ with_entry s e → IsAtRest s → IsAtRest t
entry_rests s t e same is rest = subst IsAtRest (sym is) (runs_after s e s.blobs ∙ same ∙ rest)

-- AN ASK AND A FORCE

module _ (s t : State) (n : ℕ) (m : MetaKey) (rest : IsAtRest s) where
  never_busy : (k : ℕ) → IsBusy (asked_at n s) m k t → ⊥
  never_busy k busy = let e : None ≡ Some k = sym (ap (running_for m) (asked_rests s n rest)) ∙ busy.0 in cc

  given_runs : (k : Ticketed) → IsTicketGiven (asked_at n s) m k t → IsOnlyRender t k
  given_runs k given =
      let u = asked_at n s in
      let started : (now (with_entry u (entry.Started k.number m))).out ≡ unmarked k.number m (now u).moment ∷ [] = runs_after u (entry.Started k.number m) u.blobs ∙ ap (λ rs. rs ++ unmarked k.number m (now u).moment ∷ []) (asked_rests s n rest) in
      let P : State → Type 0 = λ x. (now x).out ≡ unmarked k.number m (now u).moment ∷ [] in
      let Q : MetaKey → Type 0 = λ x. (now t).out ≡ unmarked k.number x (now u).moment ∷ [] in
      ((now u).moment, subst Q (sym given.meta) (subst P (sym given.state) started))

module _ (s t : State) (rest : IsAtRest s) where
  pub ask_settles : (before after : ℕ) (a : Address) (r : Asked) → Asks before after s a r t → IsSettled r
  ask_settles before after a (asked.Hit k bytes) row = tt
  ask_settles before after a (asked.Ticket k) row = tt
  ask_settles before after a (asked.Busy k) row = never_busy s t t.clock.moment (block_of s.catalogue a) rest k row.1
  ask_settles before after a asked.Spent row = tt

  pub ask_runs : (before after : ℕ) (a : Address) (r : Asked) → Asks before after s a r t → RunsAfterAsk {E = ⊤} (IsAtRest t) (IsOnlyRender t) (Ok r)
  ask_runs before after a (asked.Hit k bytes) row = let u = asked_at t.clock.moment s in entry_rests u t (entry.Used (block_of s.catalogue a)) refl row.state (asked_rests s t.clock.moment rest)
  ask_runs before after a (asked.Ticket k) row = given_runs s t t.clock.moment (block_of s.catalogue a) rest k row.1
  ask_runs before after a (asked.Busy k) row = tt
  ask_runs before after a asked.Spent row = subst IsAtRest (sym row.1.2) (asked_rests s t.clock.moment rest)

  pub force_settles : (m : MetaKey) (r : Forced) → Forces s m r t → IsForceSettled r
  force_settles m (forced.Ticket k) row = tt
  force_settles m (forced.Busy k) row = never_busy s t t.clock.moment m rest k row
  force_settles m forced.Spent row = tt

  pub force_runs : (m : MetaKey) (r : Forced) → Forces s m r t → RunsAfterForce {E = ⊤} (IsAtRest t) (IsOnlyRender t) (Ok r)
  force_runs m (forced.Ticket k) row = given_runs s t t.clock.moment m rest k row
  force_runs m (forced.Busy k) row = tt
  force_runs m forced.Spent row = subst IsAtRest (sym row.2) (asked_rests s t.clock.moment rest)

-- THE END OF THE ONE RENDER

module _ (s t : State) (k : Ticketed) (one : IsOnlyRender s k) where
  it_runs : render_of k (now s).out ≡ Some (unmarked k.number k.meta one.0)
  it_runs = ap (render_of k) one.1 ∙ rw (eq-eqb k.number k.number refl, same_meta_self k.meta) refl

  no_stranger : render_of k (now s).out ≡ None → ⊥
  no_stranger none = let e : None ≡ Some (unmarked k.number k.meta one.0) = sym none ∙ it_runs in cc

  none_left : without k.number (now s).out ≡ []
  none_left = ap (without k.number) one.1 ∙ rw (eq-eqb k.number k.number refl) refl

  ended_rests : t ≡ with_entry s (entry.Ended k.number) → IsAtRest t
  ended_rests is = subst IsAtRest (sym is) (runs_after s (entry.Ended k.number) s.blobs ∙ none_left)

  pub finish_rests : (blob : List ℕ) (r : Finished) → Finishes s k blob r t → IsAtRest t
  finish_rests blob finished.Stranger row = absurd (no_stranger row.0)
  finish_rests blob (finished.Overtaken cut) row = ended_rests row.2
  finish_rests blob finished.Full row = ended_rests row.3
  finish_rests blob finished.NoRoom row = ended_rests row.4
  finish_rests blob (finished.DiskFault b a) row = ended_rests row.5
  finish_rests blob finished.Kept row =
      let x = kept_at k row.0 row.3.0 (length blob) in
      subst IsAtRest (sym row.3.2) (runs_after s (stored_entry x) (with_blob s x blob).blobs ∙ none_left)

  pub abandon_rests : Abandons s k t → IsAtRest t
  abandon_rests (inl row) = absurd (no_stranger row.0)
  abandon_rests (inr row) = ended_rests row.1

-- OTHER COMMANDS

module _ (s t : State) (rest : IsAtRest s) where
  pub cut_rests : (cover : Cover) (r : CutReply) → Cuts s cover r t → IsAtRest t
  cut_rests cover (cut.Done k) row = subst IsAtRest (sym row.2) (runs_after s (entry.Cut k cover) (with_cut s k cover).blobs ∙ ap (overtaken (hits_of s.catalogue cover) k) rest)
  cut_rests cover (cut.DiskFault b a) row = entry_rests s t (entry.Missed row.0) refl row.4 rest
  cut_rests cover cut.Full row = subst IsAtRest (sym row.2) rest
  cut_rests cover cut.Spent row = subst IsAtRest (sym row.1) rest

  pub expire_rests : (r : Expired) → Expires s r t → IsAtRest t
  expire_rests (expired.Dropped m) row = subst IsAtRest (sym row.3) (runs_after s (entry.Dropped m) (with_dropped s m).blobs ∙ rest)
  expire_rests (expired.DiskFault b a) row = subst IsAtRest (sym row.2) rest
  expire_rests expired.Within row = subst IsAtRest (sym row.1) rest

  pub save_rests : (r : Saved) → Saves s r t → IsAtRest t
  save_rests (saved.Done m) row = subst IsAtRest (sym row.1) (runs_after s (entry.Counted m (uses s.history m)) (with_counted s m (uses s.history m)).blobs ∙ rest)
  save_rests (saved.DiskFault b a) row = subst IsAtRest (sym row.2) rest
  save_rests saved.Within row = subst IsAtRest (sym row.1) rest
