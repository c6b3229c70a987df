-- Entries that keep, drop and list nothing: those of an ask, a force, an end of a render and a number that is missed.
use Rattle.std.proofs.Common.{ℕ, ◌≡◌, ◌+◌, ◌≤◌, Bool, not, [], ◌∷◌, ◌++◌, length, refl, sym, ap, subst, ◌∙◌, arith, inl, inr, length-append}
use Rattle.std.proofs.lemmas.Grind.{fold-append}
use Rattle.disk_model.specs.Content.{Content}
use Rattle.disk_model.specs.Images.{DiskState}
use Rattle.base.specs.Readings.{read}
use Rattle.gate_journal.specs.declared.journal.Journal.{Journal}
use Rattle.metatile_locks.specs.declared.render.Render.{Render}
use Rattle.metatile_locks.specs.Running.{has_number, unmarked}
use Rattle.metatile_locks.specs.Tickets.{Ticketed}
use Rattle.metatile_locks.proofs.Lists.{few}
use Rattle.metatile_plan.specs.declared.metatile.MetaKey.{MetaKey}
use Rattle.cabinet.specs.declared.entry.HistoryEntry.{HistoryEntry}
use Rattle.cabinet.specs.declared.entry.HistoryEntry.TheVariants as entry
use Rattle.cabinet.specs.declared.replies.Forced.{Forced}
use Rattle.cabinet.specs.declared.replies.Forced.TheVariants as forced
use Rattle.cabinet.specs.Commands.{Abandons, Forces, IsForcedOf}
use Rattle.cabinet.specs.Fresh.{cuts_after, cuts_of}
use Rattle.cabinet.specs.History.{CabinetStanding, after}
use Rattle.cabinet.specs.State.{State, asked_at, now, with_entry}
use Rattle.cabinet.proofs.Rows.{now_asked, now_more}
use Rattle.durable_cabinet.specs.Drafts.{needed}
use Rattle.durable_cabinet.specs.Filed.{IsFiled, blobs_on, on_disk}
use Rattle.durable_cabinet.specs.Images.{blobs_start, slots_for}
use Rattle.durable_cabinet.specs.Alike.{IsAlikeTo}
use Rattle.durable_cabinet.proofs.Calling.{kept_alike}
use Rattle.durable_cabinet.proofs.Missing.{alike_further, alike_itself}
use Rattle.durable_cabinet.proofs.Moving.{entered_on}

pub filed_alike : (told : Bool) (s t : State) (start : ℕ) (j : Journal) (disk : DiskState) → IsAlikeTo s t → IsFiled s told start j disk → IsFiled t told start j disk
filed_alike told s t start j disk alike f = record {
  digest = f.digest ∙ ap (λ c. c.digest) (sym alike.catalogue);
  slots = f.slots ∙ ap slots_for (sym alike.catalogue);
  version = f.version;
  start_is = f.start_is ∙ ap blobs_start (sym alike.catalogue);
  on = λ is. kept_alike s t alike j disk (f.on is);
}

-- AN ENTRY

pub record IsQuiet (s : State) (e : HistoryEntry) : Type 0 where
  pub kept : (after s.catalogue (now s) e).kept ≡ (now s).kept
  pub book : (after s.catalogue (now s) e).book ≡ (now s).book
  pub cuts : cuts_after (cuts_of s.history) e ≡ cuts_of s.history

pub entry_alike : (s : State) (e : HistoryEntry) → IsQuiet s e → IsAlikeTo s (with_entry s e)
entry_alike s e q = record {
  catalogue = refl;
  opening = refl;
  kept = ap (λ (n : CabinetStanding). n.kept) (now_more s e s.blobs) ∙ q.kept;
  book = ap (λ (n : CabinetStanding). n.book) (now_more s e s.blobs) ∙ q.book;
  cuts = past;
  later = (e ∷ [], refl);
}
  where
    past : cuts_of (s.history ++ e ∷ []) ≡ cuts_of s.history
    past = rw fold-append q.cuts

pub ask_alike : (s : State) (n : ℕ) → IsAlikeTo s (asked_at n s)
ask_alike s n = record {
  catalogue = refl;
  opening = refl;
  kept = ap (λ (x : CabinetStanding). x.kept) (now_asked s n);
  book = ap (λ (x : CabinetStanding). x.book) (now_asked s n);
  cuts = past;
  later = (entry.At n ∷ [], refl);
}
  where
    past : cuts_of (s.history ++ entry.At n ∷ []) ≡ cuts_of s.history
    past = rw fold-append refl

pub alike_then : (s t u : State) → IsAlikeTo s t → IsAlikeTo t u → IsAlikeTo s u
alike_then s t u a b = alike_further s t u a b

-- A FORCE

pub asked_on : (told : Bool) (seen : Content) (s : State) (n : ℕ) → on_disk told seen (asked_at n s) ≡ asked_at n (on_disk told seen s)
asked_on told seen s n =
    ap (λ x. record { catalogue = s.catalogue; opening = s.opening; history = s.history ++ entry.At n ∷ []; since = s.since ++ entry.At n ∷ []; blobs = x; clock = read n s.clock })
    (ap (blobs_on told s.catalogue seen) (ap (λ (x : CabinetStanding). x.kept) (now_asked s n)))

pub asked_entered : (told : Bool) (seen : Content) (s : State) (n : ℕ) (e : HistoryEntry) → (after s.catalogue (now (asked_at n s)) e).kept ≡ (now (asked_at n s)).kept → on_disk told seen (with_entry (asked_at n s) e) ≡ with_entry (asked_at n (on_disk told seen s)) e
asked_entered told seen s n e same = entered_on told seen (asked_at n s) e same ∙ ap (λ x. with_entry x e) (asked_on told seen s n)

pub forced_of_on : (told : Bool) (seen : Content) (s u : State) (n : ℕ) (m : MetaKey) (r : Forced) → IsForcedOf (asked_at n s) m r u → IsForcedOf (asked_at n (on_disk told seen s)) m r (on_disk told seen u)
forced_of_on told seen s u n m (forced.Busy k) f = (f.0, ap (on_disk told seen) f.1 ∙ asked_on told seen s n)
forced_of_on told seen s u n m forced.Spent f = (f.0, f.1, ap (on_disk told seen) f.2 ∙ asked_on told seen s n)
forced_of_on told seen s u n m (forced.Ticket t) f = record { none_runs = f.none_runs; number = f.number; meta = f.meta; state = ap (on_disk told seen) f.state ∙ asked_entered told seen s n (entry.Started t.number m) refl }

pub forces_on : (told : Bool) (seen : Content) (s u : State) (m : MetaKey) (r : Forced) → Forces s m r u → Forces (on_disk told seen s) m r (on_disk told seen u)
forces_on told seen s u m r f = forced_of_on told seen s u u.clock.moment m r f

pub as_alike : (s t u : State) → u ≡ t → IsAlikeTo s t → IsAlikeTo s u
as_alike s t u is a = subst (IsAlikeTo s) (sym is) a

pub forced_alike : (s u : State) (n : ℕ) (m : MetaKey) (r : Forced) → IsForcedOf (asked_at n s) m r u → IsAlikeTo s u
forced_alike s u n m (forced.Busy k) f = as_alike s (asked_at n s) u f.1 (ask_alike s n)
forced_alike s u n m forced.Spent f = as_alike s (asked_at n s) u f.2 (ask_alike s n)
forced_alike s u n m (forced.Ticket t) f =
    let a = asked_at n s in
    as_alike s (with_entry a (entry.Started t.number m)) u f.state (alike_then s a (with_entry a (entry.Started t.number m)) (ask_alike s n) (entry_alike a (entry.Started t.number m) (record { kept = refl; book = refl; cuts = refl })))

abbrev room_of_standing : CabinetStanding → ℕ
room_of_standing n = 1 + length n.book.cuts + length n.kept + length n.out

pub needed_as : (s u : State) (n : CabinetStanding) (most : ℕ) → now u ≡ n → room_of_standing n ≤ most → needed u ≤ most
needed_as s u n most is le = subst (λ (x : CabinetStanding). room_of_standing x ≤ most) (sym is) le

pub forced_needed : (s u : State) (n : ℕ) (m : MetaKey) (r : Forced) → IsForcedOf (asked_at n s) m r u → needed u ≤ needed s + 1
forced_needed s u n m (forced.Busy k) f = needed_as s u (after s.catalogue (now s) (entry.At n)) (needed s + 1) (ap now f.1 ∙ now_asked s n) (omega arith)
forced_needed s u n m forced.Spent f = needed_as s u (after s.catalogue (now s) (entry.At n)) (needed s + 1) (ap now f.2 ∙ now_asked s n) (omega arith)
forced_needed s u n m (forced.Ticket t) f =
    let a = asked_at n s in
    let e = entry.Started t.number m in
    needed_as s u (after s.catalogue (after s.catalogue (now s) (entry.At n)) e) (needed s + 1) (ap now f.state ∙ now_more a e a.blobs ∙ ap (λ x. after s.catalogue x e) (now_asked s n))
    (omega (arith, length-append (now s).out (unmarked t.number m n ∷ [])))

-- AN END OF A RENDER

pub abandons_on : (told : Bool) (seen : Content) (s u : State) (t : Ticketed) → Abandons s t u → Abandons (on_disk told seen s) t (on_disk told seen u)
abandons_on told seen s u t (inl a) = inl (a.0, ap (on_disk told seen) a.1)
abandons_on told seen s u t (inr a) = inr (a.0, ap (on_disk told seen) a.1 ∙ entered_on told seen s (entry.Ended t.number) refl)

pub ended_alike : (s : State) (k : ℕ) → IsAlikeTo s (with_entry s (entry.Ended k))
ended_alike s k = entry_alike s (entry.Ended k) (record { kept = refl; book = refl; cuts = refl })

pub abandons_alike : (s u : State) (t : Ticketed) → Abandons s t u → IsAlikeTo s u
abandons_alike s u t (inl a) = as_alike s s u a.1 (alike_itself s)
abandons_alike s u t (inr a) = as_alike s (with_entry s (entry.Ended t.number)) u a.1 (ended_alike s t.number)

pub abandons_needed : (s u : State) (t : Ticketed) → Abandons s t u → needed u ≤ needed s
abandons_needed s u t (inl a) = needed_as s u (now s) (needed s) (ap now a.1) (omega arith)
abandons_needed s u t (inr a) = needed_as s u (after s.catalogue (now s) (entry.Ended t.number)) (needed s) (ap now a.1 ∙ now_more s (entry.Ended t.number) s.blobs) (omega (arith, few (λ (r : Render). not (has_number t.number r)) (now s).out))
