-- From what the calls of a disk say to what a call of the journal says.
use Rattle.std.proofs.Common.{◌≡◌, ℕ, ◌+◌, ◌≤◌, length, Result, Ok, Err, OnOk, OnErr, refl, sym, ◌∙◌, subst, arith}
use Rattle.disk_model.specs.Content.{Content, TornWrite, Same}
use Rattle.disk_model.specs.Images.{DiskState, Every, Only, After, Steps, ChangesBy}
use Rattle.disk_model.specs.Moments.{leaves_none, leaves_as, changes_at, changes_then}
use Rattle.gate_journal.specs.Layout.{Layout, journal_length}
use Rattle.gate_journal.specs.Sound.{IsLaidOut, SameBefore, SameFrom, Stands}
use Rattle.gate_journal.proofs.Places.{torn_same, same_from, from_here, from_then}

-- a fact for a result that is known
pub err_only : {T E : Type 0} (A : Type 0) (result : Result T E) (fault : E) → result ≡ Err fault → OnOk result A
err_only A (Ok value) fault is = absurd (cc)
err_only A (Err e) fault is = tt

pub on_err : {T E A : Type 0} (result : Result T E) → A → OnErr result A
on_err (Ok value) a = tt
on_err (Err e) a = a

pub on_ok : {T E A : Type 0} (result : Result T E) → A → OnOk result A
on_ok (Ok value) a = a
on_ok (Err e) a = tt

-- a step that on each image is one of another kind
pub changes_as : (step wider : Content → Content → Type 0) (old new : DiskState) → old.may_leave old.seen → ((d c : Content) → old.may_leave d → step d c → wider d c) → ChangesBy step old new → ChangesBy wider old new
changes_as step wider old new reads widens change = record {
  reads = widens old.seen new.seen reads change.reads;
  crash = λ c now. weaker c (change.crash c now);
  any_moment = leaves_as old new (After step old.may_leave) (After wider old.may_leave) change.any_moment weaker;
}
  where
    weaker : (c : Content) → After step old.may_leave c → After wider old.may_leave c
    weaker c (d, was, step) = (d, was, widens d c was step)

-- a step from an image that is the only one
pub from_only : (step : Content → Content → Type 0) (disk : DiskState) (c : Content) → Only disk.seen disk.may_leave → After step disk.may_leave c → step disk.seen c
from_only step disk c only (d, was, steps) = subst (λ (e : Content). step e c) (only d was) steps

-- a write within the journal, of a disk whose images hold it whole
pub past_write : (at n end : ℕ) (old new : DiskState) → at + n ≤ end → old.may_leave old.seen → Every old.may_leave (λ d. end ≤ length d) → ChangesBy (TornWrite at n) old new → ChangesBy (SameFrom end) old new
past_write at n end old new fits reads whole change =
    changes_as (TornWrite at n) (SameFrom end) old new reads (λ d c was torn. same_from at n end d c fits (torn_same at n d c (let long = whole d was in omega arith) torn)) change

-- nothing changed
pub past_same : (end : ℕ) (old new : DiskState) → old.may_leave old.seen → ChangesBy Same old new → ChangesBy (SameFrom end) old new
past_same end old new reads change = changes_as Same (SameFrom end) old new reads (λ d c was is. subst (SameFrom end d) (sym is) (from_here end d)) change

pub past_then : (end : ℕ) (old mid new : DiskState) → ChangesBy (SameFrom end) old mid → ChangesBy (SameFrom end) mid new → ChangesBy (SameFrom end) old new
past_then end old mid new one two = changes_then (SameFrom end) (SameFrom end) (SameFrom end) old mid new (λ c d same. same) (from_then end) one two

-- calls that only read
pub quiet_at : (old new : DiskState) → Steps Same old new → ChangesBy Same old new
quiet_at old new steps = changes_at Same old new steps

pub quiet_none : (disk : DiskState) → ChangesBy Same disk disk
quiet_none disk = record { reads = refl; crash = λ c now. (c, now, refl); any_moment = leaves_none disk (After Same disk.may_leave) }

pub quiet_then : (old mid new : DiskState) → ChangesBy Same old mid → ChangesBy Same mid new → ChangesBy Same old new
quiet_then old mid new one two = changes_then Same Same Same old mid new (λ c d same. same) (λ c d e first next. next ∙ first) one two

-- a disk on which nothing is pending, once it was only read
pub quiet_only : (old new : DiskState) → Only old.seen old.may_leave → ChangesBy Same old new → Only new.seen new.may_leave
quiet_only old new only quiet c now = let from = quiet.crash c now in from.2 ∙ only from.0 from.1 ∙ sym quiet.reads

-- a journal that was read from a disk on which nothing is pending
pub sound_as_read : (l : Layout) (old new : DiskState) → Only old.seen old.may_leave → ChangesBy Same old new → journal_length l.slots ≤ length old.seen → IsLaidOut l old.seen
    → Every new.may_leave (λ c. Stands l new.seen c × SameBefore (journal_length l.slots) new.seen c)
sound_as_read l old new only quiet whole out c now =
    subst (λ (e : Content). Stands l new.seen e × SameBefore (journal_length l.slots) new.seen e) (sym (quiet_only old new only quiet c now)) (
      record {
        whole = subst (λ (e : Content). journal_length l.slots ≤ length e) (sym quiet.reads) whole;
        laid_out = subst (λ (e : Content). IsLaidOut l e) (sym quiet.reads) out;
        same_records = refl;
      },
      λ place lt. refl,
    )
