-- How the rows of a change follow from those of its parts.
use Rattle.std.proofs.Common.{◌≡◌, ◌⊎◌, ℕ, ◌+◌, ◌≤◌, List, Option, Some, None, IfOk, IsSome, Result, Ok, Err, refl, sym, subst, ◌∙◌, ap, arith, inl, inr}
use Rattle.std.proofs.lemmas.Bool.{false≢true}
use Rattle.cabinet.specs.declared.replies.CutReply.{CutReply}
use Rattle.cabinet.specs.declared.replies.CutReply.TheVariants as cut
use Rattle.cabinet.specs.Commands.{Cuts, IsCountedCut}
use Rattle.cabinet.specs.State.{State}
use Rattle.disk_model.specs.Content.{Content}
use Rattle.disk_model.specs.Images.{DiskState, Leaves}
use Rattle.disk_model.specs.Moments.{leaves_as, leaves_then}
use Rattle.change_feed.specs.declared.applied.Applied.{Applied}
use Rattle.change_feed.specs.declared.applied.Applied.TheVariants as applied
use Rattle.change_feed.specs.declared.change.Change.{Change}
use Rattle.change_feed.specs.Applies.{Applies, AppliesNext, IsCutAs, IsMarkedAs, MayEndAfter, Pair, decided, mark_for}
use Rattle.change_feed.specs.Files.{EndsIn, MayEndIn, Stand}
use Rattle.change_feed.specs.Marks.{last_of}

-- a cut that was done, and then marked or not
pub marked_row : (s t : Pair) (change : Change) (k : ℕ) (reply : Applied) → change.number ≡ last_of s.stand.mark + 1 → Cuts s.cabinet change.cover (cut.Done k) t.cabinet → IsMarkedAs s.stand s.faults change k reply t.stand t.faults → AppliesNext s change reply t
marked_row s t change k applied.Repeated next cuts marked = absurd marked
marked_row s t change k (applied.Gap last_number) next cuts marked = absurd marked
marked_row s t change k (applied.FeedFault None) next cuts marked = absurd marked
marked_row s t change k (applied.FeedFault (Some n)) next cuts marked =
    subst (λ (m : ℕ). AppliesNext s change (applied.FeedFault (Some m)) t) (sym marked.0) (record { next = next; cuts = cuts; counted = tt; stands = marked.2 }, (s.faults, omega arith, marked.1))
marked_row s t change k applied.Spent next cuts marked = absurd marked
marked_row s t change k applied.Full next cuts marked = absurd marked
marked_row s t change k (applied.DiskFault b a) next cuts marked = absurd marked
marked_row s t change k (applied.Done n) next cuts marked = subst (λ (m : ℕ). AppliesNext s change (applied.Done m) t) (sym marked.0) (record { next = next; cuts = cuts; counted = tt; stands = marked.1 })

-- the rows of the cut, after the file was made ready
module _ (s m t : Pair) (change : Change) (stands : m.stand ≡ decided s.stand) (cabinet : m.cabinet ≡ s.cabinet) (counts : m.cabinet_faults ≡ s.cabinet_faults) (later : s.faults ≤ m.faults) where
  before : (reply : CutReply) (then_stand then_stand' : Stand) → then_stand ≡ then_stand' → IsCutAs m change reply then_stand t → IsCutAs s change reply then_stand' t
  before reply then_stand then_stand' same is = record {
    next = is.next ∙ ap (λ (x : Stand). last_of x.mark + 1) stands;
    cuts = subst (λ (x : State). Cuts x change.cover reply t.cabinet) cabinet is.cuts;
    counted = subst (λ (n : ℕ). IsCountedCut n t.cabinet_faults reply) counts is.counted;
    stands = is.stands ∙ same;
  }

  same_decided : decided m.stand ≡ decided s.stand
  same_decided = ap decided stands

  pub row_then : (reply : Applied) → AppliesNext m change reply t → Applies s change reply t
  row_then applied.Repeated row = absurd row
  row_then (applied.Gap k) row = absurd row
  row_then (applied.FeedFault None) row = absurd row
  row_then (applied.FeedFault (Some k)) row =
      (before (cut.Done k) (record { mark = m.stand.mark; undecided = Some (mark_for change k) }) (record { mark = s.stand.mark; undecided = Some (mark_for change k) }) (ap (λ (x : Stand). record { mark = x.mark; undecided = Some (mark_for change k) }) stands) row.0, (row.1.0, omega (arith, later, row.1.1), row.1.2))
  row_then applied.Spent row = before cut.Spent (decided m.stand) (decided s.stand) same_decided row
  row_then applied.Full row = before cut.Full (decided m.stand) (decided s.stand) same_decided row
  row_then (applied.DiskFault b a) row = before (cut.DiskFault b a) (decided m.stand) (decided s.stand) same_decided row
  row_then (applied.Done k) row = before (cut.Done k) (record { mark = Some (mark_for change k); undecided = None }) (record { mark = Some (mark_for change k); undecided = None }) refl row

  pub rows_then : {E : Type 0} (result : Result Applied E) → IfOk result (λ reply. AppliesNext m change reply t) → IfOk result (λ reply. Applies s change reply t)
  rows_then (Ok reply) row = row_then reply row
  rows_then (Err fault) row = tt

-- the images, after the file was made ready
module _ (digest digest' : List ℕ) (s m : Stand) (change : Change) (old mid new : DiskState) (same : digest' ≡ digest) (stands : m ≡ decided s) (first : Leaves old mid (MayEndIn digest s)) where
  decided_in : (c : Content) → MayEndIn digest' m c → MayEndIn digest s c
  decided_in c may = elim (subst (λ (d : List ℕ). MayEndIn d (decided s) c) same (subst (λ (x : Stand). MayEndIn digest' x c) stands may)) [
    | inl ends ↦ inl ends
    | inr ends ↦ absurd (false≢true ends.0)
  ]

  pub moments_then : (reply : Applied) → Leaves mid new (MayEndAfter digest' m change reply) → Leaves old new (MayEndAfter digest s change reply)
  moments_then reply next =
      leaves_then old mid new (MayEndAfter digest s change reply)
      (leaves_as old mid (MayEndIn digest s) (MayEndAfter digest s change reply) first (λ c may. inl may))
      (leaves_as mid new (MayEndAfter digest' m change reply) (MayEndAfter digest s change reply) next (λ c after.
      elim after [ inl may ↦ inl (decided_in c may) | inr brought ↦ inr (brought.0, brought.1, subst (λ (d : List ℕ). EndsIn d (Some (mark_for change brought.0)) c) same brought.2) ]))

  pub all_moments_then : {E : Type 0} (result : Result Applied E) → IfOk result (λ reply. Leaves mid new (MayEndAfter digest' m change reply)) → IfOk result (λ reply. Leaves old new (MayEndAfter digest s change reply))
  all_moments_then (Ok reply) next = moments_then reply next
  all_moments_then (Err fault) next = tt
