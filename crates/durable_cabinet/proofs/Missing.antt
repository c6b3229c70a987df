-- The record of a command that the disk failed at, while nothing else is written.
use Rattle.std.proofs.Common.{◌≡◌, true, [], ◌++◌, refl, sym, ap, subst, ◌∙◌, append_assoc, append-nil}
use Rattle.disk_model.specs.Content.{Content}
use Rattle.cabinet.specs.History.{History}
use Rattle.cabinet.specs.State.{IsKnown, State}
use Rattle.durable_cabinet.specs.Alike.{IsAlikeTo}
use Rattle.durable_cabinet.specs.Filed.{blobs_on, on_disk}
use Rattle.durable_cabinet.specs.Missed.{HasMissed, Misses}
use Rattle.durable_cabinet.proofs.Knowing.{known_on}

-- CABINETS THAT ARE ALIKE

pub alike_itself : (s : State) → IsAlikeTo s s
alike_itself s = record { catalogue = refl; opening = refl; kept = refl; book = refl; cuts = refl; later = ([], sym (append-nil s.since)) }

further : (xs ys zs es fs : History) → ys ≡ xs ++ es → zs ≡ ys ++ fs → zs ≡ xs ++ (es ++ fs)
further xs ys zs es fs first next = next ∙ ap (λ (h : History). h ++ fs) first ∙ append_assoc xs es fs

pub alike_further : (s t u : State) → IsAlikeTo s t → IsAlikeTo t u → IsAlikeTo s u
alike_further s t u a b = record {
  catalogue = b.catalogue ∙ a.catalogue;
  opening = b.opening ∙ a.opening;
  kept = b.kept ∙ a.kept;
  book = b.book ∙ a.book;
  cuts = b.cuts ∙ a.cuts;
  later = (a.later.0 ++ b.later.0, further s.since t.since u.since a.later.0 b.later.0 a.later.1 b.later.1);
}

pub alike_on : (seen : Content) (s t : State) → IsAlikeTo s t → IsAlikeTo (on_disk true seen s) (on_disk true seen t)
alike_on seen s t a = record { catalogue = a.catalogue; opening = a.opening; kept = a.kept; book = a.book; cuts = a.cuts; later = a.later }

-- where a cabinet reads as before, so does one that is alike to it
pub alike_same : (s t : State) (old new : Content) → IsAlikeTo s t → on_disk true new s ≡ on_disk true old s → on_disk true new t ≡ on_disk true old t
alike_same s t old new a same =
    ap (λ x. record { catalogue = t.catalogue; opening = t.opening; history = t.history; since = t.since; blobs = x; clock = t.clock })
    ((λ i. blobs_on true (a.catalogue i) new (a.kept i)) ∙ ap (λ (x : State). x.blobs) same ∙ (λ i. blobs_on true (sym a.catalogue i) old (sym a.kept i)))

-- THE UNDECIDED RECORD

-- it is that of the command that failed just now
pub missed_now : (seen : Content) (s missed u : State) → IsKnown u → Misses (on_disk true seen s) (on_disk true seen u) (on_disk true seen missed) → HasMissed (on_disk true seen missed) (on_disk true seen u)
missed_now seen s missed u known misses = record { from = on_disk true seen s; missed = on_disk true seen missed; misses = misses; known = known_on true seen u known; alike = alike_itself (on_disk true seen missed); blobs = refl }

-- it stays so
pub missed_still : (seen : Content) (s t next : State) → IsAlikeTo s t → HasMissed (on_disk true seen s) next → HasMissed (on_disk true seen t) next
missed_still seen s t next a h = record {
  from = h.from;
  missed = h.missed;
  misses = h.misses;
  known = h.known;
  alike = alike_further h.missed (on_disk true seen s) (on_disk true seen t) h.alike (alike_on seen s t a);
  blobs = (λ i. blobs_on true (a.catalogue i) seen (a.kept i)) ∙ h.blobs;
}

pub missed_as : (s s' next next' : State) → s' ≡ s → next' ≡ next → HasMissed s next → HasMissed s' next'
missed_as s s' next next' same same_next h = subst (λ (x : State). HasMissed x next') (sym same) (subst (HasMissed s) (sym same_next) h)
