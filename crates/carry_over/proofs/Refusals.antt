-- A disk whose images open to no records isn't refused.
use Rattle.std.proofs.Common.{ℕ, ◌≡◌, ◌+◌, ◌<◌, ◌≤◌, ◌^◌, Bool, IsTrue, zero, suc, List, [], ◌∷◌, length, Option, Some, None, inl, inr, refl, ap, subst, arith}
use Rattle.cabinet_records.specs.Replay.{IsBadAt, IsRefusedAt, Replayed, Replays, book_after, opening_number, replayed, unplayed}
use Rattle.catalog.specs.declared.catalogue.Catalogue.{Catalogue}
use Rattle.disk_model.specs.Content.{Content}
use Rattle.disk_model.specs.Images.{DiskState, Every, IsLawful}
use Rattle.durable_cabinet.specs.Filed.{IsRefusedAs}
use Rattle.durable_cabinet.specs.Images.{IsOurs, OpensTo}
use Rattle.durable_cabinet.proofs.Once.{opens_once, replays_once}
use Rattle.gate_journal.specs.Opened.{Opening, differs, no_cache, records}
use Rattle.gate_journal.specs.declared.fault.OpenFault.{OpenFault}
use Rattle.gate_journal.specs.declared.fault.OpenFault.TheVariants as fault
use Rattle.record_text.specs.declared.entries.Record.{Record}
use Rattle.carry_over.proofs.Entries.{one_list}

bad_or_replayed : (c : Catalogue) (r t : Replayed) (es : List (Option Record)) (slot : ℕ) → IsBadAt c r es slot → Replays c r es t → ⊥
bad_or_replayed c r t [] slot bad plays = bad
bad_or_replayed c r t (None ∷ es) slot bad plays = plays
bad_or_replayed c r t (Some e ∷ es) zero bad plays = bad plays.0
bad_or_replayed c r t (Some e ∷ es) (suc slot) bad plays = bad_or_replayed c (replayed c r e) t es slot bad.1 plays.1

too_many : (limit n : ℕ) → n ≤ limit → limit < n → ⊥
too_many limit n few many = omega (arith, few, many)

refused_or_replayed : (c : Catalogue) (es : List (Option Record)) (slot : ℕ) (r : Replayed) → IsRefusedAt c es slot → Replays c unplayed es r → length (book_after r).cuts ≤ c.cut_limit → ⊥
refused_or_replayed c es slot r (inl x) plays few = bad_or_replayed c unplayed r es slot x plays
refused_or_replayed c es slot r (inr x) plays few =
    too_many c.cut_limit (length (book_after r).cuts) few (subst (λ (t : Replayed). c.cut_limit < length (book_after t).cuts) (replays_once c unplayed es x.0.replayed r x.0.replays plays) x.0.many)

none_or_records : (o : Opening) (version : ℕ) (bodies : List (List ℕ)) → o ≡ no_cache → o ≡ records version bodies → ⊥
none_or_records o version bodies e f = cc

other_or_records : (o : Opening) (found : List ℕ) (version : ℕ) (bodies : List (List ℕ)) → o ≡ differs found → o ≡ records version bodies → ⊥
other_or_records o found version bodies e f = cc

not_spent : (n : ℕ) → n ≡ 0 → 2 ^ 24 ≤ n + 1 → ⊥
not_spent n e le = omega (arith, e, le)

module _ (told : Bool) (c : Catalogue) (seen : Content) (before after : ℕ) (is : IsTrue told) (o : OpensTo c seen unplayed) where
  is_not : (f : OpenFault) → IsRefusedAs told c seen before after f → (f ≡ fault.DiskFault → ⊥) × (f ≡ fault.OutOfMemory → ⊥) → ⊥
  is_not fault.NotACache h other = none_or_records _ o.version o.bodies (h is) o.opens
  is_not (fault.CatalogueDiffers found asked) h other = other_or_records _ found o.version o.bodies (h.1 is) o.opens
  is_not (fault.BadRecord slot) h other =
      let z = h is in
      refused_or_replayed c o.entries slot unplayed (subst (λ (es : List (Option Record)). IsRefusedAt c es slot) (one_list _ z.0 o.version z.1 o.bodies z.2 o.entries z.3 o.opens z.4 o.are) z.5) o.replays o.few_cuts
  is_not fault.Spent h other = let z = h is in not_spent (opening_number z.0) (ap opening_number (opens_once c seen z.0 unplayed z.1 o)) z.2
  is_not fault.DiskFault h other = other.0 refl
  is_not fault.OutOfMemory h other = other.1 refl

-- where each image opens to no records, so does what a read gives, and an opening is refused for want of memory or for a fault of the disk alone
pub not_refused : (told : Bool) (c : Catalogue) (disk : DiskState) (before after : ℕ) (f : OpenFault) → IsLawful disk → Every disk.may_leave (λ image. OpensTo c image unplayed × IsOurs c image)
    → IsRefusedAs told c disk.seen before after f → (f ≡ fault.DiskFault → ⊥) × (f ≡ fault.OutOfMemory → ⊥) → IsTrue told → ⊥
not_refused told c disk before after f lawful made refused other is = is_not told c disk.seen before after is (made disk.seen lawful.reads_as).0 f refused other
