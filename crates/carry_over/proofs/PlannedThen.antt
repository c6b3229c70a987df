-- What was planned and copied is what is taken over, and why it isn't.
use Rattle.std.proofs.Common.{ℕ, ◌≡◌, ◌+◌, ◌⊎◌, Bool, IsTrue, List, length, Option, Result, Ok, Err, inl, inr, sym, ap, subst, arith}
use Rattle.std.specs.Prelude.{IfOk}
use Rattle.std.specs.Option.{option_map_or}
use Rattle.base.specs.Causes.{Rose}
use Rattle.cabinet.specs.declared.kept.Kept.{Kept}
use Rattle.cabinet.specs.Fresh.{MayBeginWith}
use Rattle.cabinet.specs.History.{CabinetOpening}
use Rattle.cabinet_records.specs.Replay.{Replayed, opening_after, opening_number}
use Rattle.catalog.specs.declared.catalogue.Catalogue.{Catalogue}
use Rattle.disk_model.specs.Content.{Content}
use Rattle.disk_model.specs.Images.{DiskState}
use Rattle.durable_cabinet.specs.Images.{OpensTo, blobs_start}
use Rattle.durable_cabinet.specs.Openings.{IsReplayed}
use Rattle.gate_journal.specs.declared.fault.OpenFault.TheVariants as fault
use Rattle.gate_journal.specs.declared.journal.Journal.{Journal}
use Rattle.truncation_list.specs.declared.book.Book.{Book}
use Rattle.truncation_list.specs.declared.book.Cut.{Cut}
use Rattle.carry_over.specs.Chosen.{Chooses, ChoosesCuts, Takes, last_of, taken_over}
use Rattle.carry_over.specs.Planned.{IsPlanFault, IsPlanned}
use Rattle.carry_over.specs.Taken.{HasTaken, IsCarryFault, IsCopied, IsLateFault, IsTakenFrom, IsTakenOver, opening_of, opening_with}
use Rattle.carry_over.specs.declared.carrying.Carried.{Carried}
use Rattle.carry_over.specs.declared.fault.CarryFault.{CarryFault}
use Rattle.carry_over.specs.declared.fault.CarryFault.TheVariants as carry
use Rattle.carry_over.proofs.Begun.{begins}
use Rattle.carry_over.proofs.Parts.{part_itself}

module _ (c d : Catalogue) (last : Option ℕ) (kept : List Kept) (book : Book) (number floor : ℕ) (cuts : List Cut) (chosen : List Kept) (roomless : ℕ)
    (p : IsPlanned c d last kept book number floor cuts chosen roomless) where
  abbrev o : CabinetOpening
  o = opening_of last kept book

  pub planned_begins : MayBeginWith c o → MayBeginWith d (opening_with number floor cuts chosen)
  planned_begins opens =
      let next = p.next in
      let same = p.same_floor in
      let takes : Takes c d o chosen chosen cuts roomless 0 = record { chooses = p.chooses; part = part_itself chosen; told = omega arith; chooses_cuts = p.chooses_cuts; few_cuts = p.few_cuts } in
      subst (λ (n : ℕ). MayBeginWith d (opening_with n floor cuts chosen)) (sym next)
      (subst (λ (f : ℕ). MayBeginWith d (opening_with o.number f cuts chosen)) (sym same) (begins c d o chosen chosen cuts roomless 0 opens takes))

  pub taken_from : (result : Result Carried CarryFault) (start : ℕ) (seen : Content) (may_leave : Content → Type 0) → start ≡ blobs_start c
      → IfOk result (λ n. IsCopied d (opening_with number floor cuts chosen) start seen may_leave n.kept n.unread) → IfOk result (λ n. n.cuts ≡ length cuts) → IfOk result (λ n. n.roomless ≡ roomless)
      → IfOk result (λ n. IsTakenFrom c d o seen may_leave n.kept n.cuts n.roomless n.unread)
  taken_from (Err e) start seen may_leave at copied cuts_are without = tt
  taken_from (Ok n) start seen may_leave at copied cuts_are without =
      let next = p.next in
      let same = p.same_floor in
      record {
        chosen = chosen;
        kept = copied.kept;
        cuts = cuts;
        takes = record { chooses = subst (Chooses c d (last_of d kept) chosen) (sym without) p.chooses; part = copied.part; told = copied.told; chooses_cuts = p.chooses_cuts; few_cuts = p.few_cuts };
        kept_is = copied.kept_is;
        cuts_are = cuts_are;
        images = λ image left.
            subst (λ (x : ℕ). HasTaken d (taken_over o copied.kept cuts) x seen image) at
            (subst (λ (f : ℕ). HasTaken d (opening_with o.number f cuts copied.kept) start seen image) same
            (subst (λ (m : ℕ). HasTaken d (opening_with m floor cuts copied.kept) start seen image) next (copied.images image left)));
      }

pub late_of_made : (d : Catalogue) (last : Option ℕ) (book : Book) (told : Bool) (before after : ℕ) (f : CarryFault) → (f ≡ carry.NotMade) ⊎ (f ≡ carry.OutOfMemory) ⊎ (f ≡ carry.NewDisk) → (f ≡ carry.NotMade → IsTrue told → ⊥)
    → (f ≡ carry.NewDisk → Rose before after) → IsLateFault d last book told before after f
late_of_made d last book told before after f (inl e) made rose = inr (inl (e, made e))
late_of_made d last book told before after f (inr (inl e)) made rose = inl (subst (IsPlanFault d last book) (sym e) tt)
late_of_made d last book told before after f (inr (inr e)) made rose = inr (inr (e, rose e))

-- AFTER A REPLAY

module _ (told : Bool) (c d : Catalogue) (disk : DiskState) (j : Journal) (last : Option ℕ) (kept : List Kept) (book : Book) (p : IsReplayed told c disk j last kept book) (seen : Content) (same : IsTrue told → disk.seen ≡ seen) where
  abbrev r : Replayed
  r = p.restored.replayed

  number_as : option_map_or (λ e. e) last 0 ≡ opening_number r
  number_as = ap (λ (x : Option ℕ). option_map_or (λ e. e) x 0) p.restored.opening_is

  opening_as : opening_of last kept book ≡ opening_after r
  opening_as =
      let n = number_as in
      let k = p.restored.kept_is in
      let b = p.restored.book_is in
      λ i. record { number = n i + 1; kept = k i; book = b i }

  pub restored_begins : MayBeginWith c (opening_after r) → MayBeginWith c (opening_of last kept book)
  restored_begins opens = subst (MayBeginWith c) (sym opening_as) opens

  opens_to : IsTrue told → OpensTo c seen r
  opens_to is = subst (λ (x : Content). OpensTo c x r) (same is) (record { version = _; bodies = p.bodies; entries = p.entries; opens = (p.opens is).0; are = p.are; replays = p.restored.replays; few_cuts = p.restored.few_cuts })

  pub taken_over_by : IsTrue told → (result : Result Carried CarryFault) (may_leave : Content → Type 0) → IfOk result (λ n. IsTakenFrom c d (opening_of last kept book) disk.seen may_leave n.kept n.cuts n.roomless n.unread)
      → IfOk result (λ n. IsTakenOver c d seen may_leave n.kept n.cuts n.roomless n.unread)
  taken_over_by is (Err e) may_leave taken = tt
  taken_over_by is (Ok n) may_leave taken = record {
    replayed = r;
    opens = opens_to is;
    taken = subst (λ (x : CabinetOpening). IsTakenFrom c d x seen may_leave n.kept n.cuts n.roomless n.unread) opening_as
        (subst (λ (x : Content). IsTakenFrom c d (opening_of last kept book) x may_leave n.kept n.cuts n.roomless n.unread) (same is) taken);
  }

  plan_cause : (before after : ℕ) (new_told : Bool) (new_before new_after : ℕ) (f : CarryFault) → IsPlanFault d last book f → IsCarryFault told c d seen before after new_told new_before new_after f
  plan_cause b a nt nb na (carry.Old fault.NotACache) h = absurd h
  plan_cause b a nt nb na (carry.Old (fault.CatalogueDiffers found asked)) h = absurd h
  plan_cause b a nt nb na (carry.Old (fault.BadRecord slot)) h = absurd h
  plan_cause b a nt nb na (carry.Old fault.Spent) h = λ is. (r, opens_to is, let n = number_as in omega (arith, n, h))
  plan_cause b a nt nb na (carry.Old fault.DiskFault) h = absurd h
  plan_cause b a nt nb na (carry.Old fault.OutOfMemory) h = absurd h
  plan_cause b a nt nb na carry.NewDisk h = absurd h
  plan_cause b a nt nb na carry.NotMade h = absurd h
  plan_cause b a nt nb na carry.CutsFull h = λ is. (r, opens_to is, (h.0, subst (λ (x : Book). ChoosesCuts d x.cuts h.0) p.restored.book_is h.1, h.2))
  plan_cause b a nt nb na carry.OutOfMemory h = tt

  pub late_cause : (before after : ℕ) (new_told : Bool) (new_before new_after : ℕ) (f : CarryFault) → IsLateFault d last book new_told new_before new_after f → IsCarryFault told c d seen before after new_told new_before new_after f
  late_cause b a nt nb na f (inl h) = plan_cause b a nt nb na f h
  late_cause b a nt nb na f (inr (inl h)) = subst (IsCarryFault told c d seen b a nt nb na) (sym h.0) h.1
  late_cause b a nt nb na f (inr (inr h)) = subst (IsCarryFault told c d seen b a nt nb na) (sym h.0) h.1
