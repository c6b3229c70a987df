-- A run that leads through keepers passes through moments of its disk.
use Rattle.std.specs.Prelude.{IsTrue}
use Rattle.std.proofs.Common.{ℕ, ◌≡◌, Bool, ap, sym, subst, ◌∙◌, arith, ⊎_elim}
use Rattle.cabinet.specs.State.{State, now}
use Rattle.catalog.specs.declared.catalogue.Catalogue.{Catalogue}
use Rattle.base.specs.Readings.{Readings}
use Rattle.disk_model.specs.Content.{Content}
use Rattle.disk_model.specs.Images.{DiskState, Every, IsLawful, Leaves}
use Rattle.disk_model.specs.Moments.{leaves_as}
use Rattle.durable_cabinet.specs.Images.{IsOurs}
use Rattle.durable_cabinet.specs.Outlasting.{AnswersAs}
use Rattle.gate_journal.specs.declared.journal.Journal.{Journal}
use Rattle.opened_cache.specs.Crash.{ImageLasts}
use Rattle.opened_cache.specs.Opened.{IsOpened}
use Rattle.opened_cache.specs.Passing.{LeavesNow, OutlastsLeft, PassesDisk}
use Rattle.opened_cache.proofs.Lasting.{worked}
use Rattle.sessions.specs.Outside.{FaultCounts}
use Rattle.tile_service.specs.Passing.{LeadsThrough}

-- what a crash leaves at a moment and after it, it leaves since that moment
left_since : (mid to : DiskState) (P : Content → Type 0) → IsLawful mid → Every mid.may_leave P → Leaves mid to P → Every (to.left_since mid.moment) P
left_since mid to P lawful here after image left = ⊎_elim (λ was. here image (lawful.only_now image was)) (λ is. is) (after.each mid.moment image (omega arith) left)

module _ {K D : Type 0} (last : K) (entry : D) (disk : K → D) (cabinet : K → State) (journal : K → Journal) (told : D → Bool) (faults : D → ℕ) (state : D → DiskState) (lawful : (d : D) → IsTrue (told d) → IsLawful (state d)) where
  -- what a crash leaves from one of these keepers to another
  abbrev pub LeadsOn : K → K → Type 0
  LeadsOn a b = OutlastsLeft (told (disk a)) (told (disk b)) (faults (disk a)) (faults (disk b)) (cabinet a) (cabinet b) (journal a) (journal b) (state (disk a)) (state (disk b))

  -- a cabinet that was opened and left its disk so passed through a moment for each keeper that it led through
  pub leads_passes : (c : Catalogue) (clock : Readings) (counts : FaultCounts) (first : K) → IsOpened c clock (record { told = told entry; faults = counts; from = state entry; to = state (disk first) }) (cabinet first)
      → (IsTrue (told entry) → Leaves (state entry) (state (disk first)) (ImageLasts c (state entry))) → told (disk first) ≡ told entry → LeavesNow (told (disk first)) (state (disk first)) (cabinet first)
      → (s : State) → LeadsThrough K cabinet LeadsOn first last s → PassesDisk D state (told entry) (state entry) (state (disk last)) s
  leads_passes c clock counts first opened lasts same leaves s l = subst (λ (x : State). PassesDisk D state (told entry) (state entry) (state (disk last)) x) l.same passes
    where
      its_disk : DiskState
      its_disk = state (disk l.mid)

      its_told : told (disk l.mid) ≡ told entry
      its_told = l.before.outlasts.outlasts.same_told ∙ same

      its_catalogue : (cabinet l.mid).catalogue ≡ c
      its_catalogue = l.before.outlasts.outlasts.same_catalogue ∙ ap (λ (x : State). x.catalogue) opened.begins

      is_told : IsTrue (told entry) → IsTrue (told (disk l.mid))
      is_told is = subst IsTrue (sym its_told) is

      onward : IsTrue (told entry) → Leaves (state (disk l.mid)) (state (disk last)) (λ image. AnswersAs (cabinet l.mid).catalogue (cabinet l.mid).opening.number (now (cabinet l.mid)).book image × IsOurs (cabinet l.mid).catalogue image)
      onward is = l.after.outlasts.outlasts.images (is_told is)

      answers : IsTrue (told entry) → Leaves (state (disk l.mid)) (state (disk last)) (AnswersAs (cabinet l.mid).catalogue (cabinet l.mid).opening.number (now (cabinet l.mid)).book)
      answers is =
          leaves_as (state (disk l.mid)) (state (disk last)) (λ image. AnswersAs (cabinet l.mid).catalogue (cabinet l.mid).opening.number (now (cabinet l.mid)).book image × IsOurs (cabinet l.mid).catalogue image)
          (AnswersAs (cabinet l.mid).catalogue (cabinet l.mid).opening.number (now (cabinet l.mid)).book) (onward is) (λ image left. left.0)

      passes : PassesDisk D state (told entry) (state entry) (state (disk last)) (cabinet l.mid)
      passes = record {
        mid = disk l.mid;
        earlier = λ is.
            subst (λ x. Leaves (state entry) (state (disk l.mid)) (ImageLasts x (state entry))) (sym its_catalogue)
            (worked c clock (told entry) (told (disk first)) (told (disk l.mid)) counts (faults (disk first)) (faults (disk l.mid)) (journal first) (journal l.mid) (state entry) (state (disk first)) (state (disk l.mid)) (cabinet first) (cabinet l.mid)
            (lawful entry) opened lasts same l.before.outlasts.outlasts is);
        here = λ is. l.before.outlasts.leaves leaves (is_told is);
        later = λ is. (onward is).later;
        after = λ is.
            left_since (state (disk l.mid)) (state (disk last)) (AnswersAs (cabinet l.mid).catalogue (cabinet l.mid).opening.number (now (cabinet l.mid)).book) (lawful (disk l.mid) (is_told is))
            (λ image left. (l.before.outlasts.leaves leaves (is_told is) image left).answers) (answers is);
      }
