-- A cabinet that was opened, worked and was closed.
use Rattle.std.specs.Prelude.{◌⊎◌, IsTrue}
use Rattle.std.proofs.Common.{ℕ, ◌≡◌, ◌≤◌, ◌^◌, ◌-◌, Bool, inl, inr, ap, sym, subst, ◌∙◌}
use Rattle.cabinet.specs.State.{IsSound, State}
use Rattle.catalog.specs.declared.catalogue.Catalogue.{Catalogue}
use Rattle.catalog.specs.Valid.{IsValid}
use Rattle.base.specs.Causes.{Rose}
use Rattle.base.specs.Readings.{Readings}
use Rattle.disk_model.specs.Images.{DiskState, Every}
use Rattle.durable_cabinet.proofs.Pictured.{opened_sound}
use Rattle.durable_cabinet.specs.Images.{IsSoundImage, Restores}
use Rattle.durable_cabinet.specs.Outlasting.{StaysSettled}
use Rattle.gate_journal.specs.declared.journal.Journal.{Journal}
use Rattle.gate_journal.specs.Sound.{IsSettled}
use Rattle.http_wire.proofs.TakesOn.{rose_before}
use Rattle.opened_cache.specs.Crash.{IsCacheClosed, IsLeftBy}
use Rattle.opened_cache.specs.Opened.{HasOpened, IsOpened}
use Rattle.sessions.specs.Outside.{FaultCounts, counts}

-- what holds of the images where the journal is settled, of a cabinet whose journal was so when it was opened, and stayed so unless the disk
-- failed
when_settled : (told last_told : Bool) (before then after : ℕ) (j j' : Journal) (Q : Type 0) → last_told ≡ told → before ≤ then → IsSettled j → StaysSettled then after j j'
    → (IsTrue last_told → IsSettled j' → Q) → Rose before after ⊎ (IsTrue told → Q)
when_settled told last_told before then after j j' Q same later settled (inl rose) holds = inl (rose_before (2 ^ 64 - 1) before then after later rose)
when_settled told last_told before then after j j' Q same later settled (inr stays) holds = inr (λ is. holds (subst IsTrue (sym same) is) (stays settled))

-- a cabinet that was opened, worked and was closed
pub has_opened : (c : Catalogue) (clock : Readings) (told last_told : Bool) (mid_faults : FaultCounts) (before then after : ℕ) (j j' : Journal) (old mid new : DiskState) (s u : State)
    → IsValid c → IsOpened c clock (record { told = told; faults = mid_faults; from = old; to = mid }) s → u.catalogue ≡ s.catalogue → last_told ≡ told → before ≤ then → IsSettled j
    → StaysSettled then after j j' → IsCacheClosed last_told j' new u → HasOpened c clock (record { told = told; faults = counts before after; from = old; to = new }) s u
has_opened c clock told last_told mid_faults before then after j j' old mid new s u valid opened same same_told later settled stays closed =
    let its : u.catalogue ≡ c = same ∙ ap (λ (x : State). x.catalogue) opened.begins in
    record {
      opened = record { replayed = opened.replayed; begins = opened.begins; opens = opened.opens; number = opened.number };
      left = λ is. subst (λ x. Every new.may_leave (IsLeftBy x u)) its (closed.left (subst IsTrue (sym same_told) is));
      restored = when_settled told last_told before then after j j' (Every new.may_leave (Restores u)) same_told later settled stays closed.restores;
      begins_sound = λ is sound. subst IsSound (sym opened.begins) (opened_sound told c old.seen clock opened.replayed valid is sound (opened.opens is));
      leaves_sound = λ sound. when_settled told last_told before then after j j' (Every new.may_leave (IsSoundImage c)) same_told later settled stays
          (λ is settles. subst (λ x. Every new.may_leave (IsSoundImage x)) its (closed.sound is settles sound));
    }
