-- Files that are opened one after the other, of which one is refused.
use Rattle.std.proofs.Common.{◌≡◌, ℕ, ◌≤◌, Bool, refl, subst, inr}
use Rattle.cabinet.specs.State.{State}
use Rattle.catalog.specs.declared.catalogue.Catalogue.{Catalogue}
use Rattle.catalog.specs.Valid.{IsValid}
use Rattle.change_feed.specs.Files as marks_files
use Rattle.base.specs.Readings.{Readings}
use Rattle.disk_model.specs.Images.{DiskState}
use Rattle.gate_journal.specs.declared.fault.OpenFault.{OpenFault}
use Rattle.gate_journal.specs.declared.journal.Journal.{Journal}
use Rattle.gate_journal.specs.Sound.{IsSettled}
use Rattle.opened_cache.proofs.Closing.{has_opened}
use Rattle.opened_cache.specs.Change.{DiskChange}
use Rattle.opened_cache.specs.Crash.{IsCacheClosed}
use Rattle.opened_cache.specs.Opened.{IsOpened}
use Rattle.outbox.specs.Files as outbox_files
use Rattle.sessions.specs.Outside.{counts}
use Rattle.twin_words.specs.Opens.{IsQuiet, OpensAlone, RefusesMarks, RefusesOutbox}

-- a cabinet was opened and closed again
pub opens_alone : (c : Catalogue) (clock : Readings) (told told' : Bool) (before next : ℕ) (j : Journal) (old mid : DiskState) (s : State) → IsValid c → IsOpened c clock (record { told = told; faults = counts before next; from = old; to = mid }) s → told' ≡ told → before ≤ next → IsSettled j → IsCacheClosed told' j mid s
    → OpensAlone c clock (record { told = told; faults = counts before next; from = old; to = mid })
opens_alone c clock told told' before next j old mid s valid opened same later settled closed =
    (s, has_opened c clock told told' (counts before next) before next next j j old mid mid s s valid opened refl same later settled (inr (λ h. h)) closed)

pub refuses_marks : (c asked : Catalogue) (m : DiskChange) (cause : OpenFault) → asked ≡ c → marks_files.IsRefusedAs m.told asked.digest m.from.seen m.faults.before m.faults.after cause → IsQuiet m → RefusesMarks c m cause
refuses_marks c asked m cause same refused quiet = record { refused = subst (λ (x : Catalogue). marks_files.IsRefusedAs m.told x.digest m.from.seen m.faults.before m.faults.after cause) same refused; quiet = quiet }

pub refuses_outbox : (c asked : Catalogue) (o : DiskChange) (cause : OpenFault) → asked ≡ c → outbox_files.IsRefusedAs o.told asked o.from.seen o.faults.before o.faults.after cause → IsQuiet o → RefusesOutbox c o cause
refuses_outbox c asked o cause same refused quiet = record { refused = subst (λ (x : Catalogue). outbox_files.IsRefusedAs o.told x o.from.seen o.faults.before o.faults.after cause) same refused; quiet = quiet }
