use Rattle.cabinet_records.proofs.RecordedCuts.{cuts_recorded}
use Rattle.cabinet_records.proofs.RecordedKept.{drop_recorded, finish_recorded, save_recorded}
use Rattle.cabinet_records.proofs.RecordedOpening.{compacts_recorded, opened_recorded}
use Rattle.cabinet_records.proofs.RecordedRestored.{records_restore}
use Rattle.cabinet_records.proofs.RecordedStanding.{recorded_alike}
use Rattle.cabinet_records.proofs.recorded.laws_of_records.Goals as goal

pub returns : goal.returns
returns c = record {
  opened = opened_recorded;
  restores = records_restore;
  kept = finish_recorded;
  cut = cuts_recorded;
  dropped = drop_recorded;
  saved = save_recorded;
  compacts = compacts_recorded;
  alike = recorded_alike;
}
