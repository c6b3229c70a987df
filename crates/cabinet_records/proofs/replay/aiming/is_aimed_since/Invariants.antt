use Rattle.std.proofs.Common.{◌≡◌, drop}
use Rattle.cabinet_records.specs.Aiming.{NumbersFall, is_aimed_since}
use Rattle.cabinet_records.proofs.replay.aiming.is_aimed_since.Given as goal

abbrev pub invariant-looking : goal.invariant-looking
invariant-looking l = record { same : is_aimed_since (drop l.i l.cuts) l.number l.meta ≡ is_aimed_since l.cuts l.number l.meta; fall : NumbersFall (drop l.i l.cuts) }
