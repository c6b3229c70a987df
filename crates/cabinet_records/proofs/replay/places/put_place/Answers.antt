use Rattle.cabinet_records.proofs.replay.places.put_place.Goals as goal

pub returns-clause-places : goal.returns-clause-places
returns-clause-places c = λ n. (rw c.unwrap-older.ensures at c.insert.ensures.updates).0 n
