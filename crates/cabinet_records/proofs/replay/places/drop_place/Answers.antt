use Rattle.cabinet_records.proofs.replay.places.drop_place.Goals as goal

pub returns-clause-places : goal.returns-clause-places
returns-clause-places c = λ n. c.swap_remove-dropped.ensures.updates.0 n
