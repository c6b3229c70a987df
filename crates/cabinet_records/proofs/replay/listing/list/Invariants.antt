use Rattle.std.proofs.Common.{◌≡◌, ◌≤◌, length, take, vec_capacity}
use Rattle.std.specs.Prelude.{vec_len}
use Rattle.cabinet.specs.Shelved.{listed}
use Rattle.cabinet_records.proofs.replay.listing.list.Given as goal

abbrev pub invariant-listing : goal.invariant-listing
invariant-listing l = record { items : l.out.items ≡ listed (take l.at l.store.held); len : vec_len l.out ≡ l.at; room : length l.store.held ≤ vec_capacity l.out }
