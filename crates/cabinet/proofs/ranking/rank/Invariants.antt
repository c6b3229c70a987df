use Rattle.std.proofs.Common.{◌≡◌, ◌≤◌, length, map, take}
use Rattle.expiry_policy.specs.Victims.{use_of}
use Rattle.cabinet.specs.Shelved.{listed}
use Rattle.cabinet.specs.Writing.{ranked_by}
use Rattle.cabinet.proofs.ranking.rank.Given as goal

abbrev pub invariant-ranking : goal.invariant-ranking
invariant-ranking l = record { ranked : l.list.ranked ≡ map (ranked_by (λ m. use_of l.uses m)) (listed (take l.at l.store.held)); room : length l.store.held ≤ l.list.room; same : l.list.room ≡ l.fn.list.room }
