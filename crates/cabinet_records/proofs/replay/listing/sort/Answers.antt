use Rattle.std.proofs.Common.{rules}
use Rattle.std.proofs.lemmas.List.Sorted.{IsNonDecreasingBy-from_sort_by_key}
use Rattle.cabinet_records.specs.Placed.{place_at, place_in}
use Rattle.cabinet_records.proofs.replay.listing.sort.Goals as goal

pub returns-clause-sorted : goal.returns-clause-sorted
returns-clause-sorted c = IsNonDecreasingBy-from_sort_by_key (place_at (place_in c.args.places.now.entries)) _ c.sort_unstable_by_key.ensures.sorted (λ a r q k. search rules)
