-- What answers tell of the cache.
use Rattle.std.specs.Prelude.{ℕ, ◌+◌, Bool, true, false, List, Option, Some, None, count_by}
use Rattle.tile_requests.specs.declared.outcome.Outcome.{Outcome}
use Rattle.tile_requests.specs.declared.outcome.Outcome.TheVariants.{Tile}
use Rattle.tile_service.specs.declared.cache_tally.CacheResult.{CacheResult}
use Rattle.tile_service.specs.declared.cache_tally.CacheResult.TheVariants.{Hit, Miss, Other}
use Rattle.tile_service.specs.declared.cache_tally.CacheTally.{CacheTally}
use Rattle.tile_service.specs.Run.{Answer}

-- a tile tells whether a kept one gave it, and anything else tells nothing
abbrev pub result_of : Outcome → CacheResult
result_of (Tile true number text) = Hit
result_of (Tile false number text) = Miss
result_of outcome = Other

abbrev pub is_hit : CacheResult → Bool
is_hit Hit = true
is_hit Miss = false
is_hit Other = false

abbrev pub is_miss : CacheResult → Bool
is_miss Hit = false
is_miss Miss = true
is_miss Other = false

abbrev pub is_other : CacheResult → Bool
is_other Hit = false
is_other Miss = false
is_other Other = true

-- how many answers are hits, misses, and neither
abbrev pub tally_of : List Answer → CacheTally
tally_of answers =
    record {
      hits = count_by (λ a. is_hit (result_of a.outcome)) answers;
      misses = count_by (λ a. is_miss (result_of a.outcome)) answers;
      others = count_by (λ a. is_other (result_of a.outcome)) answers;
    }

-- the counts of one answer, or of none
abbrev pub one_of : Option CacheResult → CacheTally
one_of None = record { hits = 0; misses = 0; others = 0 }
one_of (Some Hit) = record { hits = 1; misses = 0; others = 0 }
one_of (Some Miss) = record { hits = 0; misses = 1; others = 0 }
one_of (Some Other) = record { hits = 0; misses = 0; others = 1 }

abbrev pub both : CacheTally → CacheTally → CacheTally
both a b = record { hits = a.hits + b.hits; misses = a.misses + b.misses; others = a.others + b.others }

-- of how many answers these are the counts
abbrev pub total : CacheTally → ℕ
total t = t.hits + t.misses + t.others
