-- The kept metatiles, each with a number, in chunks.
use Rattle.std.specs.Prelude.{ℕ, ◌≡◌, ◌≢◌, Bool, false, not, nat_lt, if◌then◌else◌, List, [], ◌∷◌, ◌++◌, map, filter, find, fold, take, Option, Some, None, ⊤}
use Rattle.std.specs.List.{AllByRecursion}
use Rattle.std.specs.Option.{option_map}
use Rattle.metatile_plan.specs.declared.metatile.MetaKey.{MetaKey}
use Rattle.metatile_plan.specs.Keys.{same_meta}
use Rattle.kept_areas.specs.declared.spot.KeptSpot.{KeptSpot}

-- the keys by chunks, and how many more can be put with no more memory
pub record Areas : Type 0 where
  pub chunks : List (List KeptSpot)
  pub spare : ℕ

-- the keys of all chunks
abbrev pub all_spots : List (List KeptSpot) → List KeptSpot
all_spots [] = []
all_spots (ss ∷ sss) = ss ++ all_spots sss

-- NUMBERS

abbrev pub is_spot_of : MetaKey → KeptSpot → Bool
is_spot_of m s = same_meta s.meta m

-- the number of a metatile, none where it isn't kept
abbrev pub number_in : List KeptSpot → MetaKey → Option ℕ
number_in ss m = option_map (λ s. s.number) (find (is_spot_of m) ss)

abbrev pub number_at : Areas → MetaKey → Option ℕ
number_at a m = number_in (all_spots a.chunks) m

-- no two are of one metatile
abbrev pub AreOnce : List KeptSpot → Type 0
AreOnce [] = ⊤
AreOnce (s ∷ ss) = AllByRecursion (λ t. s.meta ≢ t.meta) ss × AreOnce ss

-- the lesser of a number and of one that was found before
abbrev pub lesser : Option ℕ → ℕ → Option ℕ
lesser None n = Some n
lesser (Some m) n = if nat_lt n m then Some n else Some m

-- the least of some numbers and of one that was found before
abbrev pub least_in : Option ℕ → List KeptSpot → Option ℕ
least_in was ss = fold lesser was (map (λ s. s.number) ss)

-- WHAT LEAVES

-- each chunk without the key; a chunk stays in its place though it comes to be empty
abbrev pub without : MetaKey → List (List KeptSpot) → List (List KeptSpot)
without m sss = map (filter (λ s. not (is_spot_of m s))) sss

-- WHAT IS HIT

-- none of these keys is hit
abbrev pub NoneHit : (MetaKey → Bool) → List KeptSpot → Type 0
NoneHit is_hit ss = AllByRecursion (λ s. is_hit s.meta ≡ false) ss

-- no key of the first so many chunks is hit
abbrev pub IsClear : (MetaKey → Bool) → ℕ → List (List KeptSpot) → Type 0
IsClear is_hit count sss = NoneHit is_hit (all_spots (take count sss))
