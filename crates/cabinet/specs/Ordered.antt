-- What is kept, as the entries of a map hold it and in the order in which it was kept.
use Rattle.std.specs.Prelude.{ℕ, ◌≡◌, not, List, [], ◌∷◌, ◌++◌, map, filter, filter_map, find, fold, Option}
use Rattle.std.specs.Option.{option_map}
use Rattle.kept_areas.specs.Areas.{Areas, number_at}
use Rattle.metatile_plan.specs.declared.metatile.MetaKey.{MetaKey}
use Rattle.metatile_plan.specs.Keys.{same_meta}
use Rattle.cabinet.specs.declared.kept.Blob.{Blob}
use Rattle.cabinet.specs.declared.kept.KeptBlob.{KeptBlob}
use Rattle.cabinet.specs.Fresh.{ApartBy}
use Rattle.cabinet.specs.History.{is_of, with_uses}

-- what an entry of the map holds
abbrev pub as_kept : MetaKey × Blob → KeptBlob
as_kept e = record { kept = record { number = e.1.number; meta = e.0; place = e.1.place; length = e.1.length; moment = e.1.moment; uses = e.1.uses }; text = e.1.text }

abbrev pub held_of : List (MetaKey × Blob) → List KeptBlob
held_of es = map as_kept es

-- what is held of a metatile
abbrev pub held_at : List KeptBlob → MetaKey → Option KeptBlob
held_at held m = find (λ b. is_of m b.kept) held

-- the metatiles that were put, each once, in the order of their last puts
abbrev pub order_of : List MetaKey → List MetaKey
order_of puts = fold (λ ms m. filter (λ n. not (same_meta n m)) ms ++ m ∷ []) [] puts

-- what is held of these metatiles, in their order
abbrev pub in_order : List MetaKey → List KeptBlob → List KeptBlob
in_order ms held = filter_map (held_at held) ms

-- two lists in which each metatile stands once, with the same of each metatile
pub record IsOrderOf (blobs held : List KeptBlob) : Type 0 where
  pub once : ApartBy (λ b. b.kept.meta) blobs
  pub held_once : ApartBy (λ b. b.kept.meta) held
  pub same : (m : MetaKey) → held_at blobs m ≡ held_at held m

-- the areas have the number of what is held of each metatile, and of no other
abbrev pub IsIndexed : Areas → List KeptBlob → Type 0
IsIndexed areas held = (m : MetaKey) → number_at areas m ≡ option_map (λ b. b.kept.number) (held_at held m)

-- what is kept stands in two orders, and its keys by area
pub record IsStored (blobs held : List KeptBlob) (areas : Areas) : Type 0 where
  pub order : IsOrderOf blobs held
  pub indexed : IsIndexed areas held

-- where it is of this metatile, with other uses
abbrev pub recounted : MetaKey → ℕ → KeptBlob → KeptBlob
recounted m uses b = record { kept = with_uses m uses b.kept; text = b.text }
