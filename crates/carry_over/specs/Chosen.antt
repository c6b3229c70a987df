-- What is taken over where a catalogue comes in the place of another one.
use Rattle.std.specs.Prelude.{ℕ, ◌≡◌, ◌≤◌, ◌+◌, ◌-◌, ◌⊎◌, List, [], ◌∷◌, drop, length}
use Rattle.cabinet.specs.declared.kept.Kept.{Kept}
use Rattle.cabinet.specs.History.{CabinetOpening}
use Rattle.catalog.specs.declared.catalogue.Catalogue.{Catalogue}
use Rattle.catalogue_change.specs.Alike.{Stays}
use Rattle.served_covers.specs.OfCatalogue.{IsCoverOf}
use Rattle.truncation_list.specs.declared.book.Cut.{Cut}

-- the first list is the second one without some of its entries
abbrev pub IsPartOf : {A : Type 0} → List A → List A → Type 0
IsPartOf us [] = us ≡ []
IsPartOf us (t ∷ ts) = IsPartOf us ts ⊎ ((vs : List _) × (us ≡ t ∷ vs) × IsPartOf vs ts)

-- the region of a metatile ends within the room of a catalogue's blobs
abbrev pub HasRoomIn : Catalogue → Kept → Type 0
HasRoomIn d t = t.place + t.length ≤ d.blob_bytes

-- WHAT IS CHOSEN of a kept list: each metatile that stays and has room, as it is, and no other; so many stay and have no room
abbrev pub Chooses : Catalogue → Catalogue → List Kept → List Kept → ℕ → Type 0
Chooses c d [] us roomless = (us ≡ []) × (roomless ≡ 0)
Chooses c d (t ∷ ts) us roomless =
    ((Stays c d t.meta → ⊥) × Chooses c d ts us roomless)
    ⊎ (Stays c d t.meta × (HasRoomIn d t → ⊥) × ((n : ℕ) × (roomless ≡ n + 1) × Chooses c d ts us n))
    ⊎ (Stays c d t.meta × HasRoomIn d t × ((vs : List Kept) × (us ≡ t ∷ vs) × Chooses c d ts vs roomless))

-- of cuts: each whose cover is of the catalogue, as it is, and no other
abbrev pub ChoosesCuts : Catalogue → List Cut → List Cut → Type 0
ChoosesCuts d [] ks = ks ≡ []
ChoosesCuts d (k ∷ cuts) ks = ((IsCoverOf d k.cover → ⊥) × ChoosesCuts d cuts ks) ⊎ (IsCoverOf d k.cover × ((ls : List Cut) × (ks ≡ k ∷ ls) × ChoosesCuts d cuts ls))

-- the last ones of a kept list, no more than a catalogue lets be kept: those that were used last stand there
abbrev pub last_of : Catalogue → List Kept → List Kept
last_of d kept = drop (length kept - d.kept_limit) kept

-- WHAT IS TAKEN OVER of an opening: of what was kept the metatiles that were chosen, but those that weren't read, and the cuts that were chosen, with the
-- same floor, under the number of that opening
pub record Takes (c d : Catalogue) (o : CabinetOpening) (chosen kept : List Kept) (cuts : List Cut) (roomless unread : ℕ) : Type 0 where
  pub chooses : Chooses c d (last_of d o.kept) chosen roomless
  pub part : IsPartOf kept chosen
  pub told : length kept + unread ≡ length chosen
  pub chooses_cuts : ChoosesCuts d o.book.cuts cuts
  pub few_cuts : length cuts ≤ d.cut_limit

abbrev pub taken_over : CabinetOpening → List Kept → List Cut → CabinetOpening
taken_over o kept cuts = record { number = o.number; kept = kept; book = record { cuts = cuts; floor = o.book.floor } }
