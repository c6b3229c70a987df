-- What contracts see of a cabinet.
use Rattle.std.specs.Prelude.{ℕ, ◌≡◌, ◌^◌, ◌<◌, ◌≤◌, List, [], ◌∷◌, ◌++◌, length, map, filter, find, not, Option, Some, IfSome, IsSomeAnd}
use Rattle.std.specs.List.{AllByRecursion}
use Rattle.std.specs.Option.{option_and_then, option_map}
use Rattle.catalog.specs.declared.catalogue.Catalogue.{Catalogue}
use Rattle.catalog.specs.Valid.{IsValid}
use Rattle.base.specs.Readings.{Readings, read}
use Rattle.metatile_plan.specs.declared.metatile.MetaKey.{MetaKey}
use Rattle.raster_field.specs.Blocks.{block_text, blob_size}
use Rattle.truncation_list.specs.declared.book.FrontedBook.{FrontedBook}
use Rattle.truncation_list.specs.declared.cover.Cover.{Cover}
use Rattle.truncation_list.specs.Books.{AnswersForFronted}
use Rattle.cabinet.specs.declared.entry.HistoryEntry.{HistoryEntry}
use Rattle.cabinet.specs.declared.entry.HistoryEntry.TheVariants as entry
use Rattle.cabinet.specs.declared.kept.Kept.{Kept}
use Rattle.cabinet.specs.declared.kept.KeptBlob.{KeptBlob}
use Rattle.cabinet.specs.Fresh.{Possible}
use Rattle.cabinet.specs.History.{CabinetOpening, CabinetStanding, History, bare_opening, first, is_of, last_number, standing, stored_entry, with_uses}
use Rattle.cabinet.specs.History as histories
use Rattle.cabinet.specs.Hits.{hits_of}

-- a cabinet: its catalogue, its opening, its history, of that the entries since the opening, the blobs that it keeps, where
-- these are modelled, and what its clock has given
pub record State : Type 0 where
  pub catalogue : Catalogue
  pub opening : CabinetOpening
  pub history : History
  pub since : History
  pub blobs : Option (List KeptBlob)
  pub clock : Readings

-- what stands now: what stood at the opening, and what happened since
abbrev pub now : State → CabinetStanding
now s = standing s.catalogue (first s.opening) s.since

-- the book of what stands, with the greatest number that was given
abbrev pub fronted : CabinetStanding → FrontedBook
fronted s = record { book = s.book; front = s.front }

-- a cabinet in memory with a clock, in which nothing has happened
abbrev pub fresh_state : Catalogue → Readings → State
fresh_state c clock = record { catalogue = c; opening = bare_opening 0; history = []; since = []; blobs = Some []; clock = clock }

-- a blob has its length, which is that of its metatile
abbrev pub IsLong : Catalogue → KeptBlob → Type 0
IsLong c b = (length b.text ≡ b.kept.length) × (b.kept.length ≡ blob_size c b.kept.meta)

-- WHAT BECOMES OF THE BLOBS

-- all but that of a metatile
abbrev pub blobs_without : MetaKey → List KeptBlob → List KeptBlob
blobs_without m blobs = filter (λ b. not (is_of m b.kept)) blobs

-- one more, in the place of its metatile's older one
abbrev pub blobs_with : Kept → List ℕ → List KeptBlob → List KeptBlob
blobs_with t text blobs = blobs_without t.meta blobs ++ record { kept = t; text = text } ∷ []

-- those that the cover does not hit
abbrev pub blobs_spared : Catalogue → Cover → List KeptBlob → List KeptBlob
blobs_spared c cover blobs = filter (λ b. not (hits_of c cover b.kept.meta)) blobs

-- with so many uses of a metatile
abbrev pub blobs_counted : MetaKey → ℕ → List KeptBlob → List KeptBlob
blobs_counted m u blobs = map (λ b. record { kept = with_uses m u b.kept; text = b.text }) blobs

-- WHAT BECOMES OF THE CABINET

-- the cabinet after one more entry, with these blobs
abbrev pub grown : State → HistoryEntry → Option (List KeptBlob) → State
grown s e blobs = record { catalogue = s.catalogue; opening = s.opening; history = s.history ++ e ∷ []; since = s.since ++ e ∷ []; blobs = blobs; clock = s.clock }

-- the cabinet after its clock gave a moment to the ask or force that begins there
abbrev pub asked_at : ℕ → State → State
asked_at n s = record { catalogue = s.catalogue; opening = s.opening; history = s.history ++ entry.At n ∷ []; since = s.since ++ entry.At n ∷ []; blobs = s.blobs; clock = read n s.clock }

-- the cabinet after an entry that keeps and drops no blob
abbrev pub with_entry : State → HistoryEntry → State
with_entry s e = grown s e s.blobs

-- the cabinet after a blob is kept
abbrev pub with_blob : State → Kept → List ℕ → State
with_blob s t text = grown s (stored_entry t) (option_map (blobs_with t text) s.blobs)

-- the cabinet after a truncation
abbrev pub with_cut : State → ℕ → Cover → State
with_cut s t cover = grown s (entry.Cut t cover) (option_map (blobs_spared s.catalogue cover) s.blobs)

-- the cabinet after an expiry
abbrev pub with_dropped : State → MetaKey → State
with_dropped s m = grown s (entry.Dropped m) (option_map (blobs_without m) s.blobs)

-- the cabinet after so many uses of a metatile were saved
abbrev pub with_counted : State → MetaKey → ℕ → State
with_counted s m u = grown s (entry.Counted m u) (option_map (blobs_counted m u) s.blobs)

-- the blob that is kept of a metatile, where blobs are modelled
abbrev pub kept_text : State → MetaKey → Option (List ℕ)
kept_text s m = option_and_then (λ blobs. option_map (λ b. b.text) (find (λ b. is_of m b.kept) blobs)) s.blobs

-- WHAT HOLDS OF EACH CABINET

-- its catalogue is valid, its history is one that an opening and commands can make, its blobs are those that the history keeps, where
-- they are modelled, each of its metatile's length, and its numbers are those of its opening, which fit 64 bits
pub record IsKnown (s : State) : Type 0 where
  pub valid : IsValid s.catalogue
  pub number : s.opening.number < 2 ^ 24
  pub whole : s.history ≡ histories.whole s.opening s.since
  pub possible : Possible s.catalogue s.opening s.since
  pub blobs : IfSome s.blobs (λ blobs. map (λ b. b.kept) blobs ≡ (now s).kept)
  pub lengths : IfSome s.blobs (λ blobs. AllByRecursion (IsLong s.catalogue) blobs)
  pub left : (now s).front ≤ last_number s.opening

-- the cabinet is known, it has the catalogue and the opening of the one before, and its book answers for the book before it,
-- the front included
pub record IsKnownAs (s new : State) : Type 0 where
  pub known : IsKnown new
  pub same_catalogue : new.catalogue ≡ s.catalogue
  pub same_opening : new.opening ≡ s.opening
  pub answers : AnswersForFronted (fronted (now new)) (fronted (now s))

-- a blob is that of its metatile in the picture of its number
abbrev pub IsPictured : Catalogue → KeptBlob → Type 0
IsPictured c b = b.text ≡ block_text c b.kept.number b.kept.meta

-- SOUND: the blobs are modelled, and each is that of its metatile in the picture of its number
abbrev pub IsSound : State → Type 0
IsSound s = IsSomeAnd s.blobs (λ blobs. AllByRecursion (IsPictured s.catalogue) blobs)
