-- What a cabinet is opened with.
use Rattle.std.specs.Prelude.{ℕ, List, [], map, replicate, Some}
use Rattle.catalog.specs.declared.catalogue.Catalogue.{Catalogue}
use Rattle.base.specs.Readings.{Readings}
use Rattle.cabinet.specs.declared.kept.Kept.{Kept}
use Rattle.cabinet.specs.declared.kept.KeptBlob.{KeptBlob}
use Rattle.cabinet.specs.declared.ranking.Ranked.{Ranked}
use Rattle.cabinet.specs.declared.start.TracedOpening.{TracedOpening}
use Rattle.cabinet.specs.History.{CabinetOpening, whole}
use Rattle.cabinet.specs.State.{State}

abbrev pub opening_of : TracedOpening → CabinetOpening
opening_of start = record { number = start.number; kept = start.kept.entries; book = record { cuts = start.cuts.entries; floor = start.floor } }

-- a blob that lies elsewhere, as zeros
abbrev pub away : Kept → KeptBlob
away t = record { kept = t; text = replicate t.length 0 }

-- the cabinet after an opening, whose blobs lie elsewhere
abbrev pub opened_state : Catalogue → CabinetOpening → Readings → State
opened_state c o clock = record { catalogue = c; opening = o; history = whole o []; since = []; blobs = Some (map away o.kept); clock = clock }

-- a list of what is kept, alone and with the count of each last use, and how many it has room for in all
pub record Listing : Type 0 where
  pub kept : List Kept
  pub ranked : List Ranked
  pub room : ℕ
