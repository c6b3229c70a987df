-- As many ages as rows.
use Rattle.std.proofs.Common.{◌≡◌, nat_le, true, List, length, map}
use Rattle.std.proofs.lemmas.List.{length-map}
use Rattle.catalog.specs.declared.layer.Age.{Age}
use Rattle.config_text.specs.declared.row.AgeRow.{AgeRow}
use Rattle.config_text.specs.Ages.{age_of}

pub few_ages : (rows : List AgeRow) (ages : List Age) → nat_le (length rows) 30 ≡ true → ages ≡ map age_of rows → nat_le (length ages) 30 ≡ true
few_ages rows ages e is = rw (is, length-map) e
