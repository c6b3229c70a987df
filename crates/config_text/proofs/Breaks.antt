-- As many breaks as rows.
use Rattle.std.proofs.Common.{◌≡◌, nat_le, true, List, length, map}
use Rattle.std.specs.List.{list_all}
use Rattle.std.proofs.lemmas.Bool.{and_parts}
use Rattle.std.proofs.lemmas.List.{length-map}
use Rattle.catalog.specs.declared.layer.Break.{Break}
use Rattle.config_text.specs.declared.row.Row.{Row}
use Rattle.config_text.specs.Layers.{is_byte_row, are_breaks, break_of}

pub few_breaks : (rows : List Row) (breaks : List Break) → are_breaks rows ≡ true → breaks ≡ map break_of rows → nat_le (length breaks) 256 ≡ true
few_breaks rows breaks e is = rw (is, length-map) (and_parts (nat_le (length rows) 256) (list_all is_byte_row rows) e).0
