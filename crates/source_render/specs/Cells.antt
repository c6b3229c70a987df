-- Files of cells: eight bytes, a width and a height of four bytes each, and the cells by rows. Nothing follows.
use Rattle.std.specs.Prelude.{ℕ, ◌≡◌, ◌+◌, ◌*◌, ◌≤◌, List, take, drop, codes}
use Rattle.std.specs.Int.{from_be_bytes, w32}
use Rattle.source_render.specs.declared.cell_file.CellGrid.{CellGrid}

-- the first bytes of a file of this length are those of a file with these cells
pub record IsGridFile (g : CellGrid) (head : List ℕ) (size : ℕ) : Type 0 where
  pub begins : take 8 head ≡ codes "WGRD0001"
  pub columns : from_be_bytes w32 (take 4 (drop 8 head)) ≡ g.width
  pub lines : from_be_bytes w32 (take 4 (drop 12 head)) ≡ g.height
  pub width : 1 ≤ g.width
  pub height : 1 ≤ g.height
  pub whole : size ≡ 16 + g.width * g.height
