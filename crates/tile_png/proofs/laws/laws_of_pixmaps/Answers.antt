use Rattle.tile_png.proofs.Heads.{only_spelt, spelt}
use Rattle.tile_png.proofs.Tiles.{tile_spelt}
use Rattle.tile_png.proofs.laws.laws_of_pixmaps.Goals as goal

pub returns : goal.returns
returns c = record { spelt = spelt; only = only_spelt; tiles = tile_spelt }
