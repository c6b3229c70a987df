use Rattle.extent_map.proofs.InChunks.{fits_order}
use Rattle.extent_map.proofs.edits.enter.Goals as goal

pub make_room-apart-requires-clause-ordered : goal.make_room-apart-requires-clause-ordered
make_room-apart-requires-clause-ordered c = fits_order c.args.chunks.now.items c.args.size c.args.spot.chunk c.args.spot.index c.args.part c.requires.fits.before c.requires.fits.behind
