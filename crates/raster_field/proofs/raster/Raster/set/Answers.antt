use Rattle.raster_field.proofs.Splices.{colour_kept}
use Rattle.raster_field.proofs.raster.Raster.set.Goals as goal

pub returns-clause-rest : goal.returns-clause-rest
returns-clause-rest c i j left top other =
    rw (c.put.ensures, c.place-at.ensures.value) (colour_kept c.args.self.now c.args.x c.args.y i j c.args.colour c.place-at.ensures.whole c.requires.x c.requires.y left top other)
