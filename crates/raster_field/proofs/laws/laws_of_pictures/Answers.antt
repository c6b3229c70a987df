use Rattle.raster_field.proofs.Windows.{picture_whole, window_colour, window_part}
use Rattle.raster_field.proofs.laws.laws_of_pictures.Goals as goal

pub returns : goal.returns
returns c = record { colour = window_colour; part = window_part; whole = picture_whole }
