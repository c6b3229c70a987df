-- A body that is no pixmap of the raster's size.
use Rattle.std.proofs.Common.{◌≡◌, ℕ, List, Bool, Err, Option}
use Rattle.std.specs.Prelude.{Vec}
use Rattle.std.specs.declared.alloc.Global.{Global}
use Rattle.http_answer.specs.Answers.{IsAnswer}
use Rattle.ppm_reading.specs.Form.{IsPixmap}
use Rattle.raster_field.specs.Rasters.{Image}
use Rattle.renderer_link.specs.declared.picture.PictureFault.TheVariants.{NoPixmap}
use Rattle.renderer_link.specs.Exchanges.{HasCome}
use Rattle.renderer_link.specs.Pictures.{Pictures}

pub no_pixmap : (limit : ℕ) (before after : Option (List ℕ)) (old new : Image) (body : Vec ℕ Global) → ((came : List ℕ) × (ended : Bool) × HasCome before after came ended × IsAnswer came ended body.items) → new ≡ old → ((pixels : List ℕ) → ¬ IsPixmap old.width old.height body.items pixels) → Pictures limit before after old new (Err (NoPixmap body))
no_pixmap limit before after old new body came same none = (came.0, came.1, came.2, came.3, same, none)
