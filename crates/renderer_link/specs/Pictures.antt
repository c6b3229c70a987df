-- What of an exchange with a renderer comes into a raster.
use Rattle.std.specs.Prelude.{ℕ, ◌≡◌, ◌⊎◌, List, Bool, Option, Result, Ok, Err, ⊤}
use Rattle.base.specs.Causes.{Rose}
use Rattle.http_answer.specs.Answers.{IsAnswer, IsFault}
use Rattle.http_source.specs.Painted.{IsPainted}
use Rattle.ppm_reading.specs.Form.{IsPixmap}
use Rattle.raster_field.specs.Rasters.{Image}
use Rattle.renderer_link.specs.Exchanges.{HasCome}
use Rattle.renderer_link.specs.declared.exchange.ExchangeFault.TheVariants as exchanges
use Rattle.renderer_link.specs.declared.picture.PictureFault.{PictureFault}
use Rattle.renderer_link.specs.declared.picture.PictureFault.TheVariants.{Exchange, NoPixmap}

-- the bytes that were taken are an answer of status 200, and the raster has the pixels of the pixmap of its size that the body is; in each
-- other case the raster stays
abbrev pub Pictures : ℕ → Option (List ℕ) → Option (List ℕ) → Image → Image → Result ⊤ PictureFault → Type 0
Pictures limit before after old new (Ok done) = (came : List ℕ) × (ended : Bool) × (body : List ℕ) × HasCome before after came ended × IsAnswer came ended body × IsPainted old body new
Pictures limit before after old new (Err (NoPixmap body)) = (came : List ℕ) × (ended : Bool) × HasCome before after came ended × IsAnswer came ended body.items × (new ≡ old) × ((pixels : List ℕ) → ¬ IsPixmap old.width old.height body.items pixels)
Pictures limit before after old new (Err (Exchange (exchanges.Answer fault))) = (new ≡ old) × (came : List ℕ) × (ended : Bool) × HasCome before after came ended × IsFault limit came ended fault
Pictures limit before after old new (Err (Exchange exchanges.Link)) = new ≡ old
Pictures limit before after old new (Err (Exchange exchanges.OutOfMemory)) = new ≡ old

-- there is no picture for a failed link only where a take or a put of it failed
abbrev pub HasPictureCause : ℕ → ℕ → ℕ → ℕ → Result ⊤ PictureFault → Type 0
HasPictureCause takes_before takes_after puts_before puts_after result = result ≡ Err (Exchange exchanges.Link) → Rose takes_before takes_after ⊎ Rose puts_before puts_after
