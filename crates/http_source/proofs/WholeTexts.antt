-- What a whole text comes to.
use Rattle.std.proofs.Common.{◌≡◌, ℕ, List, Ok, Err, Result}
use Rattle.catalog.specs.declared.catalogue.Catalogue.{Catalogue}
use Rattle.http_source.specs.declared.config.RendererConfig.{RendererConfig}
use Rattle.http_source.specs.declared.fault.RendererFault.{RendererFault}
use Rattle.http_source.specs.declared.fault.RendererFault.TheVariants.{NotJson, Missing, Bad, Duplicate, Limit, Template, OutOfMemory}
use Rattle.http_source.specs.declared.form.RendererForm.{RendererForm}
use Rattle.http_source.specs.Configs.{ReadsConfig, ReadsTemplates}
use Rattle.http_source.specs.Forms.{form_of}
use Rattle.http_source.specs.Outcome.{Fails}

-- the members are at fault
pub form_stops : (c : Catalogue) (text : List ℕ) (fault : RendererFault) → Fails fault (form_of c text) → ReadsConfig c text (Err fault)
form_stops c text NotJson fails = fails
form_stops c text (Missing of place) fails = fails
form_stops c text (Bad of place) fails = fails
form_stops c text (Duplicate of place) fails = fails
form_stops c text (Limit of place) fails = fails
form_stops c text (Template of place how) fails = absurd fails
form_stops c text OutOfMemory fails = tt

-- they are not
pub form_read : (c : Catalogue) (text : List ℕ) (f : RendererForm) (result : Result RendererConfig RendererFault) → form_of c text ≡ Ok f → ReadsTemplates f result → ReadsConfig c text result
form_read c text f (Ok config) is reads = (f, is, reads)
form_read c text f (Err NotJson) is reads = absurd reads
form_read c text f (Err (Missing of place)) is reads = absurd reads
form_read c text f (Err (Bad of place)) is reads = absurd reads
form_read c text f (Err (Duplicate of place)) is reads = absurd reads
form_read c text f (Err (Limit of place)) is reads = absurd reads
form_read c text f (Err (Template of place how)) is reads = (f, is, reads)
form_read c text f (Err OutOfMemory) is reads = tt
