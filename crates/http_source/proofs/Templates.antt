-- The templates of texts, one after the other.
use Rattle.std.proofs.Common.{◌≡◌, ◌≢◌, ℕ, zero, suc, ◌+◌, ◌<◌, List, [], ◌∷◌, ◌++◌, length, take, get_or, Some, Err, refl, sym, ap, subst, ◌∙◌, add-one, arith}
use Rattle.std.specs.Prelude.{slice_get}
use Rattle.window_request.specs.Templates.{IsTemplate, Reads}
use Rattle.window_request.specs.declared.fault.TemplateFault.{TemplateFault}
use Rattle.window_request.specs.declared.fault.TemplateFault.TheVariants as wrong
use Rattle.window_request.specs.declared.template.Template.{Template as UrlTemplate}
use Rattle.http_source.specs.declared.config.LayerTemplate.{LayerTemplate}
use Rattle.http_source.specs.declared.fault.RendererField.TheVariants as field
use Rattle.http_source.specs.declared.fault.RendererFault.{RendererFault}
use Rattle.http_source.specs.declared.fault.RendererFault.TheVariants.{NotJson, Missing, Bad, Duplicate, Limit, Template, OutOfMemory}
use Rattle.http_source.specs.declared.form.LayerUrl.{LayerUrl}
use Rattle.http_source.specs.declared.form.RendererForm.{RendererForm}
use Rattle.http_source.specs.Configs.{AreTemplates, IsFirstWrong, IsNoTemplate, ReadsLayers, ReadsTemplate, ReadsTemplates}

-- each cause but want of memory
pub no_template : (text : List ℕ) (how : TemplateFault) → how ≢ wrong.OutOfMemory → Reads text (Err how) → IsNoTemplate text how
no_template text wrong.Scheme other reads = reads
no_template text wrong.Authority other reads = reads
no_template text wrong.NoPath other reads = reads
no_template text (wrong.Byte at) other reads = reads
no_template text (wrong.OpenBrace at) other reads = reads
no_template text (wrong.UnknownName at) other reads = reads
no_template text wrong.OutOfMemory other reads = absurd (other refl)

-- THE LAYERS

one_more : (us : List LayerUrl) (ts : List LayerTemplate) (i : ℕ) (u : LayerUrl) (t : LayerTemplate) → i < length us → u ≡ get_or us i u → AreTemplates (take i us) ts → t.layer ≡ u.layer → IsTemplate u.url t.template → AreTemplates (take (suc i) us) (ts ++ t ∷ [])
one_more [] ts i u t l e are same is = absurd (omega (arith, l))
one_more (v ∷ us) [] zero u t l e are same is = (same ∙ ap (λ (w : LayerUrl). w.layer) e, subst (λ (w : LayerUrl). IsTemplate w.url t.template) e is, tt)
one_more (v ∷ us) (s ∷ ts) zero u t l e are same is = absurd are
one_more (v ∷ us) [] (suc i) u t l e are same is = absurd are
one_more (v ∷ us) (s ∷ ts) (suc i) u t l e are same is = (are.0, are.1, one_more us ts i u t (omega (arith, l)) e are.2 same is)

pub templates_more : (us : List LayerUrl) (ts : List LayerTemplate) (i : ℕ) (u : LayerUrl) (t : LayerTemplate) → i < length us → u ≡ get_or us i u → AreTemplates (take i us) ts → t.layer ≡ u.layer → IsTemplate u.url t.template → AreTemplates (take (i + 1) us) (ts ++ t ∷ [])
templates_more us ts i u t l e are same is = rw (add-one i) (one_more us ts i u t l e are same is)

stands : (us : List LayerUrl) (i : ℕ) (u : LayerUrl) → i < length us → u ≡ get_or us i u → slice_get us i ≡ Some u
stands [] i u l e = absurd (omega (arith, l))
stands (v ∷ us) zero u l e = ap Some (sym e)
stands (v ∷ us) (suc i) u l e = stands us i u (omega (arith, l)) e

first_wrong : (us : List LayerUrl) (ts : List LayerTemplate) (i place : ℕ) (u : LayerUrl) (how : TemplateFault) → place ≡ i → i < length us → u ≡ get_or us i u → AreTemplates (take i us) ts → IsNoTemplate u.url how → IsFirstWrong us place how
first_wrong us ts i place u how same l e are none =
    record {
      before = ts;
      templates = subst (λ (n : ℕ). AreTemplates (take n us) ts) (sym same) are;
      entry = u;
      there = ap (slice_get us) same ∙ stands us i u l e;
      no_template = none;
    }

-- the text of an entry that is no template ends the reading
pub layer_stops : (us : List LayerUrl) (ts : List LayerTemplate) (i at : ℕ) (u : LayerUrl) (fault : RendererFault) → at ≡ i → i < length us → u ≡ get_or us i u → AreTemplates (take i us) ts → ReadsTemplate u.url field.LayerUrl at (Err fault) → ReadsLayers us (Err fault)
layer_stops us ts i at u NotJson same l e are reads = reads
layer_stops us ts i at u (Missing of place) same l e are reads = reads
layer_stops us ts i at u (Bad of place) same l e are reads = reads
layer_stops us ts i at u (Duplicate of place) same l e are reads = reads
layer_stops us ts i at u (Limit of place) same l e are reads = reads
layer_stops us ts i at u (Template of place how) same l e are reads = (reads.0, first_wrong us ts i place u how (reads.1 ∙ same) l e are reads.2)
layer_stops us ts i at u OutOfMemory same l e are reads = tt

-- ALL OF THEM

pub url_stops : (f : RendererForm) (fault : RendererFault) → ReadsTemplate f.url field.Url 0 (Err fault) → ReadsTemplates f (Err fault)
url_stops f NotJson reads = reads
url_stops f (Missing of place) reads = reads
url_stops f (Bad of place) reads = reads
url_stops f (Duplicate of place) reads = reads
url_stops f (Limit of place) reads = reads
url_stops f (Template of place how) reads = rw reads.0 (reads.1, reads.2)
url_stops f OutOfMemory reads = tt

pub layers_stop : (f : RendererForm) (t : UrlTemplate) (fault : RendererFault) → IsTemplate f.url t → ReadsLayers f.layers (Err fault) → ReadsTemplates f (Err fault)
layers_stop f t NotJson is reads = reads
layers_stop f t (Missing of place) is reads = reads
layers_stop f t (Bad of place) is reads = reads
layers_stop f t (Duplicate of place) is reads = reads
layers_stop f t (Limit of place) is reads = reads
layers_stop f t (Template of place how) is reads = rw reads.0 (t, is, reads.1)
layers_stop f t OutOfMemory is reads = tt
