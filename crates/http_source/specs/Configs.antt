-- What a text says of a renderer, with its templates read.
use Rattle.std.specs.Prelude.{ℕ, ◌≡◌, ◌==◌, List, [], ◌∷◌, take, Option, Some, position, slice_get, Result, Ok, Err, ⊤, Vec}
use Rattle.std.specs.declared.alloc.Global.{Global}
use Rattle.catalog.specs.declared.catalogue.Catalogue.{Catalogue}
use Rattle.window_request.specs.Templates.{IsTemplate, Reads}
use Rattle.window_request.specs.declared.fault.TemplateFault.{TemplateFault}
use Rattle.window_request.specs.declared.fault.TemplateFault.TheVariants as wrong
use Rattle.window_request.specs.declared.template.Template.{Template as UrlTemplate}
use Rattle.http_source.specs.declared.config.LayerTemplate.{LayerTemplate}
use Rattle.http_source.specs.declared.config.RendererConfig.{RendererConfig}
use Rattle.http_source.specs.declared.fault.RendererField.{RendererField}
use Rattle.http_source.specs.declared.fault.RendererField.TheVariants as field
use Rattle.http_source.specs.declared.fault.RendererFault.{RendererFault}
use Rattle.http_source.specs.declared.fault.RendererFault.TheVariants.{NotJson, Missing, Bad, Duplicate, Limit, Template, OutOfMemory}
use Rattle.http_source.specs.declared.form.LayerUrl.{LayerUrl}
use Rattle.http_source.specs.declared.form.RendererForm.{RendererForm}
use Rattle.http_source.specs.Forms.{form_of}

-- the text is no template, for this cause, which is not want of memory
abbrev pub IsNoTemplate : List ℕ → TemplateFault → Type 0
IsNoTemplate text wrong.Scheme = Reads text (Err wrong.Scheme)
IsNoTemplate text wrong.Authority = Reads text (Err wrong.Authority)
IsNoTemplate text wrong.NoPath = Reads text (Err wrong.NoPath)
IsNoTemplate text (wrong.Byte at) = Reads text (Err (wrong.Byte at))
IsNoTemplate text (wrong.OpenBrace at) = Reads text (Err (wrong.OpenBrace at))
IsNoTemplate text (wrong.UnknownName at) = Reads text (Err (wrong.UnknownName at))
IsNoTemplate text wrong.OutOfMemory = ⊥

-- the templates of the entries, in their order
abbrev pub AreTemplates : List LayerUrl → List LayerTemplate → Type 0
AreTemplates [] [] = ⊤
AreTemplates [] (t ∷ ts) = ⊥
AreTemplates (u ∷ us) [] = ⊥
AreTemplates (u ∷ us) (t ∷ ts) = (t.layer ≡ u.layer) × IsTemplate u.url t.template × AreTemplates us ts

-- the entry at this place is the first one whose text is no template, for this cause
pub record IsFirstWrong (us : List LayerUrl) (at : ℕ) (how : TemplateFault) : Type 0 where
  pub before : List LayerTemplate
  pub templates : AreTemplates (take at us) before
  pub entry : LayerUrl
  pub there : slice_get us at ≡ Some entry
  pub no_template : IsNoTemplate entry.url how

-- the templates are those of what the text says, and the numbers too
pub record IsConfigOf (f : RendererForm) (c : RendererConfig) : Type 0 where
  pub template : IsTemplate f.url c.template
  pub layers : AreTemplates f.layers c.layers.items
  pub connect_seconds : c.connect_seconds ≡ f.connect_seconds
  pub answer_seconds : c.answer_seconds ≡ f.answer_seconds
  pub renders : c.renders ≡ f.renders

-- the first text that is no template is this member's, for this cause
abbrev pub IsWrong : RendererForm → RendererField → ℕ → TemplateFault → Type 0
IsWrong f field.Url at how = (at ≡ 0) × IsNoTemplate f.url how
IsWrong f field.LayerUrl at how = (t : UrlTemplate) × IsTemplate f.url t × IsFirstWrong f.layers at how
IsWrong f field.Layers at how = ⊥
IsWrong f field.Layer at how = ⊥
IsWrong f field.ConnectSeconds at how = ⊥
IsWrong f field.AnswerSeconds at how = ⊥
IsWrong f field.Renders at how = ⊥

-- the template of a text, that of this member
abbrev pub ReadsTemplate : List ℕ → RendererField → ℕ → Result UrlTemplate RendererFault → Type 0
ReadsTemplate text f at (Ok t) = IsTemplate text t
ReadsTemplate text f at (Err (Template of place how)) = (of ≡ f) × (place ≡ at) × IsNoTemplate text how
ReadsTemplate text f at (Err OutOfMemory) = ⊤
ReadsTemplate text f at (Err NotJson) = ⊥
ReadsTemplate text f at (Err (Missing of place)) = ⊥
ReadsTemplate text f at (Err (Bad of place)) = ⊥
ReadsTemplate text f at (Err (Duplicate of place)) = ⊥
ReadsTemplate text f at (Err (Limit of place)) = ⊥

-- the templates of the entries, or the first text that is none
abbrev pub ReadsLayers : List LayerUrl → Result (Vec LayerTemplate Global) RendererFault → Type 0
ReadsLayers us (Ok ts) = AreTemplates us ts.items
ReadsLayers us (Err (Template of place how)) = (of ≡ field.LayerUrl) × IsFirstWrong us place how
ReadsLayers us (Err OutOfMemory) = ⊤
ReadsLayers us (Err NotJson) = ⊥
ReadsLayers us (Err (Missing of place)) = ⊥
ReadsLayers us (Err (Bad of place)) = ⊥
ReadsLayers us (Err (Duplicate of place)) = ⊥
ReadsLayers us (Err (Limit of place)) = ⊥

-- the templates of what a text says, or the first text that is none
abbrev pub ReadsTemplates : RendererForm → Result RendererConfig RendererFault → Type 0
ReadsTemplates f (Ok c) = IsConfigOf f c
ReadsTemplates f (Err (Template of place how)) = IsWrong f of place how
ReadsTemplates f (Err OutOfMemory) = ⊤
ReadsTemplates f (Err NotJson) = ⊥
ReadsTemplates f (Err (Missing of place)) = ⊥
ReadsTemplates f (Err (Bad of place)) = ⊥
ReadsTemplates f (Err (Duplicate of place)) = ⊥
ReadsTemplates f (Err (Limit of place)) = ⊥

-- what a text says, or its first fault: the templates are read behind all else
abbrev pub ReadsConfig : Catalogue → List ℕ → Result RendererConfig RendererFault → Type 0
ReadsConfig c text (Ok config) = (f : RendererForm) × (form_of c text ≡ Ok f) × IsConfigOf f config
ReadsConfig c text (Err NotJson) = form_of c text ≡ Err NotJson
ReadsConfig c text (Err (Missing of place)) = form_of c text ≡ Err (Missing of place)
ReadsConfig c text (Err (Bad of place)) = form_of c text ≡ Err (Bad of place)
ReadsConfig c text (Err (Duplicate of place)) = form_of c text ≡ Err (Duplicate of place)
ReadsConfig c text (Err (Limit of place)) = form_of c text ≡ Err (Limit of place)
ReadsConfig c text (Err (Template of place how)) = (f : RendererForm) × (form_of c text ≡ Ok f) × IsWrong f of place how
ReadsConfig c text (Err OutOfMemory) = ⊤

-- where the template of this layer stands among those of single layers
abbrev pub own_place : List LayerTemplate → ℕ → Option ℕ
own_place ts layer = position (λ t. t.layer == layer) ts
