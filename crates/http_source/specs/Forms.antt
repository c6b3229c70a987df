-- What a text says of a renderer, or its first fault in the order of the members, with the templates as they stand there.
use Rattle.std.specs.Prelude.{ℕ, ◌==◌, Bool, if◌then◌else◌, List, [], length, ok_or, Ok, Err, codes}
use Rattle.std.specs.List.{list_any}
use Rattle.serde_json.specs.Data.{Data}
use Rattle.serde_json.specs.Find.{get}
use Rattle.json_forms.specs.Forms.{object_of}
use Rattle.catalog.specs.declared.catalogue.Catalogue.{Catalogue}
use Rattle.catalog.specs.LookUp.{layer_named}
use Rattle.http_source.specs.declared.fault.RendererField.TheVariants as field
use Rattle.http_source.specs.declared.fault.RendererFault.TheVariants.{NotJson, Duplicate}
use Rattle.http_source.specs.declared.form.LayerUrl.{LayerUrl}
use Rattle.http_source.specs.declared.form.RendererForm.{RendererForm}
use Rattle.http_source.specs.Outcome.{Outcome, entries, ◌>>=◌}
use Rattle.http_source.specs.Members.{Form, required, or, of_kind, text, whole, objects}

-- one of the entries names this layer
abbrev pub is_taken : List LayerUrl → ℕ → Bool
is_taken before layer = list_any (λ l. l.layer == layer) before

-- the name of a layer of the catalogue that none of the entries before names
unfoldable pub layer : Catalogue → List LayerUrl → Form ℕ
layer c before f at d = do
  name ← text f at d
  number ← of_kind (layer_named c name) f at
  if is_taken before number then Err (Duplicate f at) else Ok number

-- an entry after those before it
unfoldable pub layer_url : Catalogue → List LayerUrl → Data → Outcome LayerUrl
layer_url c before d = do
  number ← required (layer c before) field.Layer (length before) (get (codes "layer") d)
  url ← required text field.LayerUrl (length before) (get (codes "url") d)
  Ok (record { layer = number; url = url })

unfoldable pub layers : Catalogue → Data → Outcome (List LayerUrl)
layers c d = or [] objects field.Layers 0 (get (codes "layers") d) >>= entries (layer_url c) []

-- a member a line
unfoldable pub form_in : Catalogue → Data → Outcome RendererForm
form_in c d = do
  url ← required text field.Url 0 (get (codes "url") d)
  own ← layers c d
  connect ← or 5 (whole 1 60) field.ConnectSeconds 0 (get (codes "connectSeconds") d)
  answer ← or 60 (whole 1 600) field.AnswerSeconds 0 (get (codes "answerSeconds") d)
  renders ← or 8 (whole 1 64) field.Renders 0 (get (codes "renders") d)
  Ok (record { url = url; layers = own; connect_seconds = connect; answer_seconds = answer; renders = renders })

-- the text is one object
unfoldable pub form_of : Catalogue → List ℕ → Outcome RendererForm
form_of c text = ok_or (object_of text) NotJson >>= form_in c
