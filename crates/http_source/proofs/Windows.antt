-- The request for a window.
use Rattle.std.proofs.Common.{◌≡◌, ℕ, List, map, Some, sym, ◌∙◌, subst, ap}
use Rattle.std.specs.Prelude.{IfOk, IsSomeAnd, Option, Result, Ok, Err, Vec}
use Rattle.std.specs.declared.alloc.AllocError.{AllocError}
use Rattle.std.specs.declared.alloc.Global.{Global}
use Rattle.catalog.specs.declared.catalogue.Catalogue.{Catalogue}
use Rattle.catalog.specs.LookUp.{dimensions_of, matrix_in}
use Rattle.matrix_geometry.specs.declared.matrix.Matrix.{Matrix}
use Rattle.metatile_plan.specs.declared.metatile.MetaKey.{MetaKey}
use Rattle.metatile_plan.specs.declared.windows.Window.{Window}
use Rattle.window_request.specs.Requests.{request_of}
use Rattle.window_request.specs.declared.template.Template.{Template}
use Rattle.window_request.specs.declared.values.DimensionValue.{DimensionValue}
use Rattle.window_request.specs.declared.values.Values.{Values}
use Rattle.http_source.specs.Asked.{AreTextsOf, Asks, IsValuesOf, named_value, template_for, theme_values}
use Rattle.http_source.specs.declared.asking.WindowTexts.{WindowTexts}
use Rattle.http_source.specs.declared.config.RendererConfig.{RendererConfig}

pub asks : (config : RendererConfig) (c : Catalogue) (number : ℕ) (k : MetaKey) (w : Window) (version : List ℕ) (m : Matrix) (texts : WindowTexts) (dimensions : List DimensionValue) (values : Values) (template : Template) (r : Result (Vec ℕ Global) AllocError)
    → matrix_in c k.grid k.z ≡ Some m → AreTextsOf m number w texts → map named_value dimensions ≡ theme_values (dimensions_of c k.theme.layer) k.theme.dims → IsValuesOf c k texts dimensions values → template ≡ template_for config k.theme.layer
    → IfOk r (λ text. text.items ≡ request_of template values version) → IfOk r (λ text. Asks config c number k w version text.items)
asks config c number k w version m texts dimensions values template (Ok text) matrix_is are dimensions_are values_are template_is is =
    record {
      texts = texts;
      are = subst (λ (o : Option Matrix). IsSomeAnd o (λ x. AreTextsOf x number w texts)) (sym matrix_is) are;
      dimensions = dimensions;
      dimensions_are = dimensions_are;
      values = values;
      values_are = values_are;
      is = is ∙ ap (λ (t : Template). request_of t values version) template_is;
    }
asks config c number k w version m texts dimensions values template (Err e) matrix_is are dimensions_are values_are template_is is = tt
