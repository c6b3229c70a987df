use Rattle.std.proofs.Common.{◌∙◌, ap, map, List}
use Rattle.window_request.specs.declared.values.DimensionValue.{DimensionValue}
use Rattle.http_source.specs.Asked.{named_value, theme_values}
use Rattle.http_source.proofs.Windows.{asks}
use Rattle.http_source.proofs.config.RendererConfig.request.Goals as goal

pub returns : goal.returns
returns c =
    asks c.args.self.now c.args.catalogue.now c.args.number c.args.meta.now c.args.window.now c.args.version.now c.matrix-matrix.result.now c.in_ok-texts.texts c.as_slice.result.now c.values_of-values.result c.template_for.result.now c.request.result
    c.matrix-matrix.ensures.matrix
    c.in_ok-texts.ensures
    (ap (λ (ds : List DimensionValue). map named_value ds) c.as_slice.ensures.value ∙ c.in_ok-dimensions.ensures ∙ ap (λ ds. theme_values ds c.args.meta.now.theme.dims) c.dimensions_of-dimensions.ensures)
    c.values_of-values.ensures
    c.template_for.ensures
    c.request.ensures
