use Rattle.std.proofs.Common.{arith, ap, ◌∙◌}
use Rattle.catalog.specs.LookUp.{layer_named}
use Rattle.wmts_rest.proofs.Pairs.{first_names}
use Rattle.wmts_rest.proofs.spelling.read_texts.Goals as goal

pub returns-clause-reading : goal.returns-clause-reading
returns-clause-reading c =
    rw (first_names c.args.catalogue.now c.args.texts.now c.first-item.result c.layer_named-layer.result (omega arith) c.first-item.is (c.layer_named-layer.ensures ∙ ap (λ n. layer_named c.args.catalogue.now n) c.bytes.ensures))
    c.read_layer.ensures.reading
