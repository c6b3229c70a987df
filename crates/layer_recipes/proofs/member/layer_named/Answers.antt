use Rattle.catalog.specs.LookUp.{layer_named}
use Rattle.layer_recipes.proofs.Texts.{through}
use Rattle.layer_recipes.proofs.member.layer_named.Goals as goal

pub returns-in-Some : goal.returns-in-Some
returns-in-Some c =
    through (layer_named c.args.catalogue.now) c.as_str.result _ c.in-Some.name c.as_bytes.result.now _ c.as_str.ensures c.in-Some.is c.as_bytes.ensures.value c.layer_named.ensures
