use Rattle.catalog.specs.LookUp.{layer_named}
use Rattle.job_forms.proofs.Texts.{through}
use Rattle.job_forms.proofs.member.layer.Goals as goal

pub returns-in-Some-clause-value : goal.returns-in-Some-clause-value
returns-in-Some-clause-value c =
    through (layer_named c.args.catalogue.now) c.as_str.result _ c.in-Some.name c.as_bytes.result.now _ c.as_str.ensures c.in-Some.is c.as_bytes.ensures.value c.layer_named.ensures
