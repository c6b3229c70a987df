use Rattle.catalog.specs.Names.{place_named}
use Rattle.job_forms.proofs.Texts.{through}
use Rattle.job_forms.proofs.values.value.Goals as goal

pub returns-in-Some-clause-value : goal.returns-in-Some-clause-value
returns-in-Some-clause-value c =
    through (place_named (λ v. v) c.args.dimension.now.values) c.as_str.result _ c.in-Some.name c.as_bytes.result.now _ c.as_str.ensures c.in-Some.is c.as_bytes.ensures.value c.value_named.ensures.value
