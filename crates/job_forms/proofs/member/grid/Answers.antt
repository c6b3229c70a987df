use Rattle.catalog.specs.LookUp.{served_grid_named}
use Rattle.job_forms.proofs.Texts.{through}
use Rattle.job_forms.proofs.member.grid.Goals as goal

pub returns-in-Some-clause-value : goal.returns-in-Some-clause-value
returns-in-Some-clause-value c =
    through (served_grid_named c.args.catalogue.now c.args.layer) c.as_str.result _ c.in-Some.name c.as_bytes.result.now _ c.as_str.ensures c.in-Some.is c.as_bytes.ensures.value c.served_grid_named.ensures.value
