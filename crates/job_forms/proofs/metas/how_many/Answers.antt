use Rattle.job_forms.proofs.MetaRanges.{metas_length}
use Rattle.job_forms.proofs.metas.how_many.Goals as goal

pub returns-in-Some-clause-value : goal.returns-in-Some-clause-value
returns-in-Some-clause-value c =
    λ theme grid z. rw (c.in-Some.is, c.span.ensures.value, c.span-in-Some.ensures.value) (metas_length theme grid z c.in-Some.metas)
