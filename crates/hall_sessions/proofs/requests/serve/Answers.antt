use Rattle.std.proofs.Common.{◌∙◌, refl, sym}
use Rattle.source_render.proofs.Staying.{stays_itself}
use Rattle.hall_sessions.proofs.Read.{asked_of_composites, asked_of_jobs, composed_so, read_so, served_at_board, unread}
use Rattle.hall_sessions.proofs.requests.serve.Goals as goal

pub returns-in-Err-clause-serves : goal.returns-in-Err-clause-serves
returns-in-Err-clause-serves g c = unread _ _ _ _ _ _ _

pub returns-in-Ok-Some-clause-serves : goal.returns-in-Ok-Some-clause-serves
returns-in-Ok-Some-clause-serves g c =
    let same = asked_of_jobs _ c.of-parts.result _ c.of-parts.ensures.method c.of-parts.ensures.target c.of-parts.ensures.body in
    served_at_board _ _ _ _ _ _ _ _ c.in-Ok-Some.request _ (sym c.in-Ok-Some.field-0-is ∙ c.in-Ok-Some.ensures.value ∙ same) c.serve_job.ensures.serves

pub returns-in-Err-read_composite_request-clause-serves : goal.returns-in-Err-read_composite_request-clause-serves
returns-in-Err-read_composite_request-clause-serves g c = unread _ _ _ _ _ _ _

pub returns-in-Ok-Some-read_composite_request-clause-serves : goal.returns-in-Ok-Some-read_composite_request-clause-serves
returns-in-Ok-Some-read_composite_request-clause-serves g c =
    let same = asked_of_jobs _ c.of-parts.result _ c.of-parts.ensures.method c.of-parts.ensures.target c.of-parts.ensures.body in
    let same_composite = asked_of_composites _ _ c.of-parts.result _ c.of-parts.ensures.method c.of-parts.ensures.target in
    composed_so _ _ _ _ _ _ _ _ c.in-Ok-Some-read_composite_request.request _ (sym c.in-Ok-None.field-0-is ∙ c.in-Ok-None.ensures.value ∙ same)
    (sym c.in-Ok-Some-read_composite_request.field-0-is ∙ c.in-Ok-Some-read_composite_request.ensures.value ∙ same_composite) c.serve_composite.ensures.serves

pub returns-in-Err-read_request-clause-serves : goal.returns-in-Err-read_request-clause-serves
returns-in-Err-read_request-clause-serves g c = unread _ _ _ _ _ _ _

pub returns-in-Ok-clause-serves : goal.returns-in-Ok-clause-serves
returns-in-Ok-clause-serves g c =
    let same = asked_of_jobs _ c.of-parts.result _ c.of-parts.ensures.method c.of-parts.ensures.target c.of-parts.ensures.body in
    let same_composite = asked_of_composites _ _ c.of-parts.result _ c.of-parts.ensures.method c.of-parts.ensures.target in
    read_so _ _ _ _ _ _ _ _ c.in-Ok.request _ (sym c.in-Ok-None.field-0-is ∙ c.in-Ok-None.ensures.value ∙ same)
    (sym c.in-Ok-None-read_composite_request.field-0-is ∙ c.in-Ok-None-read_composite_request.ensures.value ∙ same_composite)
    (c.in-Ok.ensures.value ∙ rw (c.of-parts.ensures.method, c.of-parts.ensures.target, c.of-parts.ensures.body) refl) c.serve_request.ensures.serves

pub returns-in-Err-clause-grows : goal.returns-in-Err-clause-grows
returns-in-Err-clause-grows g c = stays_itself (g.S.Source.gave c.args.source.now)

pub returns-in-Ok-Some-clause-grows : goal.returns-in-Ok-Some-clause-grows
returns-in-Ok-Some-clause-grows g c = stays_itself (g.S.Source.gave c.args.source.now)

pub returns-in-Err-read_composite_request-clause-grows : goal.returns-in-Err-read_composite_request-clause-grows
returns-in-Err-read_composite_request-clause-grows g c = stays_itself (g.S.Source.gave c.args.source.now)

pub returns-in-Err-read_request-clause-grows : goal.returns-in-Err-read_request-clause-grows
returns-in-Err-read_request-clause-grows g c = stays_itself (g.S.Source.gave c.args.source.now)
