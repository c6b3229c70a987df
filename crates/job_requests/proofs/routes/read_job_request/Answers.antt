use Rattle.job_requests.proofs.routes.read_job_request.Goals as goal

pub returns-clause-of : goal.returns-clause-of
returns-clause-of c = c.below.ensures.of c.args.catalogue.now
