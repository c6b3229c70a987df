use Rattle.std.proofs.Common.{rules, ◌-◌, ◌∙◌}
use Rattle.std.proofs.lemmas.Option.{slice_get_read}
use Rattle.job_board.proofs.Watches.{stopped}
use Rattle.job_board.proofs.posts.Posts.stop.Goals as goal

pub returns : goal.returns
returns c =
    rw (← c.self.view_is) (stopped c.self.inside.waiting.items c.self.inside.jobs.items c.self.inside.kinds.items c.self.inside.ends.items c.args.number c.index_mut-job.result.now _ c.if-number-eq0.false (slice_get_read c.self.inside.jobs.items c.len.result (c.args.number - 1) c.index_mut-job.result.now (c.len.ensures ∙ c.self.inside.jobs.ok.0) (search rules) c.index_mut-job.ensures.value) c.cancel.ensures.cancels c.deref.result.now c.deref.ensures c.cancel.ensures.stays)
