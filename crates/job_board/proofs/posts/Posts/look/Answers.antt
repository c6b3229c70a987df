use Rattle.std.proofs.Common.{rules, sym, ◌-◌, ◌∙◌}
use Rattle.std.proofs.lemmas.Option.{slice_get_read}
use Rattle.job_board.proofs.Watches.{looked}
use Rattle.job_board.proofs.posts.Posts.look.Goals as goal

pub returns : goal.returns
returns c =
    rw (← c.self.view_is)
    (looked c.self.inside.waiting.items c.self.inside.jobs.items c.self.inside.kinds.items c.self.inside.ends.items c.args.number c.index_mut-job.result.now _ c.index-kind.result.now c.index-has_ended.result.now c.state_of.result c.progress-progress.result (search rules) c.if-number-eq0.false (slice_get_read c.self.inside.kinds.items c.len.result (c.args.number - 1) c.index-kind.result.now (c.len.ensures ∙ (c.self.inside.jobs.ok.0 ∙ sym c.self.invariant.2)) (search rules) c.index-kind.ensures) (slice_get_read c.self.inside.ends.items c.len.result (c.args.number - 1) c.index-has_ended.result.now (c.len.ensures ∙ (c.self.inside.jobs.ok.0 ∙ sym c.self.invariant.3)) (search rules) c.index-has_ended.ensures) (slice_get_read c.self.inside.jobs.items c.len.result (c.args.number - 1) c.index_mut-job.result.now (c.len.ensures ∙ c.self.inside.jobs.ok.0) (search rules) c.index_mut-job.ensures.value) c.progress-progress.ensures.tells c.progress-progress.ensures.adds_up c.deref-2.result.now c.deref-2.ensures c.progress-progress.ensures.settled c.progress-progress.ensures.stays)
