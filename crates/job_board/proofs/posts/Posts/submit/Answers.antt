use Rattle.std.proofs.Common.{rules, ap, Bool, false, ◌≡◌, ◌∙◌, List, [], ◌∷◌, ◌++◌, ◌+◌, length, map, sym, length-append}
use Rattle.std.proofs.lemmas.List.{length-map}
use Rattle.job_forms.specs.declared.job.JobKind.{JobKind}
use Rattle.job_board.specs.declared.posted.Posted.{Posted}
use Rattle.job_board.specs.declared.posted.WatchedJob.{WatchedJob}
use Rattle.job_board.proofs.Watches.{board_of, joined, numbered_pushed, watched}
use Rattle.job_board.proofs.posts.Posts.submit.Goals as goal

pub returns-clause-submits : goal.returns-clause-submits
returns-clause-submits c =
    let waiting = c.self.inside.waiting.items in
    let jobs = c.self.inside.jobs.items in
    let posted = c.in_ok-posted.posted in
    let job = c.in_ok-posted.watched in
    let more_wait : c.push_reserved.new.self.items ≡ waiting ++ posted ∷ [] = search rules in
    let more_jobs : c.push_reserved-2.new.self.items ≡ jobs ++ job ∷ [] = search rules in
    let kinds = c.self.inside.kinds.items in
    let more_kinds : c.push_reserved-3.new.self.items ≡ kinds ++ c.args.job.kind ∷ [] = search rules in
    let ends = c.self.inside.ends.items in
    let more_ends : c.push_reserved-4.new.self.items ≡ ends ++ false ∷ [] = search rules in
    let is = ap (λ (ws : List Posted). board_of ws c.push_reserved-2.new.self.items c.push_reserved-3.new.self.items c.push_reserved-4.new.self.items) more_wait ∙ ap (λ (js : List WatchedJob). board_of (waiting ++ posted ∷ []) js c.push_reserved-3.new.self.items c.push_reserved-4.new.self.items) more_jobs ∙ (joined waiting jobs c.push_reserved-3.new.self.items c.push_reserved-4.new.self.items posted job ∙ (ap (λ (ks : List JobKind). record { waiting = waiting ++ posted ∷ []; watches = map watched jobs ++ job.watch ∷ []; kinds = ks; ends = c.push_reserved-4.new.self.items }) more_kinds ∙ ap (λ (es : List Bool). record { waiting = waiting ++ posted ∷ []; watches = map watched jobs ++ job.watch ∷ []; kinds = kinds ++ c.args.job.kind ∷ []; ends = es }) more_ends)) in
    rw (← c.self.view_is) (search rules, rw (length-map jobs watched) (search rules), rw (length-map jobs watched) (search rules), (posted, job.watch, search rules, is))

pub invariant_of-self-2 : goal.invariant_of-self-2
invariant_of-self-2 c =
    let waiting = c.self.inside.waiting.items in
    let jobs = c.self.inside.jobs.items in
    let posted = c.in_ok-posted.posted in
    let job = c.in_ok-posted.watched in
    let more_wait : c.push_reserved.new.self.items ≡ waiting ++ posted ∷ [] = search rules in
    let more_jobs : c.push_reserved-2.new.self.items ≡ jobs ++ job ∷ [] = search rules in
    let more_kinds : c.push_reserved-3.new.self.items ≡ c.self.inside.kinds.items ++ c.args.job.kind ∷ [] = search rules in
    let as_many : length c.push_reserved-3.new.self.items ≡ length c.push_reserved-2.new.self.items =
    rw (more_kinds, more_jobs, length-append c.self.inside.kinds.items (c.args.job.kind ∷ []), length-append jobs (job ∷ [])) (ap (λ n. n + 1) c.self.invariant.2) in
    let more_ends : c.push_reserved-4.new.self.items ≡ c.self.inside.ends.items ++ false ∷ [] = search rules in
    let as_many_ends : length c.push_reserved-4.new.self.items ≡ length c.push_reserved-2.new.self.items =
    rw (more_ends, more_jobs, length-append c.self.inside.ends.items (false ∷ []), length-append jobs (job ∷ [])) (ap (λ n. n + 1) c.self.invariant.3) in
    let number : posted.number ≡ length jobs + 1 = search rules in
    (search rules, numbered_pushed waiting c.push_reserved.new.self.items jobs c.push_reserved-2.new.self.items posted job more_wait more_jobs number c.self.invariant.1, as_many, as_many_ends)
