use Rattle.std.proofs.Common.{rules, not, ◌≡◌, List, Some, None, ap, sym, subst, ◌∙◌}
use Rattle.metatile_locks.specs.declared.render.Render.{Render}
use Rattle.metatile_locks.specs.declared.replies.End.{End}
use Rattle.metatile_locks.specs.Calls.{Ends}
use Rattle.metatile_locks.specs.Tickets.{Ticketed}
use Rattle.metatile_locks.specs.Running.{Locked, has_number, render_of, without}
use Rattle.metatile_locks.proofs.Runs.{ends_at, one_filter, rise_filter}
use Rattle.metatile_locks.proofs.locks.Locks.end.Goals as goal
use Rattle.metatile_locks.proofs.locks.Locks.end.Goals.{in-Some-mark, in-None-mark}

pub invariant_of-self : goal.invariant_of-self
invariant_of-self c =
    rw c.take_off.ensures.items (
      rise_filter (λ r. not (has_number c.spend-number.result.0 r)) c.self.inside.renders.items c.self.invariant.0,
      one_filter (λ r. not (has_number c.spend-number.result.0 r)) c.self.inside.renders.items c.self.invariant.1,
    )

pub returns-clause-ends : goal.returns-clause-ends
returns-clause-ends c =
    let rs : ◌≡◌ {A = List Render} c.self.inside.renders.items c.args.self.now.renders = ap (λ (l : Locked). l.renders) c.self.view_is in
    let e : render_of c.args.ticket c.args.self.now.renders ≡ Some c.in-Some.render.now = search rules in
    let n : c.spend-number.result.0 ≡ c.args.ticket.number = ap (λ (t : Ticketed). t.number) (sym c.spend-number.ensures) in
    let out : c.take_off.new.renders.items ≡ without c.args.ticket.number c.args.self.now.renders = c.take_off.ensures.items ∙ (λ i. without (n i) (rs i)) in
    let at = ends_at c.args.self.now.renders c.take_off.new.renders.items c.args.ticket c.in-Some.render.now e out in
    let P : End → Type 0 = λ r. Ends c.args.self.now.renders c.args.ticket r c.take_off.new.renders.items in
    elim c.match-mark.branch [ in-Some-mark w ↦ subst P (sym w.result-is) (at (Some w.in-Some-mark.cut) w.in-Some-mark.is) | in-None-mark w ↦ subst P (sym w.result-is) (at None w.in-None-mark.is) ]

pub returns-clause-one_runs : goal.returns-clause-one_runs
returns-clause-one_runs c = rw c.take_off.ensures.items (one_filter (λ r. not (has_number c.spend-number.result.0 r)) c.self.inside.renders.items c.self.invariant.1)
