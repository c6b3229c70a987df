use Rattle.std.proofs.Common.{rules, ◌≡◌, List, None, ap, sym, subst}
use Rattle.metatile_locks.specs.declared.render.Render.{Render}
use Rattle.metatile_locks.specs.Running.{Locked, IsAboveAll, running_for}
use Rattle.metatile_locks.proofs.Runs.{rise_begun, one_begun, none_runs}
use Rattle.metatile_locks.proofs.locks.Locks.begin.Goals as goal

pub invariant_of-self : goal.invariant_of-self
invariant_of-self c =
    let rs : ◌≡◌ {A = List Render} c.self.inside.renders.items c.args.self.now.renders = ap (λ (l : Locked). l.renders) c.self.view_is in
    let none : running_for c.args.meta.now c.self.inside.renders.items ≡ None = search rules in
    rw c.push_reserved.ensures.items (
      rise_begun c.args.number c.args.meta.now c.args.moment c.self.inside.renders.items (subst (IsAboveAll c.args.number) (sym rs) c.requires.above) c.self.invariant.0,
      one_begun c.args.number c.args.meta.now c.args.moment c.self.inside.renders.items (none_runs c.args.meta.now c.self.inside.renders.items none) c.self.invariant.1,
    )

pub returns-clause-one_runs : goal.returns-clause-one_runs
returns-clause-one_runs c =
    let none : running_for c.args.meta.now c.self.inside.renders.items ≡ None = search rules in
    rw c.push_reserved.ensures.items (one_begun c.args.number c.args.meta.now c.args.moment c.self.inside.renders.items (none_runs c.args.meta.now c.self.inside.renders.items none) c.self.invariant.1)
