use Rattle.std.proofs.Common.{◌≡◌, None, Some, ap, refl, subst, sym, ◌∙◌}
use Rattle.metatile_locks.specs.Running.{render_of, without}
use Rattle.metatile_locks.specs.Tickets.{Ticketed}
use Rattle.metatile_locks.proofs.Runs.{ends_at}
use Rattle.cabinet.specs.declared.judged.Judged.TheVariants as judged
use Rattle.cabinet.specs.Consistent.{Parts}
use Rattle.cabinet.specs.Shelved.{JudgesOn}
use Rattle.cabinet.specs.Started.{opening_of}
use Rattle.cabinet.specs.State.{State}
use Rattle.cabinet.specs.Steps.{Cored, Judges}
use Rattle.cabinet.proofs.Answered.{judges_row, runs_are}
use Rattle.cabinet.proofs.cabinet_core.Core.judge.Goals as goal

pub returns-in-Some-mark : goal.returns-in-Some-mark
returns-in-Some-mark c =
    let i = c.self.inside in
    let p : Parts = record { opening = opening_of i.start; shelf = i.shelf; last = i.last; moment = i.moment; clock = i.clock; renders = i.locks.renders; book = i.cuts.book } in
    let h = i.past.entries in
    let state_is = ap (λ (v : Cored). v.state) c.self.view_is in
    let t = c.args.ticket.now in
    let r = c.in-Some.render in
    let e : render_of t i.locks.renders ≡ Some r = sym c.render.ensures ∙ c.in-Some.is in
    let stands = ends_at i.locks.renders (without t.number i.locks.renders) t r e refl (Some c.in-Some-mark.cut) c.in-Some-mark.is in
    subst (λ (v : State). Judges v t (judged.Overtaken c.in-Some-mark.cut)) state_is (stands.0, runs_are p h c.self.invariant t _ stands.1)

pub returns-in-None : goal.returns-in-None
returns-in-None c =
    let i = c.self.inside in
    let p : Parts = record { opening = opening_of i.start; shelf = i.shelf; last = i.last; moment = i.moment; clock = i.clock; renders = i.locks.renders; book = i.cuts.book } in
    let h = i.past.entries in
    let state_is = ap (λ (v : Cored). v.state) c.self.view_is in
    let t = c.args.ticket.now in
    let r = c.in-Some.render in
    let e : render_of t i.locks.renders ≡ Some r = sym c.render.ensures ∙ c.in-Some.is in
    let stands = ends_at i.locks.renders (without t.number i.locks.renders) t r e refl None c.in-None.is in
    let on = subst (λ (x : Ticketed). JudgesOn i.shelf x r.moment c.judge.result) (λ j. record { number = c.number.ensures j; meta = c.meta.ensures j }) c.judge.ensures in
    subst (λ (v : State). Judges v t c.judge.result) state_is (judges_row p h c.self.invariant t r.moment c.judge.result stands.0 on)
