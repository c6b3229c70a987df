use Rattle.std.proofs.Common.{ap, subst, sym, ◌∙◌}
use Rattle.cabinet.specs.declared.judged.Judged.TheVariants as judged
use Rattle.cabinet.specs.declared.kept.Kept.{Kept}
use Rattle.metatile_locks.specs.Running.{without}
use Rattle.cabinet.specs.Consistent.{Parts}
use Rattle.cabinet.specs.Started.{opening_of}
use Rattle.cabinet.specs.State.{State}
use Rattle.cabinet.specs.Steps.{Cored, Judges}
use Rattle.cabinet.proofs.Answered.{ended_off, fits_few, fits_gap, fits_new, fits_runs, fits_size}
use Rattle.cabinet.proofs.Consistent.{after_stored}
use Rattle.cabinet.proofs.cabinet_core.Core.keep.Goals as goal

pub invariant_of-self : goal.invariant_of-self
invariant_of-self c =
    let i = c.self.inside in
    let p : Parts = record { opening = opening_of i.start; shelf = i.shelf; last = i.last; moment = i.moment; clock = i.clock; renders = i.locks.renders; book = i.cuts.book } in
    let h = i.past.entries in
    let state_is = ap (λ (v : Cored). v.state) c.self.view_is in
    let t = c.args.kept in
    let fits = subst (λ (v : State). Judges v c.args.ticket (judged.Fits t)) (sym state_is) c.requires.fits in
    let number = ap (λ (x : Kept). x.number) (sym fits.4) in
    let off = ended_off p h c.self.invariant c.args.ticket t fits c.end-ended.result c.end-ended.new.self.renders c.end-ended.ensures.ends ∙ ap (λ n. without n i.locks.renders) number in
    after_stored p h c.self.invariant t c.args.text c.and-self-inside.result.entries _ c.and-self-inside.ensures c.keep.ensures.keeps
    (λ j. record { opening = opening_of i.start; shelf = c.keep.new.self; last = i.last; moment = i.moment; clock = i.clock; renders = off j; book = i.cuts.book }) (fits_runs p h c.self.invariant c.args.ticket t fits)
    (fits_new p h c.self.invariant c.args.ticket t fits) c.requires.length (fits_size p h c.self.invariant c.args.ticket t fits) (fits_gap p h c.self.invariant c.args.ticket t fits) (fits_few p h c.self.invariant c.args.ticket t fits) c.keep.ensures.room
