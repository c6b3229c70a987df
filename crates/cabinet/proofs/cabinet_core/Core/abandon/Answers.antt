use Rattle.std.proofs.Common.{rules, ℕ, ◌≡◌, ◌++◌, ◌∷◌, [], ap, ◌∙◌}
use Rattle.cabinet.specs.declared.entry.HistoryEntry.TheVariants as entry
use Rattle.metatile_locks.specs.Running.{without}
use Rattle.cabinet.specs.Consistent.{Parts}
use Rattle.cabinet.proofs.Consistent.{after_ended}
use Rattle.cabinet.proofs.cabinet_core.Core.abandon.Goals as goal
use Rattle.cabinet.specs.Started.{opening_of}
use Rattle.cabinet.proofs.cabinet_core.Core.abandon.Goals.{in-Overtaken, in-Whole}

pub invariant_of-self-2 : goal.invariant_of-self-2
invariant_of-self-2 c =
    let i = c.self.inside in
    let p : Parts = record { opening = opening_of i.start; shelf = i.shelf; last = i.last; moment = i.moment; clock = i.clock; renders = i.locks.renders; book = i.cuts.book } in
    let h = i.past.entries in
    let told = c.and-self-inside.ensures ∙ ap (λ (n : ℕ). i.past.entries ++ entry.Ended n ∷ []) c.number-number.ensures in
    let off : c.end.new.self.renders ≡ without c.args.ticket.number i.locks.renders = elim c.match-end.branch [ in-Overtaken w ↦ search rules | in-Whole w ↦ search rules ] in
    after_ended p h c.self.invariant c.args.ticket.number c.and-self-inside.result.entries _ told (λ j. record { opening = opening_of i.start; shelf = i.shelf; last = i.last; moment = i.moment; clock = i.clock; renders = off j; book = i.cuts.book })
