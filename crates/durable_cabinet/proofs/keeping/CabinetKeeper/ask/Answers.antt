use Rattle.std.proofs.Common.{inr, subst, sym}
use Rattle.gate_journal.specs.Sound.{IsSettled}
use Rattle.durable_cabinet.proofs.Hitting.{asks_sound, asks_true}
use Rattle.durable_cabinet.proofs.Lasting.{lasts_outlasts}
use Rattle.durable_cabinet.proofs.Sounding.{asks_fresh_as, asks_same}
use Rattle.durable_cabinet.proofs.keeping.CabinetKeeper.ask.Goals as goal

pub returns-clause-lasts : goal.returns-clause-lasts
returns-clause-lasts g c =
    let a = c.args.self.now in
    let b = c.ask.new.self in
    lasts_outlasts (g.D.Disk.told a.file.disk) (g.D.Disk.told b.file.disk) (g.D.Disk.faults a.file.disk) (g.D.Disk.faults b.file.disk) a.state b.state (λ u. ⊥) a.file.journal b.file.journal (g.D.Disk.state a.file.disk) (g.D.Disk.state b.file.disk) c.ask.ensures.told
    (asks_same (g.D.Disk.faults a.file.disk) (g.D.Disk.faults b.file.disk) a.state b.state c.args.address.now c.ask.result c.known.ensures c.requires c.ask.ensures.asked c.ask.ensures.err) (λ u n. absurd n) c.ask.ensures.images c.ask.ensures.later (inr (λ settled. subst IsSettled (sym c.ask.ensures.journal) settled))

pub returns-clause-fresh : goal.returns-clause-fresh
returns-clause-fresh g c =
    let a = c.args.self.now in
    let b = c.ask.new.self in
    asks_fresh_as (g.D.Disk.faults a.file.disk) (g.D.Disk.faults b.file.disk) a.state b.state c.args.address.now c.ask.result c.known.ensures c.requires c.ask.ensures.asked

pub returns-clause-sound : goal.returns-clause-sound
returns-clause-sound g c =
    let a = c.args.self.now in
    let b = c.ask.new.self in
    asks_true c.laws_of_metatiles.ensures.part (g.D.Disk.faults a.file.disk) (g.D.Disk.faults b.file.disk) a.state b.state c.args.address.now c.ask.result c.known.ensures c.requires c.ask.ensures.asked

pub returns-clause-still_sound : goal.returns-clause-still_sound
returns-clause-still_sound g c sound =
    let a = c.args.self.now in
    let b = c.ask.new.self in
    asks_sound (g.D.Disk.faults a.file.disk) (g.D.Disk.faults b.file.disk) a.state b.state c.args.address.now c.ask.result c.ask.ensures.asked c.ask.ensures.err sound
