use Rattle.std.proofs.Common.{◌≡◌, ap, arith, length, refl, sym, ◌∙◌}
use Rattle.catalog.specs.declared.catalogue.Catalogue.{Catalogue}
use Rattle.job_forms.specs.Places.{places}
use Rattle.job_words.proofs.Through.{all_counted, countable, part_more, part_none, runs_all}
use Rattle.job_words.proofs.running.run_places.Goals as goal

pub visiting-init : goal.visiting-init
visiting-init g c =
    rw c.new-tally.ensures
    (record { part = part_none _ _ _ c.args.job.now (g.C.Keeper.state c.args.cabinet.now); told = refl; rests = c.requires.rest; lasts = c.laws_of_lasting.ensures.itself c.args.cabinet.now })

pub and-tally-requires : goal.and-tally-requires
and-tally-requires g c = countable _ _ _ c.args.job.now c.visiting.place c.count-places.result c.visiting.tally _ _ c.visiting.invariant.part c.visiting-test.true c.count-places.ensures.most

pub visiting-preserved : goal.visiting-preserved
visiting-preserved g c =
    let i = c.visiting.invariant in
    let v = c.visit-end.ensures in
    record {
      part = rw c.and-tally.ensures (part_more _ _ _ _ _ _ _ _ c.args.job.now c.visiting.place c.visiting.tally (g.C.Keeper.state c.args.cabinet.now) (g.C.Keeper.state c.visiting.cabinet) (g.C.Keeper.state c.visit-end.new.cabinet) v.comes.0 c.visit-end.result i.part v.comes.1 i.told v.comes.2);
      told = v.told ∙ i.told;
      rests = v.comes.2.rests;
      lasts = c.laws_of_lasting.ensures.on _ _ _ i.lasts v.lasts;
    }

pub returns-clause-runs : goal.returns-clause-runs
returns-clause-runs g c =
    let i = c.visiting.invariant in
    let s = g.C.Keeper.state c.args.cabinet.now in
    let same : c.visiting.place ≡ c.count-places.result = omega (arith, c.visiting.auto.place-end, c.visiting-test.false) in
    let all = same ∙ c.count-places.ensures.places ∙ ap (λ (x : Catalogue). length (places x c.args.job.now)) c.catalogue.ensures in
    runs_all _ _ _ c.args.job.now c.visiting.place c.visiting.tally s (g.C.Keeper.state c.visiting.cabinet) all i.part

pub returns-clause-adds_up : goal.returns-clause-adds_up
returns-clause-adds_up g c = all_counted c.visiting.tally c.visiting.invariant.part.visits c.visiting.invariant.part.counted
