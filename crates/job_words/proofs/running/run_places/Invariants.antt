use Rattle.std.proofs.Common.{◌≡◌}
use Rattle.cache_core.specs.Lasting.{Lasting}
use Rattle.sessions.specs.Outside.{counts}
use Rattle.tile_service.specs.Session.{IsAtRest}
use Rattle.job_words.proofs.Through.{IsPart}
use Rattle.job_words.proofs.running.run_places.Given as goal

abbrev pub invariant-visiting : goal.invariant-visiting
invariant-visiting g l =
    let first = g.C.Keeper.state l.initial.cabinet in
    let here = g.C.Keeper.state l.cabinet in
    record {
      part : IsPart (g.S.Source.told l.initial.source) (counts (g.S.Source.faults l.initial.source) (g.S.Source.faults l.source)) (counts (g.C.Keeper.faults l.initial.cabinet) (g.C.Keeper.faults l.cabinet)) l.initial.job l.place l.tally first here;
      told : g.S.Source.told l.source ≡ g.S.Source.told l.initial.source;
      rests : IsAtRest here;
      lasts : Lasting (g.C.Keeper.outlasts l.initial.cabinet l.cabinet) first here;
    }
