use Rattle.std.proofs.Common.{◌≡◌, ◌≤◌, None}
use Rattle.http_wire.specs.Answers.{IsPartOfTake}
use Rattle.sessions.specs.Exchanges.{standing}
use Rattle.source_render.specs.Renders.{renders}
use Rattle.sessions.proofs.UnderWay.{IsUnderWay}
use Rattle.sessions.proofs.session.hold_session.Given as goal

abbrev pub invariant-serving : goal.invariant-serving
invariant-serving g l =
    record {
      under_way : IsUnderWay (g.M.MessageServer.serves l.server (g.S.Source.told l.initial.source)) (g.M.MessageServer.document l.server l.initial.cache)
          (record { server = standing l.initial.cache l.initial.jobs (renders (g.S.Source.faults l.initial.source) (g.S.Source.gave l.initial.source)); wire = record { reads = g.L.ByteSource.faults l.initial.link; writes = g.L.ByteSink.faults l.initial.link; left = g.L.ByteSource.left l.initial.link; taken = g.L.ByteSink.taken l.initial.link } })
          (record { server = standing l.cache l.jobs (renders (g.S.Source.faults l.source) (g.S.Source.gave l.source)); wire = record { reads = g.L.ByteSource.faults l.link; writes = g.L.ByteSink.faults l.link; left = g.L.ByteSource.left l.link; taken = g.L.ByteSink.taken l.link } })
          l.reader.held l.answered;
      going : l.reader.ended ≡ None;
      surplus : IsPartOfTake l.reader.held;
      ready : g.M.MessageServer.ready l.server l.cache l.jobs (g.S.Source.told l.source);
      document : g.M.MessageServer.document l.server l.cache ≡ g.M.MessageServer.document l.server l.initial.cache;
      told : g.S.Source.told l.source ≡ g.S.Source.told l.initial.source;
      reads : g.L.ByteSource.faults l.initial.link ≤ g.L.ByteSource.faults l.link;
      writes : g.L.ByteSink.faults l.initial.link ≤ g.L.ByteSink.faults l.link;
    }
