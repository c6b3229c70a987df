use Rattle.std.proofs.Common.{◌≡◌, ◌≤◌, ℕ, List}
use Rattle.std.specs.Io.KnownBytes.{Consumes}
use Rattle.http_answer.specs.Reading.{IsReading}
use Rattle.renderer_link.proofs.exchange.received.Given as goal

-- what came so far is being read
abbrev pub invariant-taking : goal.invariant-taking
invariant-taking g l = record {
  came : List ℕ;
  comes : Consumes (g.S.ByteSource.left l.initial.source) (g.S.ByteSource.left l.source) came;
  reading : IsReading l.answer came;
  limit : l.answer.limit ≡ l.limit;
  later : g.S.ByteSource.faults l.initial.source ≤ g.S.ByteSource.faults l.source;
  apart : g.S.ByteSource.apart l.source ≡ g.S.ByteSource.apart l.initial.source;
}
