use Rattle.std.proofs.Common.{◌≤◌, take}
use Rattle.std.specs.Io.KnownBytes.{Appends}
use Rattle.look_words.specs.Texts.{list_text}
use Rattle.look_words.proofs.listing.send_lines.Given as goal

-- the lines of those before this one went out
abbrev pub invariant-loop-one : goal.invariant-loop-one
invariant-loop-one g l = record {
  written : Appends (g.O.ByteSink.taken l.initial.output) (g.O.ByteSink.taken l.output) (list_text l.catalogue l.layer (take l.one-index l.kept));
  later : g.O.ByteSink.faults l.initial.output ≤ g.O.ByteSink.faults l.output;
}
