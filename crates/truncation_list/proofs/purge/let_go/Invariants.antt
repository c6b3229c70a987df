use Rattle.std.proofs.Common.{◌≡◌}
use Rattle.std.specs.Prelude.{filter}
use Rattle.truncation_list.specs.declared.cover.Cover.{Cover}
use Rattle.truncation_list.specs.Listed.{HasRoomFor}
use Rattle.truncation_list.specs.Slots.{stays}
use Rattle.truncation_list.proofs.purge.let_go.Given as goal

abbrev pub invariant-taking : goal.invariant-taking
invariant-taking l = record {
  cuts : filter (stays l.cover l.least) l.cuts.cuts ≡ filter (stays l.cover l.least) l.fn.cuts.cuts;
  ready : (cover : Cover) → HasRoomFor l.fn.cuts.room cover → HasRoomFor l.cuts.room cover;
}
