use Rattle.std.proofs.Common.{◌≡◌, ◌+◌, ◌⊎◌, All, length, vec_len}
use Rattle.std.specs.List.{Contains}
use Rattle.turnstile.specs.Steps.{Found}
use Rattle.turnstile.specs.Line.{AreAmong}
use Rattle.turnstile.specs.Passes.{Holding, IsReady, known_by, knows}
use Rattle.turnstile.specs.Views.{turns_in}
use Rattle.turnstile.proofs.deal.gather.Given as goal

abbrev pub invariant-loop-next : goal.invariant-loop-next
invariant-loop-next g l = record {
  own : All (λ p. p.table ≡ l.queue.table.shared.table_id) l.rest.items;
  table : l.all.table_id ≡ l.queue.table.shared.table_id;
  ready : IsReady (knows l.all).parts l.all;
  parts : (knows l.all).parts + length l.rest.items ≡ length l.fn.passes.items;
  turns : (p : Holding g.row.C-Charter.Denot g.row.C-Note.Denot) → Contains l.fn.passes.items p → Contains l.rest.items p ⊎ AreAmong p.made (turns_in (knows l.all));
  known : (chest : g.row.C.Denot) → Found g.C.Chest.charter g.C.Chest.sound g.C.Chest.book (knows l.all).own chest
      → All (λ p. Found g.C.Chest.charter g.C.Chest.sound g.C.Chest.book (known_by p) chest) l.rest.items
      → All (λ p. Found g.C.Chest.charter g.C.Chest.sound g.C.Chest.book (known_by p) chest) l.fn.passes.items;
}

abbrev pub decreases-loop-next : goal.decreases-loop-next
decreases-loop-next g l = vec_len l.rest
