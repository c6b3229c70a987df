use Rattle.std.proofs.Common.{ℕ, List, ◌≡◌, IfOk, IsTrue, Some, subst, sym}
use Rattle.disk_model.specs.Images.{Every}
use Rattle.change_feed.specs.declared.applied.Applied.TheVariants as applied
use Rattle.change_feed.specs.Applies.{mark_for}
use Rattle.change_feed.specs.Files.{EndsIn}
use Rattle.change_feed.proofs.feed.Feed.apply_next.Goals as goal

pub returns-in-Ok-clause-done : goal.returns-in-Ok-clause-done
returns-in-Ok-clause-done g c told =
    subst (λ (d : List ℕ). IfOk c.cut_and_mark.result (λ reply. (k : ℕ) → reply ≡ applied.Done k → Every (g.D.Disk.state c.cut_and_mark.new.self.file.disk).may_leave (EndsIn d (Some (mark_for c.args.change.now k))))) c.in-Ok.ensures.digest
    (c.cut_and_mark.ensures.done (subst IsTrue (sym c.in-Ok.ensures.told) told))
