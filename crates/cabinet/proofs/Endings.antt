-- The end of a render is kept, unless a test of another reply is met, or the disk failed.
use Rattle.std.specs.Prelude.{ℕ, List}
use Rattle.std.proofs.Common.{inl, inr, refl, subst}
use Rattle.base.specs.Causes.{Rose}
use Rattle.metatile_locks.specs.Tickets.{Ticketed}
use Rattle.cabinet.specs.declared.replies.Finished.{Finished}
use Rattle.cabinet.specs.declared.replies.Finished.TheVariants as finished
use Rattle.cabinet.specs.Commands.{Finishes, IsCountedFinished}
use Rattle.cabinet.specs.Endings.{IsKeptUnlessFailed}
use Rattle.cabinet.specs.State.{State}

-- the row of the reply has its test, and a fault of the disk the rise of its count
pub kept_unless_failed : (before after : ℕ) (s : State) (t : Ticketed) (blob : List ℕ) (r : Finished) (new : State) → Finishes s t blob r new → IsCountedFinished before after r → IsKeptUnlessFailed before after s t blob r
kept_unless_failed before after s t blob finished.Stranger new x counted = inr (inl x.0)
kept_unless_failed before after s t blob (finished.Overtaken cut) new x counted = inr (inr (inl (x.0, cut, x.1)))
kept_unless_failed before after s t blob finished.Full new x counted = inr (inr (inr (inl x.2)))
kept_unless_failed before after s t blob finished.NoRoom new x counted = inr (inr (inr (inr (inl x.3))))
kept_unless_failed before after s t blob (finished.DiskFault b a) new x counted = inr (inr (inr (inr (inr (subst (λ n. Rose before n) counted.1 (subst (λ n. Rose n a) counted.0 x.4))))))
kept_unless_failed before after s t blob finished.Kept new x counted = inl refl
