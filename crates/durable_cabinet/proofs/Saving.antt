-- A saving of uses of a cabinet on a disk.
use Rattle.std.proofs.Common.{ℕ, ◌≡◌, ◌⊎◌, Bool, IsTrue, Some, Result, refl, ◌∙◌, inl, inr}
use Rattle.base.specs.Causes.{Rose}
use Rattle.disk_model.specs.Content.{Content}
use Rattle.disk_model.specs.Images.{DiskState}
use Rattle.disk_model.specs.Moments.{leaves_as}
use Rattle.gate_journal.specs.declared.journal.Journal.{Journal}
use Rattle.metatile_plan.specs.declared.metatile.MetaKey.{MetaKey}
use Rattle.cabinet.specs.declared.judged.Unsaved.{Unsaved}
use Rattle.cabinet.specs.declared.replies.Saved.TheVariants as saved
use Rattle.cabinet.specs.Commands.{Saves}
use Rattle.cabinet.specs.State.{State, with_counted}
use Rattle.cabinet.specs.Counted.{uses}
use Rattle.cabinet.specs.Steps.{IsUnsavedFirst}
use Rattle.durable_cabinet.specs.Backing.{WritesRecord}
use Rattle.durable_cabinet.specs.Filed.{on_disk}
use Rattle.durable_cabinet.specs.Images.{IsLeft, Lasts, Restores}
use Rattle.durable_cabinet.proofs.Moving.{counted_on}

module _ (told : Bool) (s : State) (t : Unsaved) (goes : IsUnsavedFirst s (Some t)) (old new : DiskState) where
  abbrev before_save : State
  before_save = on_disk told old.seen s

  pub save_row_on : (seen : Content) → on_disk told seen (with_counted s t.kept.meta (uses s.history t.kept.meta)) ≡ on_disk told old.seen (with_counted s t.kept.meta (uses s.history t.kept.meta)) → Saves before_save (saved.Done t.kept.meta) (on_disk told seen (with_counted s t.kept.meta (uses s.history t.kept.meta)))
  save_row_on seen same = (goes.0, same ∙ counted_on told old.seen s t.kept.meta (uses s.history t.kept.meta))

  pub fault_row_on : (before after : ℕ) → Rose before after → on_disk told new.seen s ≡ before_save → Saves before_save (saved.DiskFault before after) (on_disk told new.seen s)
  fault_row_on before after rose same = ((t.kept.meta, goes.0), rose, same)

  pub save_images : {T E : Type 0} (result : Result T E) (start : ℕ) (j j' : Journal) → WritesRecord result told s s (with_counted s t.kept.meta (uses s.history t.kept.meta)) start j j' old new → IsTrue told
      → Lasts before_save (λ u. (m : MetaKey) × Saves before_save (saved.Done m) u) j old new
  save_images result start j j' w is =
      leaves_as old new (λ image. IsLeft before_save j old image ⊎ Restores (on_disk told old.seen (with_counted s t.kept.meta (uses s.history t.kept.meta))) image) _ (w.images is) (λ image left. moment image left)
    where
      moment : (image : Content) → IsLeft before_save j old image ⊎ Restores (on_disk told old.seen (with_counted s t.kept.meta (uses s.history t.kept.meta))) image
          → IsLeft before_save j old image ⊎ ((u : State) × ((m : MetaKey) × Saves before_save (saved.Done m) u) × Restores u image)
      moment image (inl left) = inl left
      moment image (inr restores) = inr (on_disk told old.seen (with_counted s t.kept.meta (uses s.history t.kept.meta)), (t.kept.meta, save_row_on old.seen refl), restores)
