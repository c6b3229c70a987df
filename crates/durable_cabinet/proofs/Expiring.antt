-- An expiry of a cabinet on a disk.
use Rattle.std.proofs.Common.{ℕ, ◌≡◌, ◌⊎◌, Bool, IsTrue, Some, Result, refl, ap, ◌∙◌, inl, inr}
use Rattle.std.specs.Option.{is_some}
use Rattle.base.specs.Causes.{Rose}
use Rattle.disk_model.specs.Content.{Content}
use Rattle.disk_model.specs.Images.{DiskState}
use Rattle.disk_model.specs.Moments.{leaves_as}
use Rattle.gate_journal.specs.declared.journal.Journal.{Journal}
use Rattle.metatile_plan.specs.declared.metatile.MetaKey.{MetaKey}
use Rattle.cabinet.specs.declared.kept.Kept.{Kept}
use Rattle.cabinet.specs.declared.replies.Expired.TheVariants as expired
use Rattle.cabinet.specs.Commands.{Expires}
use Rattle.cabinet.specs.State.{State, with_dropped}
use Rattle.cabinet.specs.Steps.{GoesFirst}
use Rattle.durable_cabinet.specs.Backing.{WritesRecord}
use Rattle.durable_cabinet.specs.Filed.{on_disk}
use Rattle.durable_cabinet.specs.Images.{IsLeft, Lasts, Restores}
use Rattle.durable_cabinet.proofs.Moving.{dropped_on}

module _ (told : Bool) (s : State) (t : Kept) (goes : GoesFirst s (Some t)) (old new : DiskState) where
  abbrev before_drop : State
  before_drop = on_disk told old.seen s

  pub drop_row_on : (seen : Content) → on_disk told seen (with_dropped s t.meta) ≡ on_disk told old.seen (with_dropped s t.meta) → Expires before_drop (expired.Dropped t.meta) (on_disk told seen (with_dropped s t.meta))
  drop_row_on seen same = (goes.0, goes.1, goes.2, same ∙ dropped_on told old.seen s t.meta)

  pub fault_row_on : (before after : ℕ) → Rose before after → on_disk told new.seen s ≡ before_drop → Expires before_drop (expired.DiskFault before after) (on_disk told new.seen s)
  fault_row_on before after rose same = (ap (λ o. is_some o) goes.1, rose, same)

  pub drop_images : {T E : Type 0} (result : Result T E) (start : ℕ) (j j' : Journal) → WritesRecord result told s s (with_dropped s t.meta) start j j' old new → IsTrue told
      → Lasts before_drop (λ u. (m : MetaKey) × Expires before_drop (expired.Dropped m) u) j old new
  drop_images result start j j' w is =
      leaves_as old new (λ image. IsLeft before_drop j old image ⊎ Restores (on_disk told old.seen (with_dropped s t.meta)) image) _ (w.images is) (λ image left. moment image left)
    where
      moment : (image : Content) → IsLeft before_drop j old image ⊎ Restores (on_disk told old.seen (with_dropped s t.meta)) image
          → IsLeft before_drop j old image ⊎ ((u : State) × ((m : MetaKey) × Expires before_drop (expired.Dropped m) u) × Restores u image)
      moment image (inl left) = inl left
      moment image (inr restores) = inr (on_disk told old.seen (with_dropped s t.meta), (t.meta, drop_row_on old.seen refl), restores)
