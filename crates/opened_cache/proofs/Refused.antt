-- A content that is refused doesn't open, so an opening leaves it as it was.
use Rattle.std.proofs.Common.{inl, inr}
use Rattle.std.specs.Prelude.{IsTrue}
use Rattle.catalog.specs.declared.catalogue.Catalogue.{Catalogue}
use Rattle.cabinet_records.specs.Replay.{Replayed}
use Rattle.disk_model.specs.Content.{Content}
use Rattle.disk_model.specs.Images.{Leaves}
use Rattle.disk_model.specs.Moments.{leaves_as}
use Rattle.durable_cabinet.specs.Filed.{IsRefusedAs}
use Rattle.durable_cabinet.specs.Images.{OpensTo}
use Rattle.gate_journal.specs.declared.fault.OpenFault.{OpenFault}
use Rattle.gate_journal.specs.declared.fault.OpenFault.TheVariants as fault
use Rattle.opened_cache.specs.Change.{DiskChange}
use Rattle.opened_cache.specs.Crash.{LeftByOpening, OpeningLeaves}
use Rattle.opened_cache.specs.Opened.{RefusalLeaves}
use Rattle.opened_cache.proofs.Refusing.{bad_or_opened, not_none, not_other}

module _ (c : Catalogue) (d : DiskChange) where
  unopened : ((r : Replayed) → OpensTo c d.from.seen r → ⊥) → (image : Content) → LeftByOpening c d.from image → d.from.may_leave image
  unopened never image (inl was) = was
  unopened never image (inr (r, opens, like, ours)) = absurd (never r opens)

  stays : OpeningLeaves c d → (told : IsTrue d.told) → ((r : Replayed) → OpensTo c d.from.seen r → ⊥) → Leaves d.from d.to d.from.may_leave
  stays leaves told never = leaves_as d.from d.to (LeftByOpening c d.from) d.from.may_leave (leaves told) (unopened never)

  pub refusal_leaves : (cause : OpenFault) → IsRefusedAs d.told c d.from.seen d.faults.before d.faults.after cause → OpeningLeaves c d → RefusalLeaves c d cause
  refusal_leaves fault.NotACache x leaves = λ told. stays leaves told (λ r o. not_none _ o.version o.bodies (x told) o.opens)
  refusal_leaves (fault.CatalogueDiffers found asked) x leaves = λ told. stays leaves told (λ r o. not_other _ found o.version o.bodies (x.1 told) o.opens)
  refusal_leaves (fault.BadRecord slot) x leaves = λ told. stays leaves told (λ r o. bad_or_opened c d told slot r x o)
  refusal_leaves fault.Spent x leaves = leaves
  refusal_leaves fault.DiskFault x leaves = leaves
  refusal_leaves fault.OutOfMemory x leaves = leaves
